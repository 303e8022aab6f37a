-- a cell is alive exactly where all its lines are positive
use Rattle.std.proofs.Common.{◌≡◌, ◌↔◌, suc, ◌-◌, List, arith, sym, subst}
use Rattle.std.specs.Prelude.{All}
use Rattle.int_vectors.specs.Vectors.{Each, IsPositive}
use Rattle.cayley.specs.Times.{Time}
use Rattle.cayley.specs.Problems.{Problem, IsProblem}
use Rattle.cayley.specs.Cells.{Cell, IsOf, IsIndependent}
use Rattle.cayley.specs.Dependencies.{pair_at, IsFurtherAt, nth_support}
use Rattle.cayley.specs.Normals.{IsAbove}
use Rattle.cayley.specs.Mixed.{IsAlive}
use Rattle.int_vectors.proofs.Each.{all_each, each_all, each_weaker, each_both}
use Rattle.cayley.proofs.OneCell.OneNormal.{one_normal_law, alive_by_any_normal}
use Rattle.crossing.specs.declared.line.WallLine.{WallLine}
use Rattle.crossing.specs.declared.entry.Entry.TheVariants.{Dead}
use Rattle.crossing.specs.Lines.{value, ArePositive}
use Rattle.crossing.specs.Entries.{IsEntry}
use Rattle.crossing.proofs.Between.{positive_between_is}
use Rattle.cayley.proofs.Life.NamedTies.{pair_place}
use Rattle.cayley.proofs.Lists.Pairs.{pairs_further}
use Rattle.cone_walls.specs.Lives.{IsNeverAlive, LivesBetween}
use Rattle.cone_walls.specs.Places.{AreOfFurtherPoints}
use Rattle.cone_walls.specs.Sides.{TellsSide, TellSides}
use Rattle.cone_walls.proofs.FurtherLines.{each_has}

-- ---- from places to pairs and back

each_all_lines : (P : WallLine → Type 0) (lines : List WallLine) → Each lines P → All P lines
each_all_lines P lines h k d l = all_each P lines h k d l

-- a further point is that of each line
abbrev pub AreFurther : Problem → Cell → List WallLine → Type 0
AreFurther p cell lines = Each lines (λ l. IsFurtherAt p cell (l.support - 1) l.position)

module _ (p : Problem) (cell : Cell) (well : IsProblem p) (of : IsOf p cell) (ind : IsIndependent p cell) (lines : List WallLine) (further : AreFurther p cell lines) (places : AreOfFurtherPoints p cell lines) (sides : TellSides p cell lines) (t : Time) where
  pub alive_positive : IsAlive p cell t → ArePositive lines t.entries t.over
  alive_positive alive =
      let v = (one_normal_law p cell t well of ind).0 in
      let above = (alive_by_any_normal p cell t v.0 well of ind v.1).0 alive in
      each_all_lines (λ l. IsPositive (value l t.entries t.over)) lines
      (each_weaker (λ l. IsFurtherAt p cell (l.support - 1) l.position × TellsSide p cell t v.0 l) (λ l. IsPositive (value l t.entries t.over)) lines
      (λ l h. h.1.0.1 (pair_place (λ s a c. IsAbove t v.0 s a c) p.supports cell above (l.support - 1) l.position h.0))
      (each_both (λ l. IsFurtherAt p cell (l.support - 1) l.position) (TellsSide p cell t v.0) lines further (sides t v.0 v.1)))

  pub positive_alive : ArePositive lines t.entries t.over → IsAlive p cell t
  positive_alive h =
      let v = (one_normal_law p cell t well of ind).0 in
      let above = each_weaker (λ l. IsPositive (value l t.entries t.over) × TellsSide p cell t v.0 l) (λ l. IsAbove t v.0 (nth_support p.supports (l.support - 1)) (pair_at cell (l.support - 1)).0 l.position) lines
      (λ l k. k.1.0.0 k.0)
      (each_both (λ l. IsPositive (value l t.entries t.over)) (TellsSide p cell t v.0) lines (each_all (λ l. IsPositive (value l t.entries t.over)) lines h) (sides t v.0 v.1)) in
      (alive_by_any_normal p cell t v.0 well of ind v.1).1
      (pairs_further (λ s a c. IsAbove t v.0 s a c) _ p.supports cell of
      (λ j c f.
      let w : j ≡ suc j - 1 = omega arith in
      subst (λ z. IsAbove t v.0 (nth_support p.supports z) (pair_at cell z).0 c) (sym w)
      (each_has (λ k d. IsAbove t v.0 (nth_support p.supports (k - 1)) (pair_at cell (k - 1)).0 d) lines (suc j) c above ((places.1 (suc j) c).1 (omega arith, subst (λ z. IsFurtherAt p cell z c) w f)))))

module _ (p : Problem) (cell : Cell) (well : IsProblem p) (of : IsOf p cell) (ind : IsIndependent p cell) (lines : List WallLine) (further : AreFurther p cell lines) (places : AreOfFurtherPoints p cell lines) (sides : TellSides p cell lines) where
  pub never_dead : IsNeverAlive p cell ↔ IsEntry lines Dead
  never_dead = (
    (λ never live. never (record { entries = live.0; over = live.1; positive = live.2 }) (positive_alive p cell well of ind lines further places sides (record { entries = live.0; over = live.1; positive = live.2 }) live.3)),
    (λ dead t alive. dead (t.entries, t.over, t.positive, alive_positive p cell well of ind lines further places sides t alive)),
  )

  pub lives_between : LivesBetween p cell lines
  lives_between e x he hx t =
      let b = positive_between_is lines e x he hx t.entries t.over t.positive in
      ((λ alive. b.0 (alive_positive p cell well of ind lines further places sides t alive)), (λ h. positive_alive p cell well of ind lines further places sides t (b.1 h)))
