-- what the two ends of a true branch's lines answer
use Rattle.std.proofs.Common.{◌≡◌, inl, inr, ℕ, ◌-◌, ◌<◌, ◌≤◌, List, length, arith, refl, sym, subst}
use Rattle.lex_height.specs.Entries.{entries}
use Rattle.lex_height.specs.Values as lex
use Rattle.cayley.specs.declared.found.Begin.{Begin}
use Rattle.cayley.specs.declared.found.Begin.TheVariants as begin
use Rattle.cayley.specs.Times.{Time}
use Rattle.cayley.specs.Problems.{Problem, IsProblem}
use Rattle.cayley.specs.Cells.{Cell, IsOf}
use Rattle.cayley.specs.Dependencies.{IsFurtherAt}
use Rattle.cayley.specs.Flips.{IsOnlyLevel}
use Rattle.cayley.specs.Lives.{AliveLate, EndsAt}
use Rattle.cayley.specs.Mixed.{IsAlive}
use Rattle.cayley.specs.Normals.{Normal, IsNormal}
use Rattle.cayley.proofs.Flipping.Places.{further_bound}
use Rattle.cayley.proofs.OneCell.CellRows.{InRange}
use Rattle.cayley.proofs.Lists.Pairs.{pairs_long}
use Rattle.crossing.specs.declared.line.WallLine.{WallLine}
use Rattle.crossing.specs.declared.entry.Entry.{Entry}
use Rattle.crossing.specs.declared.entry.Entry.TheVariants as entry
use Rattle.crossing.specs.declared.exit.Exit.{Exit}
use Rattle.crossing.specs.declared.exit.Exit.TheVariants as exit
use Rattle.crossing.specs.Leading.{nth}
use Rattle.crossing.specs.Entries.{IsEntry}
use Rattle.crossing.specs.Exits.{IsExit}
use Rattle.cone_walls.specs.Places.{AreOfFurtherPoints}
use Rattle.cone_walls.specs.Sides.{TellSides}
use Rattle.inner_normal.specs.Coefficients.{difference, FitsCoefficients}
use Rattle.inner_normal.specs.Inverses.{Inverse, IsInverseOf}
use Rattle.inner_normal.specs.declared.moving.MovingNormal.{MovingNormal}
use Rattle.searcher.specs.declared.branches.Branch.{Branch}
use Rattle.searcher.specs.declared.expansions.HaltCause.TheVariants as cause
use Rattle.searcher.specs.CellWalls.{AreLinesOf, FitCircuitsBy, IsSaid, tie_between}
use Rattle.searcher.specs.Ends.{IsTiedAtBegin}
use Rattle.searcher.specs.Expansions.{IsOfKind, inner, IsSettled, IsTied, IsCause}
use Rattle.searcher.proofs.LinePoints.{further_of}
use Rattle.searcher.proofs.TwoEnds.{some_alive}
use Rattle.searcher.proofs.TiedEnds.{begin_tied, begin_alone, begin_never, end_tied, end_alone, end_wall, end_never, end_flat}

-- not two lines
abbrev pub IsNotTied : Entry → Type 0
IsNotTied entry.Always = Unit {0}
IsNotTied (entry.At u which) = Unit {0}
IsNotTied (entry.Tied u first second) = ⊥
IsNotTied entry.Dead = Unit {0}

pub not_tied : (e : Entry) → ((u : lex.Value) (first second : ℕ) → e ≡ entry.Tied u first second → ⊥) → IsNotTied e
not_tied entry.Always h = tt
not_tied (entry.At u which) h = tt
not_tied (entry.Tied u first second) h = h u first second refl
not_tied entry.Dead h = tt

-- the wall of a line's point, where a cell ends
pub record IsAtWall (p : Problem) (sigma : Cell) (u : lex.Value) (l : WallLine) (made : Inverse) : Type 0 where
  pub cell : IsOf p sigma
  pub point : (1 ≤ l.support) × (l.support ≤ p.dimension) × IsFurtherAt p sigma (l.support - 1) l.position
  pub inverse : IsInverseOf p sigma made
  pub fits : FitsCoefficients (l.support - 1) made (difference p sigma (l.support - 1) l.position)
  pub wall : (t : Time) × (t.entries ≡ entries u.parts) × (t.over ≡ u.den) × EndsAt p sigma t
      × ((v : Normal) × IsNormal p sigma t v × IsOnlyLevel p sigma t v (l.support - 1) l.position)

never_dead : (b : Begin) → ¬ (IsSaid b entry.Dead)
never_dead begin.Start h = h
never_dead (begin.At t) h = h

module _ (p : Problem) (b : Branch) (well : IsProblem p) (normal : MovingNormal) (lines : List WallLine) (w : AreLinesOf p b.cell normal lines) (s : IsSettled p b) where
  pub entry_cause : (u : lex.Value) (first second : ℕ) (x : Exit) → IsEntry lines (entry.Tied u first second) → IsExit lines x → IsCause p b (cause.Tie (tie_between b.cell lines u first second))
  entry_cause u first second x ie ix =
      let h = begin_tied p b.cell well lines w.places w.sides w.life x ix u first second ie in
      ((s, inl h.0), inl h.1)

  pub begin_not : (e : Entry) → IsEntry lines e → IsSaid b.begin e → IsNotTied e → (x : Exit) → IsExit lines x → ¬ (IsTiedAtBegin p b.cell)
  begin_not entry.Always i h n x ix = begin_never p b.cell well lines w.places w.sides w.life x ix i
  begin_not (entry.At u which) i h n x ix = begin_alone p b.cell well lines w.places w.sides w.life x ix u which i
  begin_not (entry.Tied u first second) i h n x ix = absurd n
  begin_not entry.Dead i h n x ix = absurd (never_dead b.begin h)

-- a true branch whose cell isn't tied where it begins
module _ (p : Problem) (b : Branch) (well : IsProblem p) (lines : List WallLine) (places : AreOfFurtherPoints p b.cell lines) (sides : TellSides p b.cell lines) (s : IsSettled p b) where
  some_time : (t : Time) × IsAlive p b.cell t
  some_time = some_alive p b.cell b.begin s.2

  pub never_flat : (which : ℕ) → IsExit lines (exit.Flat which) → ⊥
  never_flat which ix = end_flat p b.cell well lines places sides some_time.0 some_time.1 which ix

  module _ (n : ¬ (IsTiedAtBegin p b.cell)) where
    pub exit_cause : (u : lex.Value) (first second : ℕ) → IsExit lines (exit.Tied u first second) → IsCause p b (cause.Tie (tie_between b.cell lines u first second))
    exit_cause u first second ix =
        let h = end_tied p b.cell well lines places sides some_time.0 some_time.1 u first second ix in
        ((s, inr h.0), inr (n, h.1))

    pub inner_kind : (u : lex.Value) (which : ℕ) → IsExit lines (exit.At u which) → IsOfKind p b inner
    inner_kind u which ix =
        let h = end_alone p b.cell well lines places sides some_time.0 some_time.1 u which ix in
        (s, (λ t. elim t [ inl a ↦ n a | inr a ↦ h.0 a ]), h.1)

    pub never_ends : IsExit lines exit.Never → ¬ (IsTied p b.cell) × AliveLate p b.cell
    never_ends ix =
        let h = end_never p b.cell well lines places sides some_time.0 some_time.1 ix in
        ((λ t. elim t [ inl a ↦ n a | inr a ↦ h.0 a ]), h.1)

  -- ---- the line of the wall
  module _ (u : lex.Value) (which : ℕ) (ix : IsExit lines (exit.At u which)) where
    pub inside : which - 1 < length lines
    inside = let a = ix.3.0.0 in let c = ix.3.0.1 in omega (arith, a, c)

    module _ (l : WallLine) (is : l ≡ nth lines (which - 1)) where
      point : (1 ≤ l.support) × IsFurtherAt p b.cell (l.support - 1) l.position
      point = subst (λ (k : WallLine). (1 ≤ k.support) × IsFurtherAt p b.cell (k.support - 1) k.position) (sym is)
          (further_of p b.cell well some_time.1.0 some_time.1.1 lines places sides (which - 1) inside)

      pub wall_point : (1 ≤ l.support) × (l.support ≤ p.dimension) × IsFurtherAt p b.cell (l.support - 1) l.position
      wall_point =
          let c = pairs_long p.supports b.cell InRange some_time.1.0 in
          let a = further_bound p.supports b.cell (l.support - 1) l.position c point.1 in
          let d = well.supports in
          let f = point.0 in
          (f, omega (arith, a, c, d, f), point.1)

      pub wall_end : (t : Time) × (t.entries ≡ entries u.parts) × (t.over ≡ u.den) × EndsAt p b.cell t
          × ((v : Normal) × IsNormal p b.cell t v × IsOnlyLevel p b.cell t v (l.support - 1) l.position)
      wall_end =
          subst (λ (k : WallLine). (t : Time) × (t.entries ≡ entries u.parts) × (t.over ≡ u.den) × EndsAt p b.cell t
          × ((v : Normal) × IsNormal p b.cell t v × IsOnlyLevel p b.cell t v (k.support - 1) k.position)) (sym is)
          (end_wall p b.cell well lines places sides some_time.0 some_time.1 u which ix)

      -- what the flips at the wall ask for, of a cell that is the branch's
      pub kept_by : (inverse : Inverse) → FitCircuitsBy p b.cell inverse → (cell : Cell) → b.cell ≡ cell → IsAtWall p cell u l inverse
      kept_by inverse h cell q = subst (λ z. IsAtWall p z u l inverse) q
          (record { cell = some_time.1.0; point = wall_point; inverse = h.0; fits = h.1 (l.support - 1) l.position point.1; wall = wall_end })
