-- what becomes of a cell until time 1, by the exit of its lines
use Rattle.std.proofs.Common.{◌≡◌, inl, inr, ℕ, ◌-◌, ◌<◌, ◌≤◌, List, [], ◌∷◌, length, arith, refl, sym, subst}
use Rattle.lex_height.specs.Entries.{entries}
use Rattle.lex_height.specs.Values as lex
use Rattle.cayley.specs.Times.{Time, IsBefore, IsSameTime}
use Rattle.cayley.specs.Problems.{Problem, IsProblem}
use Rattle.cayley.specs.Cells.{Cell}
use Rattle.cayley.specs.Mixed.{IsAlive}
use Rattle.cayley.specs.Dependencies.{IsFurtherAt}
use Rattle.cayley.specs.Flips.{IsOnlyLevel}
use Rattle.cayley.specs.Lives.{EndsAt}
use Rattle.cayley.specs.Normals.{Normal, IsNormal}
use Rattle.cayley.specs.Parents.InChain.{here}
use Rattle.cayley.proofs.Flipping.Places.{further_bound}
use Rattle.cayley.proofs.Life.Levels.{before_none_below}
use Rattle.cayley.proofs.OneCell.CellNormals.{a_normal}
use Rattle.cayley.proofs.OneCell.CellRows.{InRange}
use Rattle.cayley.proofs.Order.Lines.{before_trans}
use Rattle.cayley.proofs.Order.Times.{never_before}
use Rattle.cayley.proofs.Searching.Members.{has_contains}
use Rattle.cayley.proofs.Lists.Pairs.{pairs_long}
use Rattle.crossing.specs.declared.line.WallLine.{WallLine}
use Rattle.crossing.specs.declared.entry.Entry.{Entry}
use Rattle.crossing.specs.declared.exit.Exit.{Exit}
use Rattle.crossing.specs.declared.exit.Exit.TheVariants as exit
use Rattle.crossing.specs.Leading.{nth}
use Rattle.crossing.specs.Entries.{IsEntry}
use Rattle.crossing.specs.Exits.{IsExit}
use Rattle.inner_normal.specs.declared.moving.MovingNormal.{MovingNormal}
use Rattle.searcher.specs.declared.expansions.HaltCause.TheVariants as cause
use Rattle.searcher.specs.declared.passing.Passage.TheVariants.{Reached, Ended}
use Rattle.searcher.specs.CellWalls.{AreLinesOf, tie_between}
use Rattle.searcher.specs.Workings.{FitsWorking}
use Rattle.searcher.specs.Passes.{time_one, IsOnItsWay, IsPassage, IsHaltOnTheWay}
use Rattle.searcher.proofs.LinePoints.{further_of}
use Rattle.searcher.proofs.OnTheWay.{ends_after, itself_alone, endless_alone, none_at_one, after_zero}
use Rattle.searcher.proofs.ShownEnds.{shown}
use Rattle.searcher.proofs.TiedEnds.{end_tied, end_wall, end_never, end_flat}
use Rattle.searcher.proofs.TwoEnds.{Until, after_later}

-- a cell whose working doesn't fit
pub unfit_halt : (p : Problem) (cell : Cell) → IsOnItsWay p cell → (z : Cell) → z ≡ cell → ¬ (FitsWorking p cell) → IsHaltOnTheWay p (cell ∷ []) (cause.Overflow z)
unfit_halt p cell way z e n =
    subst (λ x. IsHaltOnTheWay p (cell ∷ []) (cause.Overflow x)) (sym e) (way.3.0, n, (cell, has_contains (cell ∷ []) cell (inl refl), here))

module _ (p : Problem) (cell : Cell) (well : IsProblem p) (normal : MovingNormal) (lines : List WallLine) (w : AreLinesOf p cell normal lines) (way : IsOnItsWay p cell) where
  module _ (e : Entry) (ie : IsEntry lines e) where
    at_one : (x : Exit) → IsExit lines x → Until x time_one → IsAlive p cell time_one
    at_one x ix b = (w.life e x ie ix time_one).1 (after_later lines e ie way.0 time_one ((w.life e x ie ix way.0).0 way.3).0 way.2, b)

    pub no_flat : (which : ℕ) → IsExit lines (exit.Flat which) → ⊥
    no_flat which ix = end_flat p cell well lines w.places w.sides way.0 way.3 which ix

    pub never_ended : IsExit lines exit.Never → IsPassage p cell Reached
    never_ended ix =
        let h = end_never p cell well lines w.places w.sides way.0 way.3 ix in
        (at_one exit.Never ix tt, λ tau r. endless_alone p well cell tau h.1 r.1)

    -- ---- it ends after 1
    late : (x : Exit) → IsExit lines x → (t : Time) → EndsAt p cell t → IsBefore time_one t → Until x time_one → IsPassage p cell Reached
    late x ix t ends b until = (at_one x ix until, λ tau r. itself_alone p well cell t ends (λ l. never_before time_one (before_trans time_one t time_one b (inl l))) tau r)

    module _ (u : lex.Value) (which : ℕ) (ix : IsExit lines (exit.At u which)) where
      wall : (t : Time) × (t.entries ≡ entries u.parts) × (t.over ≡ u.den) × EndsAt p cell t
          × ((v : Normal) × IsNormal p cell t v × IsOnlyLevel p cell t v ((nth lines (which - 1)).support - 1) (nth lines (which - 1)).position)
      wall = end_wall p cell well lines w.places w.sides way.0 way.3 u which ix

      pub one_late : ((t : Time) → t.entries ≡ entries u.parts → t.over ≡ u.den → IsBefore time_one t) → IsPassage p cell Reached
      one_late h = late (exit.At u which) ix wall.0 wall.3 (h wall.0 wall.1 wall.2) (h (record { entries = entries u.parts; over = u.den; positive = ix.1.0.2 }) refl refl)

      pub one_ended : ((t : Time) → t.entries ≡ entries u.parts → t.over ≡ u.den → IsSameTime t time_one) → IsPassage p cell Ended
      one_ended h = none_at_one p well cell wall.0 wall.3 (h wall.0 wall.1 wall.2)

      pub inside : which - 1 < length lines
      inside = let a = ix.3.0.0 in let c = ix.3.0.1 in omega (arith, a, c)

      pub wall_ends : (t : Time) × (t.entries ≡ entries u.parts) × (t.over ≡ u.den) × EndsAt p cell t
      wall_ends = (wall.0, wall.1, wall.2, wall.3)

      module _ (l : WallLine) (is : l ≡ nth lines (which - 1)) where
        point : (1 ≤ l.support) × IsFurtherAt p cell (l.support - 1) l.position
        point = subst (λ (k : WallLine). (1 ≤ k.support) × IsFurtherAt p cell (k.support - 1) k.position) (sym is)
            (further_of p cell well w.moving.of w.moving.independent lines w.places w.sides (which - 1) inside)

        pub wall_point : (1 ≤ l.support) × (l.support ≤ p.dimension) × IsFurtherAt p cell (l.support - 1) l.position
        wall_point =
            let c = pairs_long p.supports cell InRange w.moving.of in
            let a = further_bound p.supports cell (l.support - 1) l.position c point.1 in
            let d = well.supports in
            let f = point.0 in
            (f, omega (arith, a, c, d, f), point.1)

        pub at_wall : (t : Time) × (t.entries ≡ entries u.parts) × (t.over ≡ u.den) × EndsAt p cell t
            × ((v : Normal) × IsNormal p cell t v × IsOnlyLevel p cell t v (l.support - 1) l.position)
        at_wall =
            subst (λ (k : WallLine). (t : Time) × (t.entries ≡ entries u.parts) × (t.over ≡ u.den) × EndsAt p cell t
            × ((v : Normal) × IsNormal p cell t v × IsOnlyLevel p cell t v (k.support - 1) k.position)) (sym is) wall

    module _ (u : lex.Value) (first second : ℕ) (ix : IsExit lines (exit.Tied u first second)) where
      pub two_late : ((t : Time) → t.entries ≡ entries u.parts → t.over ≡ u.den → IsBefore time_one t) → IsPassage p cell Reached
      two_late h =
          let k = end_tied p cell well lines w.places w.sides way.0 way.3 u first second ix in
          late (exit.Tied u first second) ix k.1.0 k.1.1 (h k.1.0 k.1.2.1.0 k.1.2.1.1) (h (record { entries = entries u.parts; over = u.den; positive = ix.1.0.2 }) refl refl)

      pub two_tied : ((t : Time) → t.entries ≡ entries u.parts → t.over ≡ u.den → ¬ (IsBefore time_one t)) → IsHaltOnTheWay p (cell ∷ []) (cause.Tie (tie_between cell lines u first second))
      two_tied n =
          let k = end_tied p cell well lines w.places w.sides way.0 way.3 u first second ix in
          let t = k.1.0 in
          let a = way.3 in
          let v = a_normal p cell well a.0 a.1 t in
          let s = shown p well cell (tie_between cell lines u first second) t v.0 a.0 a.1 v.1 (before_none_below p cell well t v.0 k.1.1.0 v.1) k.1.2 in (
            (t, k.1.2.1, after_zero way.0 t way.1 (ends_after p well cell t way.0 k.1.1 way.3), n t k.1.2.1.0 k.1.2.1.1, (s, inr k.1.1)),
            (cell, has_contains (cell ∷ []) cell (inl refl), here),
          )
