-- what the end of a cell answers for a branch that the search made
use Rattle.std.proofs.Common.{◌≡◌, ◌-◌, ◌≤◌, refl, sym, subst}
use Rattle.std.specs.Prelude.{Some}
use Rattle.lex_height.specs.Entries.{entries}
use Rattle.lex_height.specs.Values as lex
use Rattle.cayley.specs.declared.found.Place.{Place}
use Rattle.cayley.specs.Times.{Time}
use Rattle.cayley.specs.Problems.{Problem, IsProblem}
use Rattle.cayley.specs.Cells.{Cell}
use Rattle.cayley.specs.Dependencies.{IsFurtherAt}
use Rattle.cayley.specs.Flips.{IsOnlyLevel}
use Rattle.cayley.specs.Lives.{AliveLate, EndsAt}
use Rattle.cayley.specs.Normals.{Normal, IsNormal}
use Rattle.crossing.specs.Leading.{nth}
use Rattle.inner_normal.specs.declared.moving.MovingNormal.{MovingNormal}
use Rattle.searcher.specs.declared.branches.Branch.{Branch}
use Rattle.searcher.specs.declared.expansions.HaltCause.TheVariants as cause
use Rattle.cone_walls.specs.declared.endings.End.{End}
use Rattle.cone_walls.specs.declared.endings.End.TheVariants.{Never, At, Tied}
use Rattle.cone_walls.specs.declared.fronts.Fall.{Fall}
use Rattle.cone_walls.specs.declared.fronts.Front.{Front}
use Rattle.cone_walls.specs.declared.fronts.Front.TheVariants.{Empty, One, Two}
use Rattle.cone_walls.specs.Fronts.{place_by, IsTimeOf}
use Rattle.cone_walls.specs.Ends.{IsEnd, IsEndOf, IsFrontOf, place_at}
use Rattle.searcher.specs.Ends.{IsTiedAtBegin}
use Rattle.searcher.specs.Expansions.{IsOfKind, inner, IsSettled, IsTied, IsCause}
use Rattle.searcher.proofs.EndCauses.{exit_cause, inner_kind, never_ends, wall_point, wall_end}
use Rattle.searcher.proofs.TwoEnds.{some_alive}

-- the point is a further one, and there the cell ends
abbrev pub IsAtPoint : Problem → Cell → Place → Type 0
IsAtPoint p cell place = (1 ≤ place.support) × (place.support ≤ p.dimension) × IsFurtherAt p cell (place.support - 1) place.position

abbrev pub IsAtWall : Problem → Cell → lex.Value → Place → Type 0
IsAtWall p cell u place = (t : Time) × (t.entries ≡ entries u.parts) × (t.over ≡ u.den) × EndsAt p cell t
    × ((v : Normal) × IsNormal p cell t v × IsOnlyLevel p cell t v (place.support - 1) place.position)

-- the end that a front tells
module _ (p : Problem) (cell : Cell) (m : MovingNormal) (front : Front) where
  pub ends_never : front ≡ Empty → IsFrontOf p cell m front → IsEndOf p cell m Never
  ends_never e h = subst (IsFrontOf p cell m) e h Never refl

  pub ends_one : (f : Fall) → front ≡ One f → IsFrontOf p cell m front → (u : lex.Value) → IsTimeOf f u → IsEndOf p cell m (At u (place_by f))
  ends_one f e h u t = subst (IsFrontOf p cell m) e h (At u (place_by f)) (u, t, refl)

  pub ends_two : (f g : Fall) → front ≡ Two f g → IsFrontOf p cell m front → (u : lex.Value) → IsTimeOf f u → IsEndOf p cell m (Tied u (place_by f) (place_by g))
  ends_two f g e h u t = subst (IsFrontOf p cell m) e h (Tied u (place_by f) (place_by g)) (u, t, refl)

module _ (p : Problem) (b : Branch) (well : IsProblem p) (s : IsSettled p b) (m : MovingNormal) where
  is_end : (end : End) (h : IsEndOf p b.cell m end) → IsEnd h.0 end
  is_end end h = let a = some_alive p b.cell b.begin s.2 in h.2 a.0 a.1

  pub at_point : (u : lex.Value) (place : Place) → IsEndOf p b.cell m (At u place) → IsAtPoint p b.cell place
  at_point u place h =
      let x = is_end (At u place) h in
      subst (IsAtPoint p b.cell) (sym x.2) (wall_point p b well h.0 h.1.places h.1.sides s u x.0 x.1 (nth h.0 (x.0 - 1)) refl)

  pub at_wall : (u : lex.Value) (place : Place) → IsEndOf p b.cell m (At u place) → IsAtWall p b.cell u place
  at_wall u place h =
      let x = is_end (At u place) h in
      subst (IsAtWall p b.cell u) (sym x.2) (wall_end p b well h.0 h.1.places h.1.sides s u x.0 x.1 (nth h.0 (x.0 - 1)) refl)

  module _ (n : ¬ (IsTiedAtBegin p b.cell)) where
    pub at_inner : (u : lex.Value) (place : Place) → IsEndOf p b.cell m (At u place) → IsOfKind p b inner
    at_inner u place h = let x = is_end (At u place) h in inner_kind p b well h.0 h.1.places h.1.sides s n u x.0 x.1

    pub at_no_end : IsEndOf p b.cell m Never → ¬ (IsTied p b.cell) × AliveLate p b.cell
    at_no_end h = never_ends p b well h.0 h.1.places h.1.sides s n (is_end Never h)

    pub at_tie : (u : lex.Value) (first second : Place) → IsEndOf p b.cell m (Tied u first second)
        → IsCause p b (cause.Tie (record { cell = b.cell; time = u; first = first; second = Some second }))
    at_tie u first second h =
        let x = is_end (Tied u first second) h in
        subst (λ (z : Place). IsCause p b (cause.Tie (record { cell = b.cell; time = u; first = z; second = Some second }))) (sym x.3)
        (subst (λ (z : Place). IsCause p b (cause.Tie (record { cell = b.cell; time = u; first = place_at h.0 x.0; second = Some z }))) (sym x.4)
        (exit_cause p b well h.0 h.1.places h.1.sides s n u x.0 x.1 x.2))
