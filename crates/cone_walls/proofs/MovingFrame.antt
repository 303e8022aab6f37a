-- the normal of a cell at all times as the frame of its wall lines
use Rattle.std.proofs.Common.{◌≡◌, ℕ, List, [], ◌∷◌, length, arith, refl, sym, ap, ap₂, ◌∙◌, ◌<ℤ◌}
use Rattle.std.proofs.lemmas.Int.{ints}
use Rattle.std.proofs.Math.IntN.{ℤ, pos, ◌+ℤ◌, ◌*ℤ◌, *ℤ_comm}
use Rattle.int_vectors.specs.Vectors.{IsZero, add, sub, scale, comb, at}
use Rattle.int_vectors.proofs.Entries.{at-scale, at-add, zero_from, at-zero}
use Rattle.cayley.specs.Times.{Time, time_zero}
use Rattle.cayley.specs.Problems.{Point, Problem, point_at, unperturbed}
use Rattle.cayley.specs.Cells.{Cell}
use Rattle.cayley.specs.Normals.{Normal, height, gap}
use Rattle.cayley.proofs.Order.Lines.{Line, line_at}
use Rattle.cayley.proofs.OneCell.MovingNormals.{Moving, moving, wall, moving_gap, IsFrame}
use Rattle.cayley.proofs.Lists.Pairs.{pairs_both}
use Rattle.inner_normal.specs.MovingNormals.{IsAt, IsMovingNormal}
use Rattle.inner_normal.specs.declared.moving.MovingNormal.{MovingNormal}

-- the same, in the words of the laws
abbrev pub as_moving : (m : MovingNormal) → pos 0 <ℤ m.den → length m.p ≡ length m.q → Moving
as_moving m positive long = record { den = m.den; positive = positive; starts = m.p; slopes = m.q; long = long }

abbrev time_one : Time
time_one = record { entries = pos 1 ∷ []; over = pos 1; positive = record { lt = tt } }

pub line_entry : (l : Line) (t : Time) (e : ℕ) → at (line_at l t) e ≡ t.over *ℤ at l.start e +ℤ l.slope *ℤ at t.entries e
line_entry l t e = at-add (scale t.over l.start) (scale l.slope t.entries) e ∙ ap₂ ◌+ℤ◌ (at-scale t.over l.start e) (at-scale l.slope t.entries e)

-- a line that is zero at the times 0 and 1
flat_line : (l : Line) → ((e : ℕ) → at (line_at l time_zero) e ≡ pos 0) → ((e : ℕ) → at (line_at l time_one) e ≡ pos 0) → IsZero l.start × (l.slope ≡ pos 0)
flat_line l f g = (
  zero_from l.start starts,
  (let s = starts 0 in let q : pos 1 *ℤ at l.start 0 +ℤ l.slope *ℤ pos 1 ≡ pos 0 = sym (line_entry l time_one 0) ∙ g 0 in omega (arith, ints, q, s)),
)
  where
    starts : (e : ℕ) → at l.start e ≡ pos 0
    starts e = let q : pos 1 *ℤ at l.start e +ℤ l.slope *ℤ pos 0 ≡ pos 0 = sym (line_entry l time_zero e) ∙ f e in omega (arith, ints, q)

module _ (m : MovingNormal) (positive : pos 0 <ℤ m.den) (long : length m.p ≡ length m.q) where
  same_gap : (t : Time) (v : Normal) → IsAt m t v → (x y : Point) → gap t v x y ≡ gap t (moving (as_moving m positive long) t) x y
  unfolding moving
  same_gap t v h x y =
      ap₂ (λ (o : ℤ) (es : List (List ℤ)). add (scale t.over (comb (sub y.coordinates x.coordinates) es)) (scale o (sub (height t y) (height t x))))
      (h.0 ∙ *ℤ_comm t.over m.den) (h.1)

  -- where the gap is zero at a time written over 1, the line is
  line_zero : (t : Time) → t.over ≡ pos 1 → (v : Normal) → IsAt m t v → (x y : Point) → IsZero (gap t v x y) → (e : ℕ) → at (line_at (wall (as_moving m positive long) x y) t) e ≡ pos 0
  line_zero t one v h x y z e =
      let mv = as_moving m positive long in
      let l = at (line_at (wall mv x y) t) e in
      let k : t.over *ℤ l ≡ pos 0 = sym (moving_gap mv t x y e) ∙ ap (λ g. at g e) (sym (same_gap t v h x y)) ∙ at-zero (gap t v x y) e z in
      let q : pos 1 *ℤ l ≡ pos 0 = ap (λ o. o *ℤ l) (sym one) ∙ k in
      omega (arith, ints, q)

  pub pair_flat : (v w : Normal) → IsAt m time_zero v → IsAt m time_one w → (x y : Point) → IsZero (gap time_zero v x y) → IsZero (gap time_one w x y)
      → IsZero (wall (as_moving m positive long) x y).start × ((wall (as_moving m positive long) x y).slope ≡ pos 0)
  pair_flat v w h k x y z u =
      flat_line (wall (as_moving m positive long) x y) (line_zero time_zero refl v h x y z) (line_zero time_one refl w k x y u)

pub long_normal : (p : Problem) (cell : Cell) (m : MovingNormal) → IsMovingNormal p cell m → length m.p ≡ length m.q
long_normal p cell m n = n.long.0 ∙ sym n.long.1

-- both points of each pair are level at all times
pub moving_frame : (p : Problem) (cell : Cell) (m : MovingNormal) (n : IsMovingNormal p cell m) → IsFrame (unperturbed p) cell (as_moving m n.positive (long_normal p cell m n))
moving_frame p cell m n =
    let v = n.whole time_zero in
    let w = n.whole time_one in (
      n.long.0,
      pairs_both (unperturbed p).supports cell (λ s a b. IsZero (gap time_zero v.0 (point_at s a) (point_at s b))) (λ s a b. IsZero (gap time_one w.0 (point_at s a) (point_at s b))) _ (λ s a b g h. pair_flat m n.positive (long_normal p cell m n) v.0 w.0 v.1 w.1 (point_at s a) (point_at s b) g h) v.2.1 w.2.1,
    )
