-- no line of a cell that rests falls
use Rattle.std.proofs.Common.{◌≡◌, inl, inr, ℕ, suc, ◌+◌, ◌-◌, List, [], ◌∷◌, take, drop, take-append-drop, ℤ, pos, ◌+ℤ◌, ◌-ℤ◌, ◌*ℤ◌, ◌<ℤ◌, ◌≤ℤ◌, arith, sym, ap, subst, ◌∙◌}
use Rattle.std.proofs.lemmas.Int.{ints}
use Rattle.std.proofs.Math.IntN.{*ℤ_comm}
use Rattle.std.specs.Prelude.{slice_index_or}
use Rattle.wide_int.proofs.Order.{mul_le_ℤ}
use Rattle.int_vectors.specs.Vectors.{Each, sub, dot}
use Rattle.cayley.specs.Problems.{Point, Problem, EachSupport, IsStill, point_at}
use Rattle.cayley.specs.Cells.{Cell}
use Rattle.cayley.specs.Dependencies.{pair_at, IsFurtherAt, nth_support}
use Rattle.cayley.specs.Valid.{IsValidProblem}
use Rattle.cayley.specs.Valid as valid
use Rattle.cayley.proofs.Algebra.ScaledInverse.{dot-zero}
use Rattle.cayley.proofs.Flipping.Places.{further_bound}
use Rattle.int_vectors.proofs.Each.{all_each, each_append, each_weaker}
use Rattle.cayley.proofs.OneCell.CellRows.{InRange, each_position}
use Rattle.cayley.proofs.Lists.Pairs.{pairs_long}
use Rattle.crossing.specs.declared.line.WallLine.{WallLine}
use Rattle.crossing.specs.declared.leaders.Way.TheVariants.{Falling}
use Rattle.crossing.specs.Leading.{Goes, nth}
use Rattle.crossing.specs.Lines.{Falls}
use Rattle.crossing.specs.Places.{origin}
use Rattle.crossing.proofs.Leading.{below_next}
use Rattle.inner_normal.specs.declared.moving.MovingNormal.{MovingNormal}
use Rattle.inner_normal.specs.MovingNormals.{IsMovingNormal}
use Rattle.inner_normal.proofs.Reading.{support_read, pair_read, each_support_at}
use Rattle.cone_walls.specs.declared.fronts.Front.TheVariants.{Empty}
use Rattle.cone_walls.specs.Fronts.{IsFront}
use Rattle.cone_walls.specs.Listed.{wall_lines}
use Rattle.cone_walls.specs.Numbers.{beta}
use Rattle.cone_walls.specs.Rests.{RestUpTo, IsResting}
use Rattle.cone_walls.proofs.FurtherLines.{all_lines}

-- ---- the loop
pub rest_more : (p : Problem) (cell pairs : Cell) (k : ℕ) → pairs ≡ cell → RestUpTo p cell k → (point_at (valid.support_at p (k + 1)) (slice_index_or pairs k (0, 0)).0).speed ≡ pos 0 → RestUpTo p cell (k + 1)
rest_more p cell pairs k same r h j lt = elim (below_next j k lt) [
  | inl l ↦ r j l
  | inr e ↦ subst (λ (z : ℕ). (point_at (valid.support_at p (z + 1)) (slice_index_or cell z (0, 0)).0).speed ≡ pos 0) (sym e)
      (subst (λ (c : Cell). (point_at (valid.support_at p (k + 1)) (slice_index_or c k (0, 0)).0).speed ≡ pos 0) same h)
]

-- ---- speeds
slow_support : (f : ℕ) (s : List Point) → Each (take f s) (λ x. x.speed ≡ pos 0) → Each (drop f s) (λ x. x.speed ≡ pos 1) → Each s (λ x. pos 0 ≤ℤ x.speed)
slow_support f s h k =
    subst (λ (s : List Point). Each s (λ x. pos 0 ≤ℤ x.speed)) (take-append-drop f s)
    (each_append (λ x. pos 0 ≤ℤ x.speed) (take f s) (drop f s)
    (each_weaker (λ x. x.speed ≡ pos 0) (λ x. pos 0 ≤ℤ x.speed) (take f s) (λ x e. omega (arith, ints, e)) h)
    (each_weaker (λ x. x.speed ≡ pos 1) (λ x. pos 0 ≤ℤ x.speed) (drop f s) (λ x e. omega (arith, ints, e)) k))

slow_supports : (i : ℕ) (fs : List ℕ) (ss : List (List Point)) → EachSupport i fs ss (λ i f s. Each (take f s) (λ (x : Point). x.speed ≡ pos 0)) → EachSupport i fs ss (λ i f s. Each (drop f s) (λ (x : Point). x.speed ≡ pos 1))
    → Each ss (λ s. Each s (λ (x : Point). pos 0 ≤ℤ x.speed))
slow_supports i [] [] h k = tt
slow_supports i [] (s ∷ ss) h k = absurd h
slow_supports i (f ∷ fs) [] h k = absurd h
slow_supports i (f ∷ fs) (s ∷ ss) h k = (slow_support f s h.0 k.0, slow_supports (suc i) fs ss h.1 k.1)

-- ---- the slope of a line
level_or_rising : (g a c d : ℤ) → pos 0 <ℤ g → a ≡ pos 0 → pos 0 ≤ℤ c → d ≡ pos 0 → ¬ ((g *ℤ (c -ℤ a) +ℤ d) <ℤ pos 0)
level_or_rising g a c d pg ea pc ed q =
    let e : c -ℤ a ≡ c = omega (arith, ints, ea) in
    let f : g *ℤ (c -ℤ a) +ℤ d ≡ c *ℤ g +ℤ d = ap (λ z. z +ℤ d) (ap (λ z. g *ℤ z) e ∙ *ℤ_comm g c) in
    let m = mul_le_ℤ (pos 0) c g pc (omega (arith, ints, pg)) in
    let n : (c *ℤ g +ℤ d) <ℤ pos 0 = subst (λ z. z <ℤ pos 0) f q in
    omega (arith, ints, m, n, ed)

module _ (p : Problem) (cell : Cell) (m : MovingNormal) (n : IsMovingNormal p cell m) (well : IsValidProblem p) (still : IsStill p) (rests : IsResting p cell m) where
  not_falling : (j c : ℕ) → IsFurtherAt p cell j c → ¬ (beta m (point_at (nth_support p.supports j) (pair_at cell j).0) (point_at (nth_support p.supports j) c) <ℤ pos 0)
  not_falling j c f =
      let count = pairs_long p.supports cell InRange n.of in
      let bound = further_bound p.supports cell j c count f in
      let read : slice_index_or p.supports (j + 1 - 1) [] ≡ nth_support p.supports j =
      ap (λ z. slice_index_or p.supports z []) (let w : j + 1 - 1 ≡ j = omega arith in w) ∙ support_read p.supports j in
      let first : (point_at (nth_support p.supports j) (pair_at cell j).0).speed ≡ pos 0 =
      subst (λ (s : List Point). (point_at s (pair_at cell j).0).speed ≡ pos 0) read
      (subst (λ (x : ℕ × ℕ). (point_at (slice_index_or p.supports (j + 1 - 1) []) x.0).speed ≡ pos 0) (pair_read cell j (0, 0) (omega (arith, bound))) (rests.1 j (omega (arith, bound)))) in
      let slow = each_support_at (λ s. Each s (λ (x : Point). pos 0 ≤ℤ x.speed)) p.supports j (omega (arith, bound, count)) (slow_supports 1 p.files p.supports still well.shape.moving) in
      level_or_rising m.den (point_at (nth_support p.supports j) (pair_at cell j).0).speed (point_at (nth_support p.supports j) c).speed
      (dot (sub (point_at (nth_support p.supports j) c).coordinates (point_at (nth_support p.supports j) (pair_at cell j).0).coordinates) m.q)
      n.positive first (each_position (λ (x : Point). pos 0 ≤ℤ x.speed) (nth_support p.supports j) c f.0 f.1 slow)
      (dot-zero (sub (point_at (nth_support p.supports j) c).coordinates (point_at (nth_support p.supports j) (pair_at cell j).0).coordinates) m.q rests.0)

  none_falls : Each (wall_lines m 1 p.supports cell) (λ l. ¬ (Falls l))
  none_falls = all_lines m (λ l. ¬ (Falls l)) 1 p.supports cell (λ j k c e f. not_falling j c f)

  pub resting_front : IsFront (wall_lines m 1 p.supports cell) Empty
  resting_front k lt g = all_each (λ l. ¬ (Falls l)) (wall_lines m 1 p.supports cell) none_falls k origin lt (falls (nth (wall_lines m 1 p.supports cell) k) g)
    where
      falls : (l : WallLine) → Goes Falling l → Falls l
      falls l g = omega (arith, ints, g)
