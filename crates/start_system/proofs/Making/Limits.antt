-- the numbers of a path's points are within their limits
use Rattle.std.proofs.Common.{◌≡◌, ℕ, zero, suc, ◌+◌, ◌*◌, ◌-◌, ◌<◌, ◌≤◌, List, [], ◌∷◌, length, arith, sym, ◌∙◌, ◌≤ℤ◌}
use Rattle.std.proofs.Math.IntN.{ℤ, pos}
use Rattle.std.proofs.lemmas.Int.{ints, int_max_is}
use Rattle.int_vectors.specs.Vectors.{Each, add, sub, at_place}
use Rattle.int_vectors.proofs.Differences.{minus_one}
use Rattle.cayley.specs.Files.{FilePoint}
use Rattle.cayley.specs.Paths.{corners, least_coordinates, sum_of, later_corners, direction_corners, simplex_edge}
use Rattle.cayley.specs.Valid.{IsCoordinate, IsCornerCoordinate, IsStart, IsWithinCorners}
use Rattle.int_vectors.proofs.Each.{each_weaker}
use Rattle.cayley.proofs.Lists.Supports.{wider}
use Rattle.start_system.specs.Corners.{ArePoints}
use Rattle.start_system.proofs.Path.Reach.{reach_positive}
use Rattle.start_system.proofs.Making.Numbers.{own_small}
use Rattle.start_system.proofs.Making.Least.{least_long, least_small}

-- ---- the reach
sum_small : (x m : List ℤ) → length x ≡ length m → Each x IsCoordinate → Each m IsCoordinate → sum_of (sub x m) ≤ℤ pos (2000000 * length m)
sum_small [] [] e h g = omega (arith, ints)
sum_small [] (m ∷ ms) e h g = absurd (omega arith)
sum_small (x ∷ xs) [] e h g = absurd (omega arith)
sum_small (x ∷ xs) (m ∷ ms) e h g =
    let r = sum_small xs ms (omega arith) h.1 g.1 in
    let f = minus_one x m in
    let a = h.0 in
    let b = g.0 in
    omega (arith, ints, r, f, a, b)

reach_small : (n : ℕ) (m : List ℤ) (points : List FilePoint) → length m ≡ n → n ≤ 16 → Each m IsCoordinate → Each points (λ x. (length x.coordinates ≡ n) × Each x.coordinates IsCoordinate)
    → simplex_edge m points ≤ℤ pos 32000000
reach_small n m [] e l g h = omega (arith, ints)
reach_small n m (x ∷ points) e l g h =
    let r = reach_small n m points e l g h.1 in
    let s = sum_small x.coordinates m (h.0.0 ∙ sym e) h.0.1 g in
    omega (arith, ints, r, s, e, l, int_max_is (sum_of (sub x.coordinates m)) (simplex_edge m points))

-- ---- the corners
moved_small : (m : List ℤ) (k : ℕ) (d : ℤ) → Each m IsCoordinate → k < length m → pos 0 ≤ℤ d → d ≤ℤ pos 32000000 → Each (add m (at_place k d)) IsCornerCoordinate
moved_small [] k d h l g e = absurd (omega arith)
moved_small (x ∷ m) zero d h l g e = (own_small x d h.0 g e, plain m h.1)
  where
    plain : (m : List ℤ) → Each m IsCoordinate → Each (add m []) IsCornerCoordinate
    plain [] h = tt
    plain (x ∷ m) h = each_weaker IsCoordinate IsCornerCoordinate (x ∷ m) wider h
moved_small (x ∷ m) (suc k) d h l g e = ((let a = h.0 in omega (arith, ints, a)), moved_small m k d h.1 (omega arith) g e)

module _ (m : List ℤ) (d : ℤ) (small : Each m IsCoordinate) (low : pos 0 ≤ℤ d) (high : d ≤ℤ pos 32000000) where
  later_within : (k : ℕ) (starts : List ℤ) → k + length starts ≤ length m → Each starts IsStart → Each (later_corners m d k starts) IsWithinCorners
  later_within k [] l h = tt
  later_within k (z ∷ starts) l h = (
    (moved_small m k d small (omega arith) low high, ((let a = h.0.0 in omega (arith, ints, a)), h.0.1)),
    later_within (suc k) starts (omega arith) h.1,
  )

  directions_within : (own k : ℕ) (starts : List ℤ) → own ≤ length starts → k + suc (length starts) ≤ length m → Each starts IsStart → Each (direction_corners m d own k starts) IsWithinCorners
  directions_within zero k starts o l h = (
    (moved_small m k d small (omega arith) low high, (omega (arith, ints), omega (arith, ints))),
    later_within (suc k) starts (omega arith) h,
  )
  directions_within (suc own) k [] o l h = absurd (omega arith)
  directions_within (suc own) k (z ∷ starts) o l h = (
    (moved_small m k d small (omega arith) low high, ((let a = h.0.0 in omega (arith, ints, a)), h.0.1)),
    directions_within own (suc k) starts (omega arith) (omega arith) h.1,
  )

pub corners_within : (n i : ℕ) (points : List FilePoint) (starts : List ℤ) → n ≤ 16 → 1 ≤ i → i ≤ n → suc (length starts) ≡ n → ArePoints n points → Each starts IsStart
    → Each (corners i points starts) IsWithinCorners
corners_within n i points starts l a b e h g =
    let m = least_coordinates points in
    let small = least_small n points h.1 in
    let long = least_long n points h in
    let low = reach_positive m points in
    let high = reach_small n m points long l small h.1 in (
      (each_weaker IsCoordinate IsCornerCoordinate m wider small, (omega (arith, ints), omega (arith, ints))),
      directions_within m (simplex_edge m points) small (omega (arith, ints, low)) high (i - 1) 0 starts (omega (arith, a, b, e)) (omega (arith, long, e)) g,
    )
