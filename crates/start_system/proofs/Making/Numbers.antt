-- bounds of coordinates, their differences and sums, and that they fit
use Rattle.std.proofs.Common.{ℕ, zero, suc, ◌+◌, ◌*◌, ◌<◌, ◌≤◌, List, [], ◌∷◌, length, arith, FitsSigned, ◌≤ℤ◌}
use Rattle.std.specs.Int.{w128}
use Rattle.std.proofs.Math.IntN.{ℤ, pos, ◌+ℤ◌, ◌-ℤ◌}
use Rattle.std.proofs.lemmas.Int.{ints, fits_signed_from_abs}
use Rattle.std.specs.Prelude.{unsigned_abs}
use Rattle.int_vectors.specs.Vectors.{Each, add, at_place}
use Rattle.int_vectors.specs.Fits.{AllFit}
use Rattle.cayley.specs.Valid.{IsCoordinate, IsCornerCoordinate}

by_abs : (z : ℤ) → unsigned_abs z ≤ 100000000 → FitsSigned w128 z
by_abs z h = fits_signed_from_abs w128 z (omega (arith, h))

pub corner_fits : (z : ℤ) → IsCornerCoordinate z → FitsSigned w128 z
corner_fits z h = by_abs z (omega (arith, h))

pub own_small : (x d : ℤ) → IsCoordinate x → pos 0 ≤ℤ d → d ≤ℤ pos 32000000 → IsCornerCoordinate (x +ℤ d)
own_small x d h l m = omega (arith, ints, h, l, m)

pub difference_fits : (a b : ℤ) → IsCoordinate a → IsCoordinate b → FitsSigned w128 (a -ℤ b)
difference_fits a b h k = by_abs (a -ℤ b) (omega (arith, ints, h, k))

pub total_fits : (t a b : ℤ) (k : ℕ) → IsCoordinate a → IsCoordinate b → t ≤ℤ pos (2000000 * k) → pos 0 ≤ℤ (t +ℤ pos (2000000 * k)) → k < 16 → FitsSigned w128 (t +ℤ (a -ℤ b))
total_fits t a b k h g u v l = by_abs (t +ℤ (a -ℤ b)) (omega (arith, ints, h, g, u, v, l))

pub total_high : (t a b : ℤ) (k : ℕ) → IsCoordinate a → IsCoordinate b → t ≤ℤ pos (2000000 * k) → (t +ℤ (a -ℤ b)) ≤ℤ pos (2000000 * (k + 1))
total_high t a b k h g u = omega (arith, ints, h, g, u)

pub total_low : (t a b : ℤ) (k : ℕ) → IsCoordinate a → IsCoordinate b → pos 0 ≤ℤ (t +ℤ pos (2000000 * k)) → pos 0 ≤ℤ ((t +ℤ (a -ℤ b)) +ℤ pos (2000000 * (k + 1)))
total_low t a b k h g v = omega (arith, ints, h, g, v)

pub small_fit : (xs : List ℤ) → Each xs IsCoordinate → AllFit xs
small_fit [] h = tt
small_fit (x ∷ xs) h = ((let s = h.0 in omega (arith, s)), small_fit xs h.1)

pub moved_fit : (m : List ℤ) (k : ℕ) (d : ℤ) → Each m IsCoordinate → k < length m → pos 0 ≤ℤ d → d ≤ℤ pos 32000000 → AllFit (add m (at_place k d))
moved_fit [] k d h l g e = absurd (omega arith)
moved_fit (x ∷ m) zero d h l g e = ((let s = h.0 in omega (arith, ints, s, g, e)), plain m h.1)
  where
    plain : (m : List ℤ) → Each m IsCoordinate → AllFit (add m [])
    plain [] h = tt
    plain (x ∷ m) h = small_fit (x ∷ m) h
moved_fit (x ∷ m) (suc k) d h l g e = ((let s = h.0 in omega (arith, ints, s)), moved_fit m k d h.1 (omega arith) g e)
