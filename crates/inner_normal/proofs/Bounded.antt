-- the sums behind a bound
use Rattle.std.proofs.Common.{◌≡◌, ℕ, ◌+◌, ◌*◌, ◌^◌, ◌<◌, ◌≤◌, ℤ, pos, ◌+ℤ◌, ◌*ℤ◌, unsigned_abs, List, [], ◌∷◌, length, sym, subst, arith}
use Rattle.std.proofs.Math.IntN.{*ℤ_comm}
use Rattle.wide_int.specs.Whole.{FitsWhole}
use Rattle.int_vectors.specs.Bounds.{size, Within, SumBelow}
use Rattle.int_vectors.specs.Fits.{FitsDot}
use Rattle.int_vectors.specs.Vectors.{Each, sub}
use Rattle.int_vectors.proofs.BoundSums.{room_fits}
use Rattle.int_vectors.proofs.Differences.{minus_one}
use Rattle.cayley.specs.Valid.{IsCornerCoordinate}
use Rattle.cayley.proofs.OneCell.EdgeRows.{abs_sub}

-- no difference of coordinates is above 66,000,000
pub within_sub : (xs ys : List ℤ) → length xs ≡ length ys → Each xs IsCornerCoordinate → Each ys IsCornerCoordinate → Within 66000000 (sub xs ys)
within_sub [] [] l e f = tt
within_sub [] (y ∷ ys) l e f = absurd (omega (arith, l))
within_sub (x ∷ xs) [] l e f = absurd (omega (arith, l))
within_sub (x ∷ xs) (y ∷ ys) l e f = (subst (λ z. unsigned_abs z ≤ 66000000) (sym (minus_one x y)) (abs_sub x y e.0 f.0), within_sub xs ys (omega (arith, l)) e.1 f.1)

-- the order of the factors
fits_turned : (t : ℤ) (xs ys : List ℤ) → FitsDot t xs ys → FitsDot t ys xs
unfolding FitsDot
fits_turned t [] [] h = h
fits_turned t [] (y ∷ ys) h = h
fits_turned t (x ∷ xs) [] h = h
fits_turned t (x ∷ xs) (y ∷ ys) h = (
  subst FitsWhole (*ℤ_comm x y) h.0,
  subst (λ z. FitsWhole (t +ℤ z)) (*ℤ_comm x y) h.1,
  subst (λ z. FitsDot (t +ℤ z) ys xs) (*ℤ_comm x y) (fits_turned (t +ℤ x *ℤ y) xs ys h.2),
)

pub bounded_fits : (v column : List ℤ) → Within 66000000 v → SumBelow (2 ^ 127) 66000000 (pos 0) column → FitsDot (pos 0) v column
bounded_fits v column w b = fits_turned (pos 0) column v (room_fits (pos 0) column v (66000000, w, b))

-- a bound with a start is one without
pub less_start : (den : ℤ) (column : List ℤ) → SumBelow (2 ^ 127) 66000000 den column → SumBelow (2 ^ 127) 66000000 (pos 0) column
less_start den column h = step (unsigned_abs den) (size column * 66000000) h
  where
    step : (a b : ℕ) → a + b < 2 ^ 127 → 0 + b < 2 ^ 127
    step a b h = omega arith
