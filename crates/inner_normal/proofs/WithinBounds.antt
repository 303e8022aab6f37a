-- a bound on the columns, and the numbers of every further point fit
use Rattle.std.proofs.Common.{ℕ, zero, suc, ◌+◌, ◌*◌, ◌^◌, ◌<◌, ◌≤◌, ℤ, pos, ◌-ℤ◌, unsigned_abs, List, [], ◌∷◌, length, sym, subst, arith}
use Rattle.wide_int.specs.Whole.{FitsWhole}
use Rattle.int_vectors.specs.Bounds.{size, Within, SumBelow}
use Rattle.int_vectors.specs.Fits.{FitsDot}
use Rattle.int_vectors.specs.Vectors.{Each, at, dot}
use Rattle.int_vectors.proofs.BoundSums.{abs_sub, abs_dot}
use Rattle.cayley.proofs.Algebra.Kernel.{dot_comm}
use Rattle.inner_normal.specs.Coefficients.{products}
use Rattle.inner_normal.proofs.Bounded.{bounded_fits, less_start}

-- the product of a column less den
less_den : (den : ℤ) (v column : List ℤ) → Within 66000000 v → SumBelow (2 ^ 127) 66000000 den column → FitsWhole (dot v column -ℤ den)
less_den den v column w h =
    subst (λ m. FitsWhole (m -ℤ den)) (sym (dot_comm v column))
    (step (unsigned_abs den) (size column * 66000000) (unsigned_abs (dot column v)) (unsigned_abs (dot column v -ℤ den)) (2 ^ 127) h (abs_dot 66000000 column v w) (abs_sub (dot column v) den))
  where
    step : (a n d t m : ℕ) → a + n < m → d ≤ n → t ≤ d + a → t < m
    step a n d t m h k l = omega arith

own_fits : (den : ℤ) (v : List ℤ) (columns : List (List ℤ)) (j : ℕ) → Within 66000000 v → j < length columns → Each columns (SumBelow (2 ^ 127) 66000000 den) → FitsWhole (at (products v columns) j -ℤ den)
own_fits den v [] j w l h = absurd (omega (arith, l))
own_fits den v (column ∷ columns) zero w l h = less_den den v column w h.0
own_fits den v (column ∷ columns) (suc j) w l h = own_fits den v columns j w (omega (arith, l)) h.1

each_fits : (den : ℤ) (v : List ℤ) (columns : List (List ℤ)) → Within 66000000 v → Each columns (SumBelow (2 ^ 127) 66000000 den) → Each columns (FitsDot (pos 0) v)
each_fits den v [] w h = tt
each_fits den v (column ∷ columns) w h = (bounded_fits v column w (less_start den column h.0), each_fits den v columns w h.1)

pub all_within : (den : ℤ) (v : List ℤ) (columns : List (List ℤ)) (j : ℕ) → Within 66000000 v → j < length columns → Each columns (SumBelow (2 ^ 127) 66000000 den)
    → Each columns (FitsDot (pos 0) v) × FitsWhole (at (products v columns) j -ℤ den)
all_within den v columns j w l h = (each_fits den v columns w h, own_fits den v columns j w l h)
