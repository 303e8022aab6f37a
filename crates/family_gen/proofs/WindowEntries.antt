-- Entries of windows are 0 or 1, and fit.
use Rattle.std.proofs.Common.{ℕ, ◌+◌, ◌-◌, ◌%◌, Bool, true, false, List, [], ◌∷◌, map, pos, arith, FitsSigned}
use Rattle.std.specs.Prelude.{nat_lt, if◌then◌else◌}
use Rattle.std.specs.Int.{w128}
use Rattle.std.specs.List.{range_with_len}
use Rattle.wide_int.specs.Whole.{FitsWhole}
use Rattle.int_vectors.specs.Fits.{AllFit}
use Rattle.family_gen.specs.Cyclic.{entry_of}

small : (b : Bool) → FitsWhole (if b then pos 1 else pos 0)
small true = omega arith
small false = omega arith

wide : (b : Bool) → FitsSigned w128 (if b then pos 1 else pos 0)
wide true = record { sfits = omega arith }
wide false = record { sfits = omega arith }

pub entry_wide : (n k i p : ℕ) → FitsSigned w128 (entry_of n k i p)
unfolding entry_of
entry_wide n k i p = wide (nat_lt ((p + n - i) % n) k)

fits_each : (n k i : ℕ) (ps : List ℕ) → AllFit (map (entry_of n k i) ps)
unfolding entry_of
fits_each n k i [] = tt
fits_each n k i (p ∷ ps) = (small (nat_lt ((p + n - i) % n) k), fits_each n k i ps)

pub window_fits : (n k i m : ℕ) → AllFit (map (entry_of n k i) (range_with_len 0 m))
window_fits n k i m = fits_each n k i (range_with_len 0 m)
