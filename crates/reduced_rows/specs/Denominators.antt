-- Least common multiples of pivots, and what a column over them gives.
use Rattle.std.specs.Prelude.{ℕ, suc, ◌<◌, ◌<ℤ◌, List, [], ◌∷◌, ◌++◌, length, ℤ, pos, ◌*ℤ◌, neg_ℤ, unsigned_abs, int_div}
use Rattle.wide_int.specs.Whole.{FitsWhole}
use Rattle.wide_int.specs.Divisors.{lcm_of}
use Rattle.int_vectors.specs.Vectors.{at, zeros}

-- the rows have a positive pivot, the first of them in column j
unfoldable pub HavePivots : ℕ → List (List ℤ) → Type 0
HavePivots j [] = Unit {0}
HavePivots j (row ∷ rows) = (j < length row) × (pos 0 <ℤ at row j) × HavePivots (suc j) rows

-- the least common multiple of l and the pivots of rows, the first of which has its pivot in column j
unfoldable pub lcm_from : ℕ → ℕ → List (List ℤ) → ℕ
lcm_from j l [] = l
lcm_from j l (row ∷ rows) = lcm_from (suc j) (lcm_of l (unsigned_abs (at row j))) rows

-- it is formed in order, and fits after each row
unfoldable pub FitsLcm : ℕ → ℕ → List (List ℤ) → Type 0
FitsLcm j l [] = Unit {0}
FitsLcm j l (row ∷ rows) = FitsWhole (pos (lcm_of l (unsigned_abs (at row j)))) × FitsLcm (suc j) (lcm_of l (unsigned_abs (at row j))) rows

-- the entry in column k times l over the row's pivot, which stands in column j
abbrev pub share : ℕ → ℕ → ℕ → List ℤ → ℤ
share k j l row = at row k *ℤ int_div (pos l) (at row j)

-- minus the share of each row
unfoldable pub shares : ℕ → ℕ → ℕ → List (List ℤ) → List ℤ
shares k j l [] = []
shares k j l (row ∷ rows) = neg_ℤ (share k j l row) ∷ shares k (suc j) l rows

-- each share fits
unfoldable pub FitsShares : ℕ → ℕ → ℕ → List (List ℤ) → Type 0
FitsShares k j l [] = Unit {0}
FitsShares k j l (row ∷ rows) = FitsWhole (share k j l row) × FitsShares k (suc j) l rows

-- the kernel of length k + 1 + m, where the rows done are the first k and column k has no further pivot
unfoldable pub kernel_of : ℕ → ℕ → List (List ℤ) → List ℤ
kernel_of k m done = shares k 0 (lcm_from 0 1 done) done ++ (pos (lcm_from 0 1 done) ∷ zeros m)

-- each number of it fits
unfoldable pub FitsKernel : ℕ → List (List ℤ) → Type 0
FitsKernel k done = FitsLcm 0 1 done × FitsShares k 0 (lcm_from 0 1 done) done
