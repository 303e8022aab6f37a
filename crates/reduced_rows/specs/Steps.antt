-- The working of the elimination, over unbounded whole numbers. The rows stand in two lists: those done, and the rest.
use Rattle.std.specs.Prelude.{◌≡◌, ℕ, zero, suc, List, [], ◌∷◌, ◌++◌, length, map, ℤ, pos, negsuc, Option, Some, None, Result, Ok, Err}
use Rattle.int_vectors.specs.Vectors.{Each, at}
use Rattle.int_vectors.specs.Contents.{primitive}
use Rattle.int_vectors.specs.RowSteps.{negated, if_zero, cleaned, FitsCleaned}
use Rattle.reduced_rows.specs.Denominators.{kernel_of, FitsKernel}

-- the rows are of length n
abbrev pub OfLength : ℕ → List (List ℤ) → Type 0
OfLength n rows = Each rows (λ row. length row ≡ n)

-- a where the number is negative, else b
abbrev pub if_negative : {A : Type 0} → ℤ → A → A → A
if_negative (pos n) a b = b
if_negative (negsuc n) a b = a

-- the row with its entry in column k made positive
unfoldable pub signed : ℕ → List ℤ → List ℤ
signed k row = if_negative (at row k) (negated row) row

-- all rows are cleared by numbers that fit
unfoldable pub FitsCleanedAll : ℕ → List ℤ → List (List ℤ) → Type 0
FitsCleanedAll k y [] = Unit {0}
FitsCleanedAll k y (row ∷ rows) = FitsCleaned k y row × FitsCleanedAll k y rows

-- y stays in front of the others
abbrev pub kept : List ℤ → Option (List ℤ × List (List ℤ)) → Option (List ℤ × List (List ℤ))
kept y None = None
kept y (Some p) = Some (p.0, y ∷ p.1)

-- the first of ys with an entry in column k, and ys with x in its place
unfoldable pub exchanged : ℕ → List ℤ → List (List ℤ) → Option (List ℤ × List (List ℤ))
exchanged k x [] = None
exchanged k x (y ∷ ys) = if_zero (at y k) (kept y (exchanged k x ys)) (Some (y, x ∷ ys))

-- the first row with an entry in column k, and the others after it was exchanged with the first row
unfoldable pub pick : ℕ → List (List ℤ) → Option (List ℤ × List (List ℤ))
pick k [] = None
pick k (x ∷ xs) = if_zero (at x k) (exchanged k x xs) (Some (x, xs))

-- the kernel where no row was picked, else what follows from the row and the others
abbrev pub next_rows : Option (List ℤ × List (List ℤ)) → List ℤ → (List ℤ → List (List ℤ) → Result (List (List ℤ)) (List ℤ)) → Result (List (List ℤ)) (List ℤ)
next_rows None kernel go = Err kernel
next_rows (Some p) kernel go = go p.0 p.1

-- the kernel's numbers fit where no row was picked, else those of what follows
abbrev pub next_fit : Option (List ℤ × List (List ℤ)) → Type 0 → (List ℤ → List (List ℤ) → Type 0) → Type 0
next_fit None kernel go = kernel
next_fit (Some p) kernel go = go p.0 p.1

-- the rows after m steps from column k on, or the kernel
unfoldable pub steps : ℕ → ℕ → List (List ℤ) → List (List ℤ) → Result (List (List ℤ)) (List ℤ)
steps zero k done rest = Ok done
steps (suc m) k done rest = next_rows (pick k rest) (kernel_of k m done)
    (λ y others. steps m (suc k) (map (cleaned k (signed k y)) done ++ signed k y ∷ []) (map (cleaned k (signed k y)) others))

-- each number of these steps fits
unfoldable pub FitsSteps : ℕ → ℕ → List (List ℤ) → List (List ℤ) → Type 0
FitsSteps zero k done rest = Unit {0}
FitsSteps (suc m) k done rest = next_fit (pick k rest) (FitsKernel k done)
    (λ y others. FitsCleanedAll k (signed k y) done × FitsCleanedAll k (signed k y) others
    × FitsSteps m (suc k) (map (cleaned k (signed k y)) done ++ signed k y ∷ []) (map (cleaned k (signed k y)) others))

-- the elimination of rows on their first n columns: the reduced rows, or the kernel
unfoldable pub elimination : ℕ → List (List ℤ) → Result (List (List ℤ)) (List ℤ)
elimination n rows = steps n 0 [] (map primitive rows)

-- each number of the elimination and of the kernel fits
unfoldable pub FitsElimination : ℕ → List (List ℤ) → Type 0
FitsElimination n rows = FitsSteps n 0 [] (map primitive rows)
