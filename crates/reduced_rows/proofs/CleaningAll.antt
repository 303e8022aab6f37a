-- all rows
use Rattle.std.proofs.Common.{◌≡◌, ℕ, zero, suc, ◌+◌, ◌<◌, ℤ, pos, negsuc, ◌<ℤ◌, List, [], ◌∷◌, ◌++◌, length, get_or, take, refl, arith}
use Rattle.std.proofs.lemmas.Int.{ints}
use Rattle.std.proofs.lemmas.List.{take_more}
use Rattle.int_vectors.specs.Vectors.{at}
use Rattle.int_vectors.specs.RowSteps.{negated, FitsCleaned}
use Rattle.reduced_rows.specs.Steps.{if_negative, signed, FitsCleanedAll}

all-append : (k : ℕ) (y row : List ℤ) (rows : List (List ℤ)) → FitsCleanedAll k y rows → FitsCleaned k y row → FitsCleanedAll k y (rows ++ row ∷ [])
unfolding FitsCleanedAll
all-append k y row [] h f = (f, tt)
all-append k y row (r ∷ rows) h f = (h.0, all-append k y row rows h.1 f)

pub all_more : (k : ℕ) (y : List ℤ) (rows : List (List ℤ)) (i : ℕ) (d : List ℤ) → i < length rows → FitsCleanedAll k y (take i rows) → FitsCleaned k y (get_or rows i d) → FitsCleanedAll k y (take (i + 1) rows)
all_more k y rows i d lt h f = rw (take_more rows i d lt) (all-append k y (get_or rows i d) (take i rows) h f)

pub all_at : (k : ℕ) (y : List ℤ) (rows : List (List ℤ)) (i : ℕ) (d : List ℤ) → i < length rows → FitsCleanedAll k y rows → FitsCleaned k y (get_or rows i d)
unfolding FitsCleanedAll
all_at k y [] i d lt h = absurd (omega arith)
all_at k y (r ∷ rows) zero d lt h = h.0
all_at k y (r ∷ rows) (suc i) d lt h = all_at k y rows i d (omega arith) h.1

negative_case : {A : Type 0} (z : ℤ) (a b : A) → z <ℤ pos 0 → if_negative z a b ≡ a
negative_case (pos n) a b h = absurd (omega (arith, ints))
negative_case (negsuc n) a b h = refl

positive_case : {A : Type 0} (z : ℤ) (a b : A) → ¬ (z <ℤ pos 0) → if_negative z a b ≡ b
positive_case (pos n) a b h = refl
positive_case (negsuc n) a b h = absurd (h (omega (arith, ints)))

pub signed_negative : (k : ℕ) (row : List ℤ) → at row k <ℤ pos 0 → signed k row ≡ negated row
unfolding signed
signed_negative k row h = negative_case (at row k) (negated row) row h

pub signed_positive : (k : ℕ) (row : List ℤ) → ¬ (at row k <ℤ pos 0) → signed k row ≡ row
unfolding signed
signed_positive k row h = positive_case (at row k) (negated row) row h
