-- One step of an elimination on one row.
use Rattle.std.specs.Prelude.{◌≢◌, ℕ, zero, suc, List, [], ◌∷◌, map, ℤ, pos, negsuc, ◌*ℤ◌, ◌-ℤ◌, neg_ℤ}
use Rattle.wide_int.specs.Whole.{FitsMulSub}
use Rattle.int_vectors.specs.Vectors.{at}
use Rattle.int_vectors.specs.Contents.{primitive}

-- each entry with its sign turned
unfoldable pub negated : List ℤ → List ℤ
negated row = map neg_ℤ row

-- p x - f y in each place
unfoldable pub eliminated : ℤ → ℤ → List ℤ → List ℤ → List ℤ
eliminated p f [] ys = []
eliminated p f (x ∷ xs) [] = []
eliminated p f (x ∷ xs) (y ∷ ys) = (p *ℤ x -ℤ f *ℤ y) ∷ eliminated p f xs ys

-- both products and the difference fit in each place
unfoldable pub FitsEliminated : ℤ → ℤ → List ℤ → List ℤ → Type 0
FitsEliminated p f [] ys = Unit {0}
FitsEliminated p f (x ∷ xs) [] = Unit {0}
FitsEliminated p f (x ∷ xs) (y ∷ ys) = FitsMulSub p x f y × FitsEliminated p f xs ys

-- a where the number is 0, else b
abbrev pub if_zero : {A : Type 0} → ℤ → A → A → A
if_zero (pos zero) a b = a
if_zero (pos (suc n)) a b = b
if_zero (negsuc n) a b = b

-- a row with an entry f in column k becomes p x - f y, divided by its gcd, where y is the pivot row and p its pivot
unfoldable pub cleaned : ℕ → List ℤ → List ℤ → List ℤ
cleaned k y row = if_zero (at row k) row (primitive (eliminated (at y k) (at row k) row y))

-- the numbers of that fit
unfoldable pub FitsCleaned : ℕ → List ℤ → List ℤ → Type 0
FitsCleaned k y row = at row k ≢ pos 0 → FitsEliminated (at y k) (at row k) row y
