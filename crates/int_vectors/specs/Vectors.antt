-- Vectors of whole numbers. A list counts as followed by zeros, so no operation asks for equal lengths.
use Rattle.std.specs.Prelude.{◌≡◌, ◌⊎◌, ℕ, zero, suc, List, [], ◌∷◌, ℤ, pos, ◌+ℤ◌, ◌*ℤ◌, ◌<ℤ◌, neg_ℤ, slice_index_or, length, map}

-- P holds of each element
abbrev pub Each : {A : Type 0} → List A → (A → Type 0) → Type 0
Each [] P = Unit {0}
Each (x ∷ xs) P = P x × Each xs P

-- each entry is zero
abbrev pub IsZero : List ℤ → Type 0
IsZero [] = Unit {0}
IsZero (x ∷ xs) = (x ≡ pos 0) × IsZero xs

-- the first entry other than zero is positive
abbrev pub IsPositive : List ℤ → Type 0
IsPositive [] = ⊥
IsPositive (x ∷ xs) = pos 0 <ℤ x ⊎ ((x ≡ pos 0) × IsPositive xs)

-- each entry times k
abbrev pub scale : ℤ → List ℤ → List ℤ
scale k [] = []
scale k (x ∷ xs) = (k *ℤ x) ∷ scale k xs

-- the sum, place by place
abbrev pub add : List ℤ → List ℤ → List ℤ
add [] ys = ys
add (x ∷ xs) [] = x ∷ xs
add (x ∷ xs) (y ∷ ys) = (x +ℤ y) ∷ add xs ys

-- the difference, place by place
abbrev pub sub : List ℤ → List ℤ → List ℤ
sub xs ys = add xs (scale (neg_ℤ (pos 1)) ys)

-- the sum of the products, place by place
abbrev pub dot : List ℤ → List ℤ → ℤ
dot [] ys = pos 0
dot (x ∷ xs) [] = pos 0
dot (x ∷ xs) (y ∷ ys) = x *ℤ y +ℤ dot xs ys

-- the sum of cs_k * xs_k
abbrev pub comb : List ℤ → List (List ℤ) → List ℤ
comb [] xs = []
comb (c ∷ cs) [] = []
comb (c ∷ cs) (x ∷ xs) = add (scale c x) (comb cs xs)

-- the sum of cs_k * f (xs_k)
abbrev pub weigh : {A : Type 0} → List ℤ → List A → (A → ℤ) → ℤ
weigh [] xs f = pos 0
weigh (c ∷ cs) [] f = pos 0
weigh (c ∷ cs) (x ∷ xs) f = c *ℤ f x +ℤ weigh cs xs f

-- the entry at a place, 0 past the end
abbrev pub at : List ℤ → ℕ → ℤ
at xs k = slice_index_or xs k (pos 0)

-- the entries of zeros before one entry
abbrev pub at_place : ℕ → ℤ → List ℤ
at_place zero x = x ∷ []
at_place (suc k) x = pos 0 ∷ at_place k x

-- orthogonal to each row; a row counts as cut to the vector's length
abbrev pub IsOrthogonal : List (List ℤ) → List ℤ → Type 0
IsOrthogonal rows v = Each rows (λ row. dot row v ≡ pos 0)

-- the rows cut to n columns are independent
abbrev pub Independent : ℕ → List (List ℤ) → Type 0
Independent n rows = (v : List ℤ) → length v ≡ n → IsOrthogonal rows v → IsZero v

unfoldable pub zeros : ℕ → List ℤ
zeros zero = []
zeros (suc n) = pos 0 ∷ zeros n

abbrev pub row_at : List (List ℤ) → ℕ → List ℤ
row_at rows i = slice_index_or rows i []

abbrev pub entries_at : ℕ → List (List ℤ) → List ℤ
entries_at i columns = map (λ (column : List ℤ). at column i) columns
