-- a row that is replaced, and the steps that don't pick it
use Rattle.std.proofs.Common.{◌≡◌, ◌≢◌, ℕ, zero, suc, ◌+◌, ◌-◌, ◌<◌, ◌≤◌, ℤ, pos, List, [], ◌∷◌, ◌++◌, length, map, get_or, set, take, refl, sym, ap, ap₂, subst, ◌∙◌, arith, Option, Some, None}
use Rattle.int_vectors.specs.Vectors.{Each, at}
use Rattle.int_vectors.specs.RowSteps.{if_zero, cleaned, FitsCleaned}
use Rattle.int_vectors.proofs.TakingOff.{other_case}
use Rattle.reduced_rows.specs.Steps.{FitsCleanedAll, kept, exchanged, pick}
use Rattle.reduced_rows.proofs.Picking.{zero_case}
use Rattle.table_update.specs.Exchanges.{IsFirst, IsPassed}

pub cleaned_all_set : (k : ℕ) (y row : List ℤ) (rows : List (List ℤ)) (p : ℕ) → FitsCleanedAll k y rows → FitsCleaned k y row → FitsCleanedAll k y (set rows p row)
unfolding FitsCleanedAll
cleaned_all_set k y row [] p h f = tt
cleaned_all_set k y row (r ∷ rows) zero h f = (f, h.1)
cleaned_all_set k y row (r ∷ rows) (suc p) h f = (h.0, cleaned_all_set k y row rows p h.1 f)

pub cleaned_at_set : (k : ℕ) (y row : List ℤ) (rows : List (List ℤ)) (p : ℕ) → p < length rows → FitsCleanedAll k y (set rows p row) → FitsCleaned k y row
unfolding FitsCleanedAll
cleaned_at_set k y row [] p lt h = absurd (omega arith)
cleaned_at_set k y row (r ∷ rows) zero lt h = h.0
cleaned_at_set k y row (r ∷ rows) (suc p) lt h = cleaned_at_set k y row rows p (omega arith) h.1

pub map_set : (f : List ℤ → List ℤ) (rows : List (List ℤ)) (p : ℕ) (row : List ℤ) → map f (set rows p row) ≡ set (map f rows) p (f row)
map_set f [] p row = refl
map_set f (r ∷ rows) zero row = refl
map_set f (r ∷ rows) (suc p) row = ap (λ l. f r ∷ l) (map_set f rows p row)

abbrev Found : ℕ → List ℤ → List (List ℤ) → ℕ → Type 0
Found k x ys j = (j < length ys) × Each (take j ys) (λ row. at row k ≡ pos 0) × (at (get_or ys j []) k ≢ pos 0)

exchanged_is : (k : ℕ) (x : List ℤ) (ys : List (List ℤ)) (j : ℕ) → Found k x ys j → exchanged k x ys ≡ Some (get_or ys j [], set ys j x)
unfolding exchanged
exchanged_is k x [] j f = absurd (let l = f.0 in omega arith)
exchanged_is k x (y ∷ ys) zero f = other_case (at y k) _ _ f.2
exchanged_is k x (y ∷ ys) (suc j) f = let lt = f.0 in rw (f.1.0, exchanged_is k x ys j (omega arith, f.1.1, f.2)) refl

-- the same, where another of the rows behind is replaced
exchanged_set : (k : ℕ) (x row : List ℤ) (ys : List (List ℤ)) (j p : ℕ) → Found k x ys j → p ≢ j → (p < j → at row k ≡ pos 0) → exchanged k x (set ys p row) ≡ Some (get_or ys j [], set (set ys j x) p row)
unfolding exchanged
exchanged_set k x row [] j p f n z = absurd (let l = f.0 in omega arith)
exchanged_set k x row (y ∷ ys) zero zero f n z = absurd (n refl)
exchanged_set k x row (y ∷ ys) zero (suc p) f n z = other_case (at y k) _ _ f.2
exchanged_set k x row (y ∷ ys) (suc j) zero f n z =
    let lt = f.0 in
    rw (z (omega arith), exchanged_is k x ys j (omega arith, f.1.1, f.2)) refl
exchanged_set k x row (y ∷ ys) (suc j) (suc p) f n z =
    let lt = f.0 in
    rw (f.1.0, exchanged_set k x row ys j p (omega arith, f.1.1, f.2) (λ e. n (ap suc e)) (λ l. z (omega arith))) refl

some_inj : {x y : List ℤ × List (List ℤ)} → Some x ≡ Some y → x ≡ y
some_inj {x} e = ap (λ o. or_else o) e
  where
    or_else : Option (List ℤ × List (List ℤ)) → List ℤ × List (List ℤ)
    or_else None = x
    or_else (Some z) = z

set_set : (ys : List (List ℤ)) (j : ℕ) (x row : List ℤ) → set (set ys j x) j row ≡ set ys j row
set_set [] j x row = refl
set_set (y ∷ ys) zero x row = refl
set_set (y ∷ ys) (suc j) x row = ap (λ l. y ∷ l) (set_set ys j x row)

length_set : (ys : List (List ℤ)) (j : ℕ) (x : List ℤ) → length (set ys j x) ≡ length ys
length_set [] j x = refl
length_set (y ∷ ys) zero x = refl
length_set (y ∷ ys) (suc j) x = ap suc (length_set ys j x)

-- what is picked, and what stands behind, for the rows and for those with another row at p
abbrev Both : ℕ → List ℤ → List (List ℤ) → ℕ → ℕ → List ℤ → List (List ℤ) → Type 0
Both k row rows p q x others = (pick k rows ≡ Some (x, others)) × (pick k (set rows p row) ≡ Some (x, set others q row)) × (q < length others)

both_passed : (k : ℕ) (row : List ℤ) (rows : List (List ℤ)) (p q : ℕ) (x : List ℤ) (others : List (List ℤ)) → Both k row rows p q x others → IsPassed k p q row rows
both_passed k row rows p q x others b x' others' e =
    let same = some_inj (sym b.0 ∙ e) in
    let first = ap (λ z. z.0) same in
    let second = ap (λ z. z.1) same in
    (subst (λ l. q < length l) second b.2, b.1 ∙ ap₂ (λ (a : List ℤ) (l : List (List ℤ)). Some (a, set l q row)) first second)

-- the row at the front stands behind where the picked one stood
pub passed_front : (k i : ℕ) (row : List ℤ) (rows : List (List ℤ)) → IsFirst k i rows → 0 < i → at row k ≡ pos 0 → IsPassed k 0 (i - 1) row rows
unfolding pick
passed_front k i row [] f lt z = absurd (let l = f.inside in omega arith)
passed_front k zero row (x ∷ xs) f lt z = absurd (omega arith)
passed_front k (suc j) row (x ∷ xs) f lt z =
    let l = f.inside in
    let found : Found k x xs j = (omega arith, f.none.1, f.entry) in
    let q : suc j - 1 ≡ j = omega arith in
    let others = set xs j x in
    let is : pick k (x ∷ xs) ≡ Some (get_or xs j [], others) = rw (f.none.0) (exchanged_is k x xs j found) in
    let also : pick k (row ∷ xs) ≡ Some (get_or xs j [], set others j row) =
    rw z (exchanged_is k row xs j found ∙ ap (λ (m : List (List ℤ)). Some (get_or xs j [], m)) (sym (set_set xs j x row))) in
    let n = length_set xs j x in
    subst (λ m. IsPassed k 0 m row (x ∷ xs)) (sym q) (both_passed k row (x ∷ xs) 0 j (get_or xs j []) others (is, also, omega (arith, n, l)))

-- any other row stands one place nearer to the front
pub passed_behind : (k i p : ℕ) (row : List ℤ) (rows : List (List ℤ)) → IsFirst k i rows → 0 < p → p < length rows → p ≢ i → (p < i → at row k ≡ pos 0) → IsPassed k p (p - 1) row rows
unfolding pick
passed_behind k i p row [] f lt le n z = absurd (omega arith)
passed_behind k i zero row (x ∷ xs) f lt le n z = absurd (omega arith)
passed_behind k zero (suc p) row (x ∷ xs) f lt le n z =
    let q : suc p - 1 ≡ p = omega arith in
    let is : pick k (x ∷ xs) ≡ Some (x, xs) = other_case (at x k) _ _ f.entry in
    let also : pick k (x ∷ set xs p row) ≡ Some (x, set xs p row) = other_case (at x k) _ _ f.entry in
    subst (λ m. IsPassed k (suc p) m row (x ∷ xs)) (sym q) (both_passed k row (x ∷ xs) (suc p) p x xs (is, also, omega arith))
passed_behind k (suc j) (suc p) row (x ∷ xs) f lt le n z =
    let l = f.inside in
    let q : suc p - 1 ≡ p = omega arith in
    let found : Found k x xs j = (omega arith, f.none.1, f.entry) in
    let others = set xs j x in
    let is : pick k (x ∷ xs) ≡ Some (get_or xs j [], others) = rw (f.none.0) (exchanged_is k x xs j found) in
    let also : pick k (x ∷ set xs p row) ≡ Some (get_or xs j [], set others p row) =
    rw (f.none.0) (exchanged_set k x row xs j p found (λ e. n (ap suc e)) (λ l. z (omega arith))) in
    let m = length_set xs j x in
    subst (λ m. IsPassed k (suc p) m row (x ∷ xs)) (sym q) (both_passed k row (x ∷ xs) (suc p) p (get_or xs j []) others (is, also, omega (arith, m)))
