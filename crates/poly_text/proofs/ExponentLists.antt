-- Lists of exponents that are made entry by entry.
use Rattle.std.proofs.Common.{◌≡◌, ℕ, suc, zero, ◌+◌, ◌<◌, ◌≤◌, ℤ, ◌+ℤ◌, Bool, true, false, ◌&&◌, List, [], ◌∷◌, ◌++◌, length, drop, Option, Some, None, slice_index_or, refl, sym, ap, ◌∙◌, append_assoc, append-nil, arith, if◌then◌else◌}
use Rattle.std.specs.List.{list_all}
use Rattle.poly_text.specs.Maps.{sum_of_exponents}
use Rattle.poly_text.specs.Bounds.{fits}

-- these entries behind those that were made, where they fit
unfoldable pub extended : List ℤ → List ℤ → Option (List ℤ)
extended made zs = if list_all fits zs then Some (made ++ zs) else None

extended_cons : (b c : Bool) (made : List ℤ) (z : ℤ) (zs : List ℤ) → b ≡ true
    → (if b && c then Some (made ++ z ∷ zs) else None) ≡ (if c then Some ((made ++ z ∷ []) ++ zs) else None)
extended_cons true true made z zs h = ap (λ (l : List ℤ). Some l) (sym (append_assoc made (z ∷ []) zs))
extended_cons true false made z zs h = refl
extended_cons false c made z zs h = absurd cc

not_extended : (b c : Bool) (o : Option (List ℤ)) → b ≡ false → (if b && c then o else None) ≡ None
not_extended true c o h = absurd cc
not_extended false c o h = refl

abbrev pub rest_of : List ℤ → List ℤ → ℕ → List ℤ
rest_of xs ys k = sum_of_exponents (drop k xs) (drop k ys)

rest_more : (xs ys : List ℤ) (k : ℕ) (d : ℤ) → k < length xs → k < length ys
    → rest_of xs ys k ≡ (slice_index_or xs k d +ℤ slice_index_or ys k d) ∷ rest_of xs ys (k + 1)
rest_more [] ys k d h e = absurd (omega arith)
rest_more (x ∷ xs) [] k d h e = absurd (omega arith)
rest_more (x ∷ xs) (y ∷ ys) zero d h e = refl
rest_more (x ∷ xs) (y ∷ ys) (suc k) d h e =
    let next : suc k + 1 ≡ suc (k + 1) = omega arith in
    rest_more xs ys k d (omega arith) (omega arith) ∙ ap (λ (j : ℕ). (slice_index_or xs k d +ℤ slice_index_or ys k d) ∷ rest_of (x ∷ xs) (y ∷ ys) j) (sym next)

pub sum_more : (made xs ys : List ℤ) (k : ℕ) (d z : ℤ) (whole : Option (List ℤ)) → k < length xs → k < length ys → z ≡ slice_index_or xs k d +ℤ slice_index_or ys k d → fits z ≡ true
    → extended made (rest_of xs ys k) ≡ whole → extended (made ++ z ∷ []) (rest_of xs ys (k + 1)) ≡ whole
unfolding extended
sum_more made xs ys k d z whole h e is fit so_far =
    let one = rest_more xs ys k d h e in
    let fit2 : fits (slice_index_or xs k d +ℤ slice_index_or ys k d) ≡ true = ap fits (sym is) ∙ fit in
    let a = extended_cons (fits (slice_index_or xs k d +ℤ slice_index_or ys k d)) (list_all fits (rest_of xs ys (k + 1))) made (slice_index_or xs k d +ℤ slice_index_or ys k d) (rest_of xs ys (k + 1)) fit2 in
    ap (λ (w : ℤ). extended (made ++ w ∷ []) (rest_of xs ys (k + 1))) is ∙ sym a ∙ ap (extended made) (sym one) ∙ so_far

pub sum_fails : (made xs ys : List ℤ) (k : ℕ) (d : ℤ) (whole : Option (List ℤ)) → k < length xs → k < length ys → fits (slice_index_or xs k d +ℤ slice_index_or ys k d) ≡ false
    → extended made (rest_of xs ys k) ≡ whole → whole ≡ None
unfolding extended
sum_fails made xs ys k d whole h e unfit so_far =
    sym so_far ∙ ap (extended made) (rest_more xs ys k d h e)
    ∙ not_extended (fits (slice_index_or xs k d +ℤ slice_index_or ys k d)) (list_all fits (rest_of xs ys (k + 1))) (Some (made ++ (slice_index_or xs k d +ℤ slice_index_or ys k d) ∷ rest_of xs ys (k + 1))) unfit

drop_nothing : (k : ℕ) → drop {A = ℤ} k [] ≡ []
drop_nothing zero = refl
drop_nothing (suc k) = refl

no_more : (xs ys : List ℤ) (k : ℕ) → length ys ≤ k → rest_of xs ys k ≡ []
no_more [] ys zero h = refl
no_more [] ys (suc k) h = refl
no_more (x ∷ xs) [] zero h = refl
no_more (x ∷ xs) [] (suc k) h = ap (sum_of_exponents (drop k xs)) (sym (drop_nothing k)) ∙ no_more xs [] k (omega arith)
no_more (x ∷ xs) (y ∷ ys) zero h = absurd (omega arith)
no_more (x ∷ xs) (y ∷ ys) (suc k) h = no_more xs ys k (omega arith)

no_more_left : (xs ys : List ℤ) (k : ℕ) → length xs ≤ k → rest_of xs ys k ≡ []
no_more_left [] ys zero h = refl
no_more_left [] ys (suc k) h = refl
no_more_left (x ∷ xs) ys zero h = absurd (omega arith)
no_more_left (x ∷ xs) [] (suc k) h = ap (sum_of_exponents (drop k xs)) (sym (drop_nothing k)) ∙ no_more_left xs [] k (omega arith)
no_more_left (x ∷ xs) (y ∷ ys) (suc k) h = no_more_left xs ys k (omega arith)

pub sum_ends : (made xs ys : List ℤ) (k : ℕ) (whole : Option (List ℤ)) → length ys ≤ k → extended made (rest_of xs ys k) ≡ whole → whole ≡ Some made
unfolding extended
sum_ends made xs ys k whole h so_far = sym so_far ∙ ap (extended made) (no_more xs ys k h) ∙ ap (λ (l : List ℤ). Some l) (append-nil made)

pub sum_ends_left : (made xs ys : List ℤ) (k : ℕ) (whole : Option (List ℤ)) → length xs ≤ k → extended made (rest_of xs ys k) ≡ whole → whole ≡ Some made
unfolding extended
sum_ends_left made xs ys k whole h so_far = sym so_far ∙ ap (extended made) (no_more_left xs ys k h) ∙ ap (λ (l : List ℤ). Some l) (append-nil made)

pub nothing_made : (zs : List ℤ) → extended [] zs ≡ (if list_all fits zs then Some zs else None)
unfolding extended
nothing_made zs = refl
