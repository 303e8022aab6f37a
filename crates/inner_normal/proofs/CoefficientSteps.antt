-- the coefficients along the loop over the columns
use Rattle.std.proofs.Common.{◌≡◌, ◌↔◌, ℕ, zero, suc, ◌+◌, ◌<◌, ◌≤◌, ℤ, pos, ◌+ℤ◌, ◌-ℤ◌, ◌*ℤ◌, neg_ℤ, List, [], ◌∷◌, ◌++◌, length, drop, refl, sym, ap, subst, ◌∙◌, arith, drop-cons, add-one, drop_of_length-le, append_assoc}
use Rattle.std.specs.Prelude.{slice_index_or}
use Rattle.std.proofs.Math.IntN.{+ℤ_assoc, +ℤ_idl, +ℤ_idr}
use Rattle.wide_int.specs.Whole.{FitsWhole}
use Rattle.wide_int.proofs.Signed.{neg_fits}
use Rattle.int_vectors.specs.Fits.{AllFit, FitsDot}
use Rattle.int_vectors.specs.Vectors.{Each, at, dot}
use Rattle.cayley.proofs.OneCell.EdgeRows.{fits-append}
use Rattle.inner_normal.specs.Coefficients.{less_own, products, coefficients_from}

-- the number of the pair's own support, and of another
pub own_here : (i j : ℕ) (den m : ℤ) → i ≡ j → less_own i j den m ≡ m -ℤ den
own_here zero zero den m e = refl
own_here zero (suc j) den m e = absurd (omega (arith, e))
own_here (suc i) zero den m e = absurd (omega (arith, e))
own_here (suc i) (suc j) den m e = own_here i j den m (omega (arith, e))

pub own_elsewhere : (i j : ℕ) (den m : ℤ) → ¬ (i ≡ j) → less_own i j den m ≡ m
own_elsewhere zero zero den m n = absurd (n refl)
own_elsewhere zero (suc j) den m n = refl
own_elsewhere (suc i) zero den m n = refl
own_elsewhere (suc i) (suc j) den m n = own_elsewhere i j den m (λ e. n (ap suc e))

-- where all numbers of a product fit, it does
pub fits_total : (t : ℤ) (xs ys : List ℤ) → FitsDot t xs ys → FitsWhole (t +ℤ dot xs ys)
unfolding FitsDot
fits_total t [] ys h = subst FitsWhole (sym (+ℤ_idr t)) h
fits_total t (x ∷ xs) [] h = subst FitsWhole (sym (+ℤ_idr t)) h
fits_total t (x ∷ xs) (y ∷ ys) h = subst FitsWhole (+ℤ_assoc t (x *ℤ y) (dot xs ys)) (fits_total (t +ℤ x *ℤ y) xs ys h.2)

pub dot_fits : (xs ys : List ℤ) → FitsDot (pos 0) xs ys → FitsWhole (dot xs ys)
dot_fits xs ys h = subst FitsWhole (+ℤ_idl (dot xs ys)) (fits_total (pos 0) xs ys h)

-- the numbers of the pairs from place i on
abbrev pub FitsFrom : ℕ → ℕ → ℤ → List ℤ → List (List ℤ) → Type 0
FitsFrom i j den v [] = Unit {0}
FitsFrom i j den v (column ∷ columns) = FitsDot (pos 0) v column × FitsWhole (less_own i j den (dot v column)) × FitsFrom (suc i) j den v columns

past_to : (i : ℕ) (den : ℤ) (v : List ℤ) (columns : List (List ℤ)) → FitsFrom (suc i) 0 den v columns → Each columns (FitsDot (pos 0) v)
past_to i den v [] h = tt
past_to i den v (column ∷ columns) h = (h.0, past_to (suc i) den v columns h.2)

past_from : (i : ℕ) (den : ℤ) (v : List ℤ) (columns : List (List ℤ)) → Each columns (FitsDot (pos 0) v) → FitsFrom (suc i) 0 den v columns
past_from i den v [] h = tt
past_from i den v (column ∷ columns) h = (h.0, dot_fits v column h.0, past_from (suc i) den v columns h.1)

shift_to : (i j : ℕ) (den : ℤ) (v : List ℤ) (columns : List (List ℤ)) → FitsFrom (suc i) (suc j) den v columns → FitsFrom i j den v columns
shift_to i j den v [] h = tt
shift_to i j den v (column ∷ columns) h = (h.0, h.1, shift_to (suc i) j den v columns h.2)

shift_from : (i j : ℕ) (den : ℤ) (v : List ℤ) (columns : List (List ℤ)) → FitsFrom i j den v columns → FitsFrom (suc i) (suc j) den v columns
shift_from i j den v [] h = tt
shift_from i j den v (column ∷ columns) h = (h.0, h.1, shift_from (suc i) j den v columns h.2)

-- one by one, and as the definition has it
pub fits_to : (j : ℕ) (den : ℤ) (v : List ℤ) (columns : List (List ℤ)) → j < length columns → FitsFrom 0 j den v columns → Each columns (FitsDot (pos 0) v) × FitsWhole (at (products v columns) j -ℤ den)
fits_to j den v [] l h = absurd (omega (arith, l))
fits_to zero den v (column ∷ columns) l h = ((h.0, past_to 0 den v columns h.2), h.1)
fits_to (suc j) den v (column ∷ columns) l h = let r = fits_to j den v columns (omega (arith, l)) (shift_to 0 j den v columns h.2) in ((h.0, r.0), r.1)

pub fits_from : (j : ℕ) (den : ℤ) (v : List ℤ) (columns : List (List ℤ)) → j < length columns → Each columns (FitsDot (pos 0) v) → FitsWhole (at (products v columns) j -ℤ den) → FitsFrom 0 j den v columns
fits_from j den v [] l e f = absurd (omega (arith, l))
fits_from zero den v (column ∷ columns) l e f = (e.0, f, past_from 0 den v columns e.1)
fits_from (suc j) den v (column ∷ columns) l e f = (e.0, dot_fits v column e.0, shift_from 0 j den v columns (fits_from j den v columns (omega (arith, l)) e.1 f))

-- one turn
module _ (j : ℕ) (den : ℤ) (v : List ℤ) (columns : List (List ℤ)) (i : ℕ) (column : List ℤ) (lt : i < length columns) (is : column ≡ slice_index_or columns i column) where
  rest : drop i columns ≡ column ∷ drop (suc i) columns
  rest = drop-cons columns i column lt ∙ ap (λ x. x ∷ drop (suc i) columns) (sym is)

  fits_split : FitsFrom i j den v (drop i columns) ≡ (FitsDot (pos 0) v column × FitsWhole (less_own i j den (dot v column)) × FitsFrom (i + 1) j den v (drop (i + 1) columns))
  fits_split = rw add-one (ap (FitsFrom i j den v) rest)

  pub fits_more : (FitsFrom 0 j den v columns ↔ FitsFrom i j den v (drop i columns)) → FitsDot (pos 0) v column → FitsWhole (less_own i j den (dot v column)) → FitsFrom 0 j den v columns ↔ FitsFrom (i + 1) j den v (drop (i + 1) columns)
  fits_more h p q = (
    (λ f. (subst (λ (T : Type 0). T) fits_split (h.0 f)).2),
    (λ f. h.1 (subst (λ (T : Type 0). T) (sym fits_split) (p, q, f))),
  )

  pub fits_not : (FitsFrom 0 j den v columns ↔ FitsFrom i j den v (drop i columns)) → ¬ (FitsDot (pos 0) v column × FitsWhole (less_own i j den (dot v column))) → ¬ (FitsFrom 0 j den v columns)
  fits_not h n f = let r = subst (λ (T : Type 0). T) fits_split (h.0 f) in n (r.0, r.1)

  items_split : coefficients_from i j den (products v (drop i columns)) ≡ less_own i j den (dot v column) ∷ neg_ℤ (dot v column) ∷ coefficients_from (i + 1) j den (products v (drop (i + 1) columns))
  items_split = rw add-one (ap (λ cs. coefficients_from i j den (products v cs)) rest)

  pub items_more : (made new pair all : List ℤ) → made ++ coefficients_from i j den (products v (drop i columns)) ≡ all → pair ≡ less_own i j den (dot v column) ∷ neg_ℤ (dot v column) ∷ [] → new ≡ made ++ pair
      → new ++ coefficients_from (i + 1) j den (products v (drop (i + 1) columns)) ≡ all
  items_more made new pair all e p n =
      ap (λ xs. xs ++ coefficients_from (i + 1) j den (products v (drop (i + 1) columns))) (n ∙ ap (λ xs. made ++ xs) p)
      ∙ append_assoc made (less_own i j den (dot v column) ∷ neg_ℤ (dot v column) ∷ []) (coefficients_from (i + 1) j den (products v (drop (i + 1) columns)))
      ∙ ap (λ xs. made ++ xs) (sym items_split) ∙ e

  pub all_more : (made new pair : List ℤ) → AllFit made → FitsDot (pos 0) v column → FitsWhole (less_own i j den (dot v column)) → pair ≡ less_own i j den (dot v column) ∷ neg_ℤ (dot v column) ∷ [] → new ≡ made ++ pair → AllFit new
  all_more made new pair f p q e n =
      subst AllFit (sym (n ∙ ap (λ xs. made ++ xs) e)) (fits-append made (less_own i j den (dot v column) ∷ neg_ℤ (dot v column) ∷ []) f (q, (neg_fits (dot v column) (dot_fits v column p), tt)))

-- after the last turn
pub items_end : (j : ℕ) (den : ℤ) (v : List ℤ) (columns : List (List ℤ)) (i : ℕ) (made new all : List ℤ) → length columns ≤ i → made ++ coefficients_from i j den (products v (drop i columns)) ≡ all → new ≡ made ++ den ∷ [] → new ≡ all
items_end j den v columns i made new all l e n = n ∙ sym (ap (λ cs. made ++ coefficients_from i j den (products v cs)) (drop_of_length-le columns l)) ∙ e

pub fits_end : (j : ℕ) (den : ℤ) (v : List ℤ) (columns : List (List ℤ)) (i : ℕ) → length columns ≤ i → FitsFrom 0 j den v columns ↔ FitsFrom i j den v (drop i columns) → FitsFrom 0 j den v columns
fits_end j den v columns i l h = h.1 (subst (FitsFrom i j den v) (sym (drop_of_length-le columns l)) tt)

pub all_end : (den : ℤ) (made new : List ℤ) → AllFit made → FitsWhole den → new ≡ made ++ den ∷ [] → AllFit new
all_end den made new f w e = subst AllFit (sym e) (fits-append made (den ∷ []) f (w, tt))
