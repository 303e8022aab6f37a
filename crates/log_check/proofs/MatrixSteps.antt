-- the rows of a matrix, one after the other
use Rattle.std.proofs.Common.{◌≡◌, ◌↔◌, ℕ, zero, suc, ◌+◌, ◌-◌, ◌*◌, ◌<◌, ◌≤◌, List, [], ◌∷◌, ◌++◌, length, take, drop, append_assoc, append-nil, arith, sym, ap, subst, ◌∙◌}
use Rattle.std.proofs.lemmas.List.{length-drop}
use Rattle.std.proofs.Math.IntN.{ℤ, pos}
use Rattle.wide_int.specs.Whole.{FitsWhole}
use Rattle.int_vectors.specs.Fits.{AllFit, FitsDot}
use Rattle.int_vectors.specs.Vectors.{at, dot}
use Rattle.path_trace.specs.Matrices.{column, columns_from}
use Rattle.log_check.specs.Numbers.{row_products, FitsRows}

pub fits_drop : (k : ℕ) (xs : List ℤ) → AllFit xs → AllFit (drop k xs)
fits_drop zero xs h = h
fits_drop (suc k) [] h = h
fits_drop (suc k) (x ∷ xs) h = fits_drop k xs h.1

-- one row further of the rows that are left
module _ (n i : ℕ) (lt : i < n) where
  one_less : n - i ≡ suc (n - (i + 1))
  one_less = omega (arith, lt)

  pub head_long : (rest : List ℤ) → length rest ≡ (n - i) * n → n ≤ length rest
  head_long rest l = first (n - i) (n - (i + 1)) n (length rest) one_less l
    where
      first : (a b n l : ℕ) → a ≡ suc b → l ≡ a * n → n ≤ l
      first a b n l e f = let g : l ≡ suc b * n = f ∙ ap (λ z. z * n) e in omega (arith, g)

  pub tail_long : (rest : List ℤ) → length rest ≡ (n - i) * n → length (drop n rest) ≡ (n - (i + 1)) * n
  tail_long rest l = left (n - i) (n - (i + 1)) n (length rest) (length (drop n rest)) one_less l (length-drop n rest)
    where
      left : (a b n l d : ℕ) → a ≡ suc b → l ≡ a * n → d ≡ l - n → d ≡ b * n
      left a b n l d e f g = let h : l ≡ suc b * n = f ∙ ap (λ z. z * n) e in omega (arith, g, h)

  module _ (made new : List ℤ) (x : ℤ) (rest : List ℤ) (more : new ≡ made ++ x ∷ []) where
    pub column_more : (k : ℕ) (all : List ℤ) → x ≡ at rest k → made ++ column n k (n - i) rest ≡ all → new ++ column n k (n - (i + 1)) (drop n rest) ≡ all
    column_more k all is before =
        ap (λ z. z ++ column n k (n - (i + 1)) (drop n rest)) more ∙ append_assoc made (x ∷ []) (column n k (n - (i + 1)) (drop n rest))
        ∙ ap (λ z. made ++ (z ∷ column n k (n - (i + 1)) (drop n rest))) is
        ∙ ap (λ m. made ++ column n k m rest) (sym one_less) ∙ before

    pub sums_more : (bs all : List ℤ) → x ≡ dot (take n rest) bs → made ++ row_products n (n - i) rest bs ≡ all → new ++ row_products n (n - (i + 1)) (drop n rest) bs ≡ all
    sums_more bs all is before =
        ap (λ z. z ++ row_products n (n - (i + 1)) (drop n rest) bs) more ∙ append_assoc made (x ∷ []) (row_products n (n - (i + 1)) (drop n rest) bs)
        ∙ ap (λ z. made ++ (z ∷ row_products n (n - (i + 1)) (drop n rest) bs)) is
        ∙ ap (λ m. made ++ row_products n m rest bs) (sym one_less) ∙ before

  module _ (F : Type 0) (rest bs : List ℤ) (before : F ↔ FitsRows n (n - i) rest bs) where
    here : FitsRows n (n - i) rest bs ≡ (FitsDot (pos 0) (take n rest) bs × FitsRows n (n - (i + 1)) (drop n rest) bs)
    here = ap (λ m. FitsRows n m rest bs) one_less

    pub rows_more : FitsDot (pos 0) (take n rest) bs → F ↔ FitsRows n (n - (i + 1)) (drop n rest) bs
    rows_more f = ((λ h. (subst (λ (A : Type 0). A) here (before.0 h)).1), (λ h. before.1 (subst (λ (A : Type 0). A) (sym here) (f, h))))

    pub rows_not : ¬ (FitsDot (pos 0) (take n rest) bs) → ¬ F
    rows_not n h = n (subst (λ (A : Type 0). A) here (before.0 h)).0

-- no row is left
module _ (n i : ℕ) (le : n ≤ i) where
  none_left : n - i ≡ 0
  none_left = omega (arith, le)

  pub column_end : (k : ℕ) (made rest all : List ℤ) → made ++ column n k (n - i) rest ≡ all → made ≡ all
  column_end k made rest all e = sym (append-nil made) ∙ ap (λ m. made ++ column n k m rest) (sym none_left) ∙ e

  pub sums_end : (made rest bs all : List ℤ) → made ++ row_products n (n - i) rest bs ≡ all → made ≡ all
  sums_end made rest bs all e = sym (append-nil made) ∙ ap (λ m. made ++ row_products n m rest bs) (sym none_left) ∙ e

  pub rows_end : (F : Type 0) (rest bs : List ℤ) → F ↔ FitsRows n (n - i) rest bs → F
  rows_end F rest bs h = h.1 (subst (λ m. FitsRows n m rest bs) (sym none_left) tt)

-- one column further
pub columns_more : (n k : ℕ) → k < n → (made new : List (List ℤ)) (x xs : List ℤ) (all : List (List ℤ)) → new ≡ made ++ x ∷ [] → x ≡ column n k n xs → made ++ columns_from n k (n - k) xs ≡ all → new ++ columns_from n (k + 1) (n - (k + 1)) xs ≡ all
columns_more n k lt made new x xs all more is before =
    let e : n - k ≡ suc (n - (k + 1)) = omega (arith, lt) in
    let f : k + 1 ≡ suc k = omega arith in
    ap (λ z. z ++ columns_from n (k + 1) (n - (k + 1)) xs) more ∙ append_assoc made (x ∷ []) (columns_from n (k + 1) (n - (k + 1)) xs)
    ∙ ap (λ (z : List ℤ). made ++ (z ∷ columns_from n (k + 1) (n - (k + 1)) xs)) is
    ∙ ap (λ m. made ++ (column n k n xs ∷ columns_from n m (n - (k + 1)) xs)) f
    ∙ ap (λ m. made ++ columns_from n k m xs) (sym e) ∙ before

pub columns_end : (n k : ℕ) → n ≤ k → (made : List (List ℤ)) (xs : List ℤ) (all : List (List ℤ)) → made ++ columns_from n k (n - k) xs ≡ all → made ≡ all
columns_end n k le made xs all e = let z : n - k ≡ 0 = omega (arith, le) in sym (append-nil made) ∙ ap (λ m. made ++ columns_from n k m xs) (sym z) ∙ e

pub fits_at : (k : ℕ) (xs : List ℤ) → k < length xs → AllFit xs → FitsWhole (at xs k)
fits_at k [] lt h = absurd (omega (arith, lt))
fits_at zero (x ∷ xs) lt h = h.0
fits_at (suc k) (x ∷ xs) lt h = fits_at k xs (omega (arith, lt)) h.1
