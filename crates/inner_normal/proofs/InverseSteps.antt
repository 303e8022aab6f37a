-- the columns of the scaled inverse one by one
use Rattle.std.proofs.Common.{◌≡◌, ℕ, zero, suc, ◌+◌, ◌*◌, ◌<◌, ℤ, List, [], ◌∷◌, ◌++◌, length, sym, ap, ◌∙◌, subst, arith}
use Rattle.int_vectors.specs.Vectors.{Each}
use Rattle.reduced_rows.specs.Denominators.{FitsShares}
use Rattle.reduced_rows.specs.Solutions.{scaled_column}
use Rattle.inner_normal.specs.Inverses.{scaled_columns, FitsColumns}

shift : (off i : ℕ) → suc off + i ≡ off + suc i
shift off i = omega arith

here : (off : ℕ) → off ≡ off + 0
here off = omega arith

columns_next : (i off l : ℕ) (made : List (List ℤ)) → scaled_columns (suc i) off l made ≡ scaled_columns i off l made ++ scaled_column (off + i) 0 l made ∷ []
columns_next zero off l made = ap (λ k. scaled_column k 0 l made ∷ []) (here off)
columns_next (suc i) off l made =
    ap (λ xs. scaled_column off 0 l made ∷ xs) (columns_next i (suc off) l made ∙ ap (λ k. scaled_columns i (suc off) l made ++ scaled_column k 0 l made ∷ []) (shift off i))

fits_next : (i off l : ℕ) (made : List (List ℤ)) → FitsColumns i off l made → FitsShares (off + i) 0 l made → FitsColumns (suc i) off l made
fits_next zero off l made f g = (subst (λ k. FitsShares k 0 l made) (sym (here off)) g, tt)
fits_next (suc i) off l made f g = (f.0, fits_next i (suc off) l made f.1 (subst (λ k. FitsShares k 0 l made) (sym (shift off i)) g))

fits_at : (m i off l : ℕ) (made : List (List ℤ)) → i < m → FitsColumns m off l made → FitsShares (off + i) 0 l made
fits_at zero i off l made lt f = absurd (omega (arith, lt))
fits_at (suc m) zero off l made lt f = subst (λ k. FitsShares k 0 l made) (here off) f.0
fits_at (suc m) (suc i) off l made lt f = subst (λ k. FitsShares k 0 l made) (shift off i) (fits_at m i (suc off) l made (omega (arith, lt)) f.1)

-- one turn, by a count that is the number of rows
module _ (n l i count : ℕ) (rows : List (List ℤ)) (is : count ≡ n) where
  place : count + 2 + i ≡ n + 2 + i
  place = omega (arith, is)

  suc_is : i + 1 ≡ suc i
  suc_is = omega arith

  pub columns_more : (made new : List (List ℤ)) (column : List ℤ) → made ≡ scaled_columns i (n + 2) l rows → column ≡ scaled_column (count + 2 + i) 0 l rows → new ≡ made ++ column ∷ [] → new ≡ scaled_columns (i + 1) (n + 2) l rows
  columns_more made new column m c e =
      e ∙ ap (λ xs. xs ++ column ∷ []) m ∙ ap (λ x. scaled_columns i (n + 2) l rows ++ x ∷ []) (c ∙ ap (λ k. scaled_column k 0 l rows) place)
      ∙ sym (columns_next i (n + 2) l rows) ∙ ap (λ m. scaled_columns m (n + 2) l rows) (sym suc_is)

  pub fits_more : FitsColumns i (n + 2) l rows → FitsShares (count + 2 + i) 0 l rows → FitsColumns (i + 1) (n + 2) l rows
  fits_more f g = subst (λ m. FitsColumns m (n + 2) l rows) (sym suc_is) (fits_next i (n + 2) l rows f (subst (λ k. FitsShares k 0 l rows) place g))

  pub fits_not : i < count → ¬ (FitsShares (count + 2 + i) 0 l rows) → ¬ (FitsColumns n (n + 2) l rows)
  fits_not lt none f = none (subst (λ k. FitsShares k 0 l rows) (sym place) (fits_at n i (n + 2) l rows (omega (arith, lt, is)) f))

pub each_wide : (n k : ℕ) (rows : List (List ℤ)) → k < 2 * n + 2 → Each rows (λ row. length row ≡ 2 * n + 2) → Each rows (λ row. k < length row)
each_wide n k [] lt e = tt
each_wide n k (row ∷ rows) lt e = (subst (λ m. k < m) (sym e.0) lt, each_wide n k rows lt e.1)
