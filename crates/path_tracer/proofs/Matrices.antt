-- the rows of columns have these columns
use Rattle.std.proofs.Common.{◌≡◌, ℕ, zero, suc, ◌+◌, ◌*◌, ◌<◌, List, [], ◌∷◌, ◌++◌, length, drop, get_or, arith, sym, ap, ap₂, subst, ◌∙◌, length-append}
use Rattle.std.proofs.Math.IntN.{ℤ, pos}
use Rattle.std.proofs.Math.ListN.{get_or-append, drop_of_length-le}
use Rattle.std.proofs.Math.Seq.{drop-cons, drop-append_seam}
use Rattle.std.proofs.lemmas.List.{get_or-map, length-map}
use Rattle.int_vectors.specs.Vectors.{Each, at, entries_at}
use Rattle.reduced_rows.proofs.Picking.{each_at}
use Rattle.path_trace.specs.Matrices.{column, columns_from, columns}
use Rattle.path_tracer.specs.Rows.{rows_of}

front_gone : (xs ys : List ℤ) (n : ℕ) → length xs ≡ n → drop n (xs ++ ys) ≡ ys
front_gone xs ys n e = subst (λ k. drop k (xs ++ ys) ≡ ys) e (drop-append_seam xs ys)

module _ (cs : List (List ℤ)) (n : ℕ) (count : length cs ≡ n) where
  wide : (i : ℕ) → length (entries_at i cs) ≡ n
  wide i = length-map cs (λ (c : List ℤ). at c i) ∙ count

  pub rows_long : (m i : ℕ) → length (rows_of m i cs) ≡ m * n
  rows_long zero i = omega arith
  rows_long (suc m) i = let e : n + m * n ≡ suc m * n = omega arith in length-append (entries_at i cs) (rows_of m (suc i) cs) ∙ ap₂ (λ a b. a + b) (wide i) (rows_long m (suc i)) ∙ e

  -- one column
  module _ (k : ℕ) (below : k < n) where
    entry : (i : ℕ) (rest : List ℤ) → at (entries_at i cs ++ rest) k ≡ at (get_or cs k []) i
    entry i rest =
        get_or-append (entries_at i cs) rest (pos 0) k (let e = wide i in omega (arith, e, below))
        ∙ get_or-map (λ (c : List ℤ). at c i) cs k [] (pos 0) (omega (arith, count, below))

    column_is : (m i : ℕ) → i + m ≡ length (get_or cs k []) → column n k m (rows_of m i cs) ≡ drop i (get_or cs k [])
    column_is zero i e = sym (drop_of_length-le (get_or cs k []) (omega (arith, e)))
    column_is (suc m) i e =
        ap₂ (λ x xs. x ∷ xs) (entry i (rows_of m (suc i) cs)) (ap (column n k m) (front_gone (entries_at i cs) (rows_of m (suc i) cs) n (wide i)) ∙ column_is m (suc i) (omega (arith, e)))
        ∙ sym (drop-cons (get_or cs k []) i (pos 0) (omega (arith, e)))

  module _ (long : Each cs (λ c. length c ≡ n)) where
    pub column_of : (k : ℕ) → k < n → column n k n (rows_of n 0 cs) ≡ get_or cs k []
    column_of k below = let e = each_at (λ c. length c ≡ n) cs k [] (omega (arith, below, count)) long in column_is k below n 0 (omega (arith, e))

    columns_left : (m k : ℕ) → k + m ≡ n → columns_from n k m (rows_of n 0 cs) ≡ drop k cs
    columns_left zero k e = sym (drop_of_length-le cs (omega (arith, e, count)))
    columns_left (suc m) k e = ap₂ (λ (x : List ℤ) (xs : List (List ℤ)). x ∷ xs) (column_of k (omega (arith, e))) (columns_left m (suc k) (omega (arith, e))) ∙ sym (drop-cons cs k [] (omega (arith, e, count)))

    pub columns_of : columns n (rows_of n 0 cs) ≡ cs
    columns_of = columns_left n 0 (omega arith)
