-- the numbers of a matrix, one by one and row by row
use Rattle.std.proofs.Common.{◌≡◌, ℕ, zero, suc, ◌+◌, ◌<◌, List, [], ◌∷◌, ◌++◌, length, take, get_or, arith, sym, ap, ap₂, subst, ◌∙◌, append_assoc, append-nil}
use Rattle.std.proofs.Math.IntN.{ℤ}
use Rattle.std.proofs.lemmas.List.{take_more, map-append}
use Rattle.int_vectors.specs.Vectors.{Each, at, entries_at}
use Rattle.int_vectors.proofs.Each.{each_weaker}
use Rattle.path_tracer.specs.Rows.{rows_of}

pub entry_more : (place : ℕ) (columns : List (List ℤ)) (i : ℕ) (first old new : List ℤ) (x : ℤ) → i < length columns → old ≡ first ++ entries_at place (take i columns) → x ≡ at (get_or columns i []) place → new ≡ old ++ x ∷ []
    → new ≡ first ++ entries_at place (take (i + 1) columns)
entry_more place columns i first old new x l is e n =
    n ∙ ap₂ (λ a b. a ++ b ∷ []) is e ∙ append_assoc first (entries_at place (take i columns)) (at (get_or columns i []) place ∷ [])
    ∙ ap (λ l. first ++ l) (sym (map-append (λ (column : List ℤ). at column place) (take i columns) (get_or columns i [] ∷ [])) ∙ ap (entries_at place) (sym (take_more columns i [] l)))

rows_next : (m i : ℕ) (columns : List (List ℤ)) → rows_of (suc m) i columns ≡ rows_of m i columns ++ entries_at (i + m) columns
rows_next zero i columns = let e : i ≡ i + 0 = omega arith in append-nil (entries_at i columns) ∙ ap (λ k. entries_at k columns) e
rows_next (suc m) i columns =
    let e : suc i + m ≡ i + suc m = omega arith in
    ap (λ l. entries_at i columns ++ l) (rows_next m (suc i) columns) ∙ sym (append_assoc (entries_at i columns) (rows_of m (suc i) columns) (entries_at (suc i + m) columns))
    ∙ ap (λ k. (entries_at i columns ++ rows_of m (suc i) columns) ++ entries_at k columns) e

pub rows_more : (m : ℕ) (columns : List (List ℤ)) (old new : List ℤ) → old ≡ rows_of m 0 columns → new ≡ old ++ entries_at m columns → new ≡ rows_of (m + 1) 0 columns
rows_more m columns old new is e =
    let s : suc m ≡ m + 1 = omega arith in
    let z : m ≡ 0 + m = omega arith in
    e ∙ ap₂ (λ l k. l ++ entries_at k columns) is z ∙ sym (rows_next m 0 columns) ∙ ap (λ k. rows_of k 0 columns) s

pub place_within : (n m : ℕ) (columns : List (List ℤ)) → m < n → Each columns (λ column. length column ≡ n) → Each columns (λ column. m < length column)
place_within n m columns l e = each_weaker (λ column. length column ≡ n) (λ column. m < length column) columns (λ column h. subst (λ k. m < k) (sym h) l) e
