-- a column beside the reduced ones gives a solution over the lcm of the pivots
use Rattle.std.proofs.Common.{◌≡◌, ℕ, suc, ◌+◌, ℤ, pos, ◌*ℤ◌, ◌+ℤ◌, int_div, List, [], ◌∷◌, ◌++◌, length, refl, ap, ap₂, ◌∙◌, arith, length-append}
use Rattle.int_vectors.specs.Vectors.{dot, at, IsOrthogonal, zeros}
use Rattle.wide_int.proofs.Dividing.{quot_exact}
use Rattle.int_vectors.proofs.Entries.{length-zeros}
use Rattle.reduced_rows.specs.Denominators.{shares, lcm_from}
use Rattle.reduced_rows.specs.Spans.{IsReduced, InSpan}
use Rattle.reduced_rows.specs.Solutions.{ColumnSolves}
use Rattle.reduced_rows.proofs.Orthogonal.{dot_zeros, dot_last, dot_single, PivotsDivide, pivots_divide, HasShares, has_shares, length-shares, cancels}
use Rattle.reduced_rows.proofs.Combinations.{each_weaken, span_orthogonal}

dot_tail : (row xs : List ℤ) (d : ℕ) → dot row (xs ++ zeros d) ≡ dot row xs
unfolding zeros
dot_tail [] xs d = refl
dot_tail (r ∷ row) [] d = dot_zeros (r ∷ row) d
dot_tail (r ∷ row) (x ∷ xs) d = ap (λ z. r *ℤ x +ℤ z) (dot_tail row xs d)

module _ (n d l : ℕ) (xs : List ℤ) (long : length xs ≡ n) where
  solves : (j : ℕ) (rows : List (List ℤ)) → IsReduced n j rows → PivotsDivide j l rows → HasShares (n + d) j l rows xs → IsOrthogonal rows ((xs ++ zeros d) ++ (pos l ∷ zeros 0))
  unfolding PivotsDivide HasShares
  solves j [] r p h = tt
  solves j (row ∷ rows) r p h =
      let place : length (xs ++ zeros d) ≡ n + d = length-append xs (zeros d) ∙ ap₂ (λ a b. a + b) long (length-zeros d) in (
        dot_last row (xs ++ zeros d) (pos l) 0
            ∙ ap₂ (λ a b. a +ℤ at row b *ℤ pos l) (dot_tail row xs d ∙ dot_single row xs j (λ e lt ne. r.1 e (omega (arith, long, lt)) ne) ∙ ap (λ z. at row j *ℤ z) h.0) place
            ∙ cancels (at row j) (at row (n + d)) (int_div (pos l) (at row j)) (pos l) (quot_exact (pos l) (at row j) p.0),
        solves (suc j) rows r.2 p.1 h.1,
      )

pub column_solves : ColumnSolves
unfolding zeros
column_solves n d given made m =
    let l = lcm_from 0 1 made in
    let xs = shares (n + d) 0 l made in
    let o = solves n d l xs (length-shares (n + d) 0 l made ∙ m.count) 0 made m.reduced (pivots_divide 0 1 made) (has_shares (n + d) 0 l made [] refl) in
    each_weaken (InSpan made) (λ row. dot row ((shares (n + d) 0 (lcm_from 0 1 made) made ++ zeros d) ++ (pos (lcm_from 0 1 made) ∷ [])) ≡ pos 0) given (λ row s. span_orthogonal made row _ s o) m.span.0
