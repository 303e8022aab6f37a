-- the default start heights, one support and one direction after the other
use Rattle.std.proofs.Common.{◌≡◌, ◌≢◌, ℕ, suc, ◌+◌, ◌-◌, ◌<◌, ◌≤◌, List, [], ◌∷◌, ◌++◌, append_assoc, append-nil, arith, sym, ap, ◌∙◌}
use Rattle.std.proofs.Math.IntN.{ℤ}
use Rattle.cayley.specs.Paths.{default_start, default_starts_from, default_starts}
use Rattle.start_system.proofs.Started.Heights.{own_left_out, other_first}

from_place : (i place dim : ℕ) → place < dim → default_starts_from i (place + 1) (dim - place) ≡ default_starts_from i (place + 1) (suc (dim - (place + 1)))
from_place i place dim l = let e : dim - place ≡ suc (dim - (place + 1)) = omega arith in ap (default_starts_from i (place + 1)) e

after_place : (i place dim : ℕ) → default_starts_from i (suc (place + 1)) (dim - (place + 1)) ≡ default_starts_from i (place + 1 + 1) (dim - (place + 1))
after_place i place dim = let e : suc (place + 1) ≡ place + 1 + 1 = omega arith in ap (λ k. default_starts_from i k (dim - (place + 1))) e

pub row_own : (i place dim : ℕ) (xs all : List ℤ) → place < dim → place + 1 ≡ i → xs ++ default_starts_from i (place + 1) (dim - place) ≡ all
    → xs ++ default_starts_from i (place + 1 + 1) (dim - (place + 1)) ≡ all
row_own i place dim xs all l e h =
    ap (λ ys. xs ++ ys) (sym (from_place i place dim l ∙ own_left_out i (place + 1) (dim - (place + 1)) e ∙ after_place i place dim)) ∙ h

pub row_other : (i place dim : ℕ) (xs all : List ℤ) (z : ℤ) → place < dim → place + 1 ≢ i → z ≡ default_start i (place + 1) → xs ++ default_starts_from i (place + 1) (dim - place) ≡ all
    → (xs ++ z ∷ []) ++ default_starts_from i (place + 1 + 1) (dim - (place + 1)) ≡ all
row_other i place dim xs all z l n e h =
    append_assoc xs (z ∷ []) _
    ∙ ap (λ ys. xs ++ ys) (sym (from_place i place dim l ∙ other_first i (place + 1) (dim - (place + 1)) n ∙ ap (λ y. y ∷ default_starts_from i (suc (place + 1)) (dim - (place + 1))) (sym e)
    ∙ ap (λ ys. z ∷ ys) (after_place i place dim))) ∙ h

pub row_end : (i place dim : ℕ) (xs all : List ℤ) → dim ≤ place → xs ++ default_starts_from i (place + 1) (dim - place) ≡ all → xs ≡ all
row_end i place dim xs all l h =
    let e : dim - place ≡ 0 = omega arith in
    sym (append-nil xs) ∙ ap (λ j. xs ++ default_starts_from i (place + 1) j) (sym e) ∙ h

pub rows_more : (n place dim : ℕ) (xs all : List (List ℤ)) (row : List ℤ) → place < dim → row ≡ default_starts_from (place + 1) 1 n → xs ++ default_starts n (place + 1) (dim - place) ≡ all
    → (xs ++ row ∷ []) ++ default_starts n (place + 1 + 1) (dim - (place + 1)) ≡ all
rows_more n place dim xs all row l e h =
    let a : dim - place ≡ suc (dim - (place + 1)) = omega arith in
    let b : suc (place + 1) ≡ place + 1 + 1 = omega arith in
    append_assoc xs (row ∷ []) _
    ∙ ap (λ ys. xs ++ ys) (sym (ap (default_starts n (place + 1)) a ∙ ap (λ y. y ∷ default_starts n (suc (place + 1)) (dim - (place + 1))) (sym e)
    ∙ ap (λ k. row ∷ default_starts n k (dim - (place + 1))) b)) ∙ h

pub rows_end : (n place dim : ℕ) (xs all : List (List ℤ)) → dim ≤ place → xs ++ default_starts n (place + 1) (dim - place) ≡ all → xs ≡ all
rows_end n place dim xs all l h =
    let e : dim - place ≡ 0 = omega arith in
    sym (append-nil xs) ∙ ap (λ j. xs ++ default_starts n (place + 1) j) (sym e) ∙ h
