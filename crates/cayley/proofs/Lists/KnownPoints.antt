-- what holds of every point of every support holds of the points of the pairs
use Rattle.std.specs.Prelude.{slice_index_or}
use Rattle.std.proofs.Common.{ℕ, zero, suc, List, [], ◌∷◌}
use Rattle.int_vectors.specs.Vectors.{Each}
use Rattle.cayley.specs.Problems.{Point, origin}
use Rattle.cayley.specs.Cells.{Cell, EachPair}
use Rattle.cayley.specs.Dependencies.{nth_support}

-- it holds at every position, if also of what stands past the end
pub known_at : (R : Point → Type 0) → R origin → (s : List Point) (k : ℕ) → Each s R → R (slice_index_or s k origin)
known_at R o [] k e = o
known_at R o (x ∷ s) zero e = e.0
known_at R o (x ∷ s) (suc k) e = known_at R o s k e.1

pub known_support : (R : Point → Type 0) (supports : List (List Point)) (j : ℕ) → Each supports (λ s. Each s R) → Each (nth_support supports j) R
known_support R [] j e = tt
known_support R (s ∷ supports) zero e = e.0
known_support R (s ∷ supports) (suc j) e = known_support R supports j e.1

pub known_pairs : (R : Point → Type 0) (supports : List (List Point)) (cell : Cell) (P Q : List Point → ℕ → ℕ → Type 0) → Each supports (λ s. Each s R)
    → ((s : List Point) (a b : ℕ) → Each s R → P s a b → Q s a b) → EachPair supports cell P → EachPair supports cell Q
known_pairs R [] [] P Q r f e = tt
known_pairs R [] (x ∷ cell) P Q r f e = e
known_pairs R (s ∷ supports) [] P Q r f e = e
known_pairs R (s ∷ supports) (x ∷ cell) P Q r f e = (f s x.0 x.1 r.0 e.0, known_pairs R supports cell P Q r.1 f e.1)
