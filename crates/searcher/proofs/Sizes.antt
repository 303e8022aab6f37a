-- a size for each branch, with nothing assumed of the problem
use Rattle.std.proofs.Common.{◌≡◌, ℕ, List, [], ◌∷◌, length}
use native.Mathlib.Decide.{ℕ_discrete}
use Rattle.int_vectors.specs.Vectors.{Each}
use Rattle.cayley.specs.Problems.{Point, Problem, IsProblem}
use Rattle.cayley.specs.Shares.{Branch, GivesSizes}
use Rattle.cayley.proofs.Searching.Steps.{sizes_exist}

dec_support : (n : ℕ) (s : List Point) → Dec (Each s (λ (x : Point). length x.coordinates ≡ n))
dec_support n [] = yes tt
dec_support n (x ∷ s) = elim (ℕ_discrete (length x.coordinates) n) [
  | no m ↦ no (λ e. m e.0)
  | yes e ↦ elim (dec_support n s) [ no m ↦ no (λ e. m e.1) | yes f ↦ yes (e, f) ]
]

dec_supports : (n : ℕ) (supports : List (List Point)) → Dec (Each supports (λ s. Each s (λ (x : Point). length x.coordinates ≡ n)))
dec_supports n [] = yes tt
dec_supports n (s ∷ supports) = elim (dec_support n s) [
  | no m ↦ no (λ e. m e.0)
  | yes e ↦ elim (dec_supports n supports) [ no m ↦ no (λ e. m e.1) | yes f ↦ yes (e, f) ]
]

pub dec_problem : (p : Problem) → Dec (IsProblem p)
dec_problem p = elim (ℕ_discrete (length p.supports) p.dimension) [
  | no m ↦ no (λ well. m well.supports)
  | yes e ↦ elim (dec_supports p.dimension p.supports) [ no m ↦ no (λ well. m well.points) | yes f ↦ yes (record { supports = e; points = f }) ]
]

size_by : (p : Problem) → Dec (IsProblem p) → Branch → ℕ
size_by p (yes well) b = (sizes_exist p well).0 b
size_by p (no m) b = 0

size_by_gives : (p : Problem) (d : Dec (IsProblem p)) → IsProblem p → GivesSizes p (size_by p d)
unfolding size_by
size_by_gives p (yes w) well = λ b. (sizes_exist p w).1 b
size_by_gives p (no m) well = absurd (m well)

-- its size where the problem is one
pub size_in : Problem → Branch → ℕ
size_in p = size_by p (dec_problem p)

pub size_in_gives : (p : Problem) → IsProblem p → GivesSizes p (size_in p)
unfolding size_in
size_in_gives p well = size_by_gives p (dec_problem p) well
