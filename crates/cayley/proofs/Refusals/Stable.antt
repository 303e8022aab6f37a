-- limits are tests: what can't be refuted holds
use Rattle.std.proofs.Common.{ℕ, ◌≤◌, List, [], ◌∷◌, arith, inl, inr}
use Rattle.std.specs.Prelude.{ℤ, pos, negsuc, ◌+ℤ◌, unsigned_abs}
use Rattle.std.proofs.lemmas.Bool.{cases_lt}
use Rattle.std.proofs.lemmas.Int.{ints}
use Rattle.int_vectors.specs.Vectors.{Each}
use Rattle.cayley.specs.Files.{FilePoint}
use Rattle.cayley.specs.Problems.{Point}
use Rattle.cayley.specs.Valid.{IsWithinFile, IsWithinProblem, IsWithinCorners, IsCornerBase}

pub le_stable : (a b : ℕ) → ¬ (¬ (a ≤ b)) → a ≤ b
le_stable a b h = elim (cases_lt b a) [ inl p ↦ absurd (h (λ q. omega arith)) | inr p ↦ p ]

pub each_stable : {A : Type 0} (P : A → Type 0) → ((x : A) → ¬ (¬ (P x)) → P x) → (xs : List A) → ¬ (¬ (Each xs P)) → Each xs P
each_stable P f [] h = tt
each_stable P f (x ∷ xs) h = (f x (λ n. h (λ e. n e.0)), each_stable P f xs (λ n. h (λ e. n e.1)))

pub within_stable : (x : FilePoint) → ¬ (¬ (IsWithinFile x)) → IsWithinFile x
within_stable x h =
    (each_stable _ (λ z n. le_stable (unsigned_abs z) 1000000 n) x.coordinates (λ n. h (λ w. n w.0)), le_stable (unsigned_abs x.height) 1000000000 (λ n. h (λ w. n w.1)))

pub problem_stable : (x : Point) → ¬ (¬ (IsWithinProblem x)) → IsWithinProblem x
problem_stable x h = (
  each_stable _ (λ z n. le_stable (unsigned_abs z) 1000000 n) x.coordinates (λ n. h (λ w. n w.0)),
  le_stable (unsigned_abs x.base) 1000000000 (λ n. h (λ w. n w.1)),
  le_stable (unsigned_abs (x.base +ℤ x.speed)) 1000000000 (λ n. h (λ w. n w.2)),
)

base_stable : (z : ℤ) → ¬ (¬ (IsCornerBase z)) → IsCornerBase z
base_stable (pos n) h =
    let l = le_stable n 1000000000 (λ m. h (λ w. let a = w.1 in m (omega (arith, ints)))) in
    (omega (arith, ints), omega (arith, ints))
base_stable (negsuc n) h = absurd (h (λ w. let a = w.0 in omega (arith, ints)))

pub corners_stable : (x : Point) → ¬ (¬ (IsWithinCorners x)) → IsWithinCorners x
corners_stable x h =
    (each_stable _ (λ z n. le_stable (unsigned_abs z) 33000000 n) x.coordinates (λ n. h (λ w. n w.0)), base_stable x.base (λ n. h (λ w. n w.1)))
