-- a problem of file points alone: its speeds are zero where it is still, and it is the problem of its file points
use Rattle.std.proofs.Common.{◌≡◌, inl, inr, arith, ℕ, suc, ◌+◌, ◌≤◌, List, [], ◌∷◌, length, take, sym, ap, subst, ◌∙◌}
use Rattle.std.proofs.Math.IntN.{pos}
use Rattle.int_vectors.specs.Vectors.{Each}
use Rattle.cayley.specs.Problems.{Point, Problem, EachSupport, IsStill, ranked_supports, file_points, HasNoCorners}
use Rattle.cayley.specs.declared.limits.TheConstants.{POINTS}
use Rattle.cayley.specs.Valid.{IsValidProblem}
use Rattle.cayley.proofs.Ranking.PlainProblems.{take_whole as take_length, whole_supports}
use Rattle.plain_lister.specs.Choices.{most_points}

-- what is said of the first points of each support is said of all
pub of_all : (Q : Point → Type 0) (i : ℕ) (files : List ℕ) (supports : List (List Point)) → EachSupport i files supports (λ j f s. length s ≡ f)
    → EachSupport i files supports (λ j f s. Each (take f s) Q) → Each supports (λ s. Each s Q)
of_all Q i [] [] e h = tt
of_all Q i [] (s ∷ supports) e h = absurd e
of_all Q i (f ∷ files) [] e h = absurd e
of_all Q i (f ∷ files) (s ∷ supports) e h = (subst (λ l. Each l Q) (take_length s f e.0) h.0, of_all Q (suc i) files supports e.1 h.1)

counts_within : (P : ℕ → ℕ → List Point → Type 0) → ((i f : ℕ) (s : List Point) → f ≤ POINTS → P i f s → length s ≤ most_points) → (i : ℕ) (files : List ℕ) (supports : List (List Point)) → EachSupport i files supports P
    → Each files (λ f. (1 ≤ f) × (f ≤ POINTS)) → Each supports (λ s. length s ≤ most_points)
counts_within P few i [] [] e h = tt
counts_within P few i [] (s ∷ supports) e h = absurd e
counts_within P few i (f ∷ files) [] e h = absurd e
counts_within P few i (f ∷ files) (s ∷ supports) e h = (few i f s h.0.1 e.0, counts_within P few (suc i) files supports e.1 h.1)

-- no support has more points than file points and corners may be
pub counts_of : (p : Problem) → IsValidProblem p → Each p.supports (λ s. length s ≤ most_points)
counts_of p valid = elim valid.shape.corners [
  | inl alone ↦ counts_within (λ i f s. length s ≡ f) (λ i f s l e. omega (arith, l, e)) 1 p.files p.supports alone valid.shape.counts
  | inr more ↦ (let d = valid.shape.dimension.1 in counts_within (λ i f s. length s ≡ f + (p.dimension + 1)) (λ i f s l e. omega (arith, l, e, d)) 1 p.files p.supports more valid.shape.counts)
]

module _ (p : Problem) (valid : IsValidProblem p) (alone : HasNoCorners p) where
  pub resting_of : IsStill p → Each p.supports (λ s. Each s (λ (x : Point). x.speed ≡ pos 0))
  resting_of still = of_all (λ x. x.speed ≡ pos 0) 1 p.files p.supports alone still

  pub own_points : file_points p ≡ p
  own_points = ap (λ l. record p { supports = l }) (ap (ranked_supports p.version p.files) (whole_supports 1 p.files p.supports alone) ∙ sym valid.ranks)
