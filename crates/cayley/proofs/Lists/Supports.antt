-- a property of each support, by places
use Rattle.std.proofs.Common.{◌≡◌, ℕ, zero, suc, ◌+◌, ◌<◌, ◌≤◌, List, [], ◌∷◌, length, map, take, drop, arith, refl, ap, subst, inl, inr, take-append-drop}
use Rattle.std.specs.Prelude.{ℤ, slice_index_or}
use Rattle.std.specs.List.{All}
use Rattle.int_vectors.specs.Vectors.{Each}
use Rattle.cayley.specs.declared.points.Point.{Point as StoredPoint}
use Rattle.cayley.specs.declared.points.Support.{Support}
use Rattle.cayley.specs.Stored.{point, unranked_of}
use Rattle.cayley.specs.Problems.{Point, Problem, EachSupport, HasCorners}
use Rattle.cayley.specs.Valid.{IsCoordinate, IsCornerCoordinate, IsWithinProblem, IsWithinCorners, IsValidProblem}
use Rattle.int_vectors.proofs.Each.{all_each, each_append, each_both, each_unmap, each_weaker}

pub each_support_long : (P : ℕ → ℕ → List Point → Type 0) (i : ℕ) (fs : List ℕ) (ss : List (List Point)) → EachSupport i fs ss P → length fs ≡ length ss
each_support_long P i [] [] h = refl
each_support_long P i [] (s ∷ ss) h = absurd h
each_support_long P i (f ∷ fs) [] h = absurd h
each_support_long P i (f ∷ fs) (s ∷ ss) h = ap suc (each_support_long P (suc i) fs ss h.1)

pub each_support_at : (P : ℕ → ℕ → List Point → Type 0) (i : ℕ) (fs : List ℕ) (ss : List (List Point)) → EachSupport i fs ss P
    → (k : ℕ) (e : ℕ) (d : List Point) → k < length ss → P (i + k) (slice_index_or fs k e) (slice_index_or ss k d)
each_support_at P i [] [] h k e d p = absurd (omega arith)
each_support_at P i [] (s ∷ ss) h k e d p = absurd h
each_support_at P i (f ∷ fs) [] h k e d p = absurd h
each_support_at P i (f ∷ fs) (s ∷ ss) h zero e d p = let q : i ≡ i + 0 = omega arith in subst (λ (j : ℕ). P j f s) q h.0
each_support_at P i (f ∷ fs) (s ∷ ss) h (suc k) e d p =
    let q : suc i + k ≡ i + suc k = omega arith in
    subst (λ (j : ℕ). P j (slice_index_or fs k e) (slice_index_or ss k d)) q (each_support_at P (suc i) fs ss h.1 k e d (omega arith))

pub each_support_from : (P : ℕ → ℕ → List Point → Type 0) (i : ℕ) (fs : List ℕ) (ss : List (List Point)) → length fs ≡ length ss
    → ((k : ℕ) (e : ℕ) (d : List Point) → k < length ss → P (i + k) (slice_index_or fs k e) (slice_index_or ss k d)) → EachSupport i fs ss P
each_support_from P i [] [] l h = tt
each_support_from P i [] (s ∷ ss) l h = absurd (omega arith)
each_support_from P i (f ∷ fs) [] l h = absurd (omega arith)
each_support_from P i (f ∷ fs) (s ∷ ss) l h =
    let q : i + 0 ≡ i = omega arith in (
      subst (λ (j : ℕ). P j f s) q (h 0 f s (omega arith)),
      each_support_from P (suc i) fs ss (omega arith) (λ k e d p.
          let r : i + suc k ≡ suc i + k = omega arith in
          subst (λ (j : ℕ). P j (slice_index_or fs k e) (slice_index_or ss k d)) r (h (suc k) e d (omega arith))),
    )

-- a support has at most 1,017 points
pub few_points : (p : Problem) → IsValidProblem p → (k : ℕ) (d : List Point) → k < length p.supports → length (slice_index_or p.supports k d) ≤ 1017
few_points p v k d q = by v.shape.corners
  where
    corners : HasCorners p → length p.files ≡ length p.supports
    corners (inl h) = each_support_long _ 1 p.files p.supports h
    corners (inr h) = each_support_long _ 1 p.files p.supports h

    few : slice_index_or p.files k 0 ≤ 1000
    few = let e = corners v.shape.corners in (all_each _ p.files v.shape.counts k 0 (omega arith)).1

    by : HasCorners p → length (slice_index_or p.supports k d) ≤ 1017
    by (inl h) = let e = each_support_at _ 1 p.files p.supports h k 0 d q in omega (arith, few)
    by (inr h) = let e = each_support_at _ 1 p.files p.supports h k 0 d q in let n = v.shape.dimension in omega (arith, few)

-- a coordinate within its limits is within those of a corner
pub wider : (z : ℤ) → IsCoordinate z → IsCornerCoordinate z
wider z h = omega arith

small_support : (f : ℕ) (s : List Point) → Each (take f s) IsWithinProblem × Each (drop f s) IsWithinCorners → Each s (λ (x : Point). Each x.coordinates IsCornerCoordinate)
small_support f s h =
    subst (λ (s : List Point). Each s (λ (x : Point). Each x.coordinates IsCornerCoordinate)) (take-append-drop f s)
    (each_append _ (take f s) (drop f s)
    (each_weaker IsWithinProblem _ (take f s) (λ x w. each_weaker IsCoordinate IsCornerCoordinate x.coordinates wider w.0) h.0)
    (each_weaker IsWithinCorners _ (drop f s) (λ x w. w.0) h.1))

small_supports : (i : ℕ) (fs : List ℕ) (ss : List (List Point)) → EachSupport i fs ss (λ i f s. Each (take f s) IsWithinProblem × Each (drop f s) IsWithinCorners)
    → Each ss (λ s. Each s (λ (x : Point). Each x.coordinates IsCornerCoordinate))
small_supports i [] [] h = tt
small_supports i [] (s ∷ ss) h = absurd h
small_supports i (f ∷ fs) [] h = absurd h
small_supports i (f ∷ fs) (s ∷ ss) h = (small_support f s h.0, small_supports (suc i) fs ss h.1)

-- each point has as many coordinates as the dimension, and they are small
pub valid_points : (p : Problem) → IsValidProblem p
    → Each p.supports (λ s. Each s (λ (x : Point). (length x.coordinates ≡ p.dimension) × Each x.coordinates IsCornerCoordinate))
valid_points p v = join p.supports v.shape.problem.points (small_supports 1 p.files p.supports v.limits)
  where
    join : (ss : List (List Point)) → Each ss (λ s. Each s (λ (x : Point). length x.coordinates ≡ p.dimension)) → Each ss (λ s. Each s (λ (x : Point). Each x.coordinates IsCornerCoordinate))
        → Each ss (λ s. Each s (λ (x : Point). (length x.coordinates ≡ p.dimension) × Each x.coordinates IsCornerCoordinate))
    join [] f g = tt
    join (s ∷ ss) f g = (each_both _ _ s f.0 g.0, join ss f.1 g.1)

-- the same of the points as they are stored
pub stored_points : (dimension : ℕ) (supports : List Support) → IsValidProblem (unranked_of dimension supports)
    → All (λ (s : Support). All (λ (x : StoredPoint). (length x.coords ≡ dimension) × Each x.coords IsCornerCoordinate) s.points.items) supports
stored_points dimension supports v = λ k d l.
    all_each _ (slice_index_or supports k d).points.items
    (each_unmap point _ (slice_index_or supports k d).points.items
    (all_each _ supports (each_unmap (λ (s : Support). map point s.points.items) _ supports (valid_points (unranked_of dimension supports) v)) k d l))
