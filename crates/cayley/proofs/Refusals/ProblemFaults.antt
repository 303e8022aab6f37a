-- the faults of a problem, support by support
use Rattle.std.proofs.Common.{◌≡◌, ℕ, ◌+◌, ◌-◌, ◌<◌, ◌≤◌, List, [], length, map, take, drop, arith, refl, ap, sym, ◌∙◌, subst, inl, inr, length-take-le, length-drop}
use Rattle.std.specs.Prelude.{slice_index_or}
use Rattle.std.proofs.lemmas.Bool.{cases_lt}
use Rattle.std.proofs.lemmas.List.{length-map}
use Rattle.int_vectors.specs.Vectors.{Each}
use Rattle.cayley.specs.declared.faults.ShapeFault.{ShapeFault}
use Rattle.cayley.specs.declared.faults.ShapeFault.TheVariants.{BadShape, Repeated, Range, StartRange, OutOfMemory}
use Rattle.cayley.specs.declared.points.Support.{Support}
use Rattle.cayley.specs.Problems.{Point, Problem, origin, HasCorners, IsStill, HasRanks, with_rank}
use Rattle.cayley.specs.Shapes.{IsFaultyOf, IsOutsideOf, IsPlaceFault, IsSupportFault, IsProblemFault}
use Rattle.cayley.specs.Stored.{point, unranked_of}
use Rattle.cayley.specs.Valid.{IsWithinProblem, IsWithinCorners, AreDistinct, HasProblemShape, IsValidProblem, support_at, file_count_at}
use Rattle.int_vectors.proofs.Each.{each_all, map_at, map_map, map_same, read_take, read_drop, read_past, same_read}
use Rattle.cayley.proofs.Refusals.Repeats.{repeat_from}
use Rattle.cayley.proofs.Refusals.Stable.{problem_stable, corners_stable}
use Rattle.cayley.proofs.Lists.Supports.{each_support_at, each_support_from, each_support_long}

abbrev pub IsFaultyPlace : Problem → ℕ → ℕ → Type 0
IsFaultyPlace p j q = IsFaultyOf (file_count_at p j) (support_at p j) q

abbrev pub IsOutsidePlace : Problem → ℕ → ℕ → Type 0
IsOutsidePlace p j q = IsOutsideOf (file_count_at p j) (support_at p j) q

-- the support in place k, which counts from 0
module _ (dim : ℕ) (supports : List Support) (k : ℕ) (s : Support) (is : s ≡ slice_index_or supports k s) (there : k < length supports) where
  at_count : s.file ≡ file_count_at (unranked_of dim supports) (k + 1)
  at_count =
      let e : k ≡ k + 1 - 1 = omega arith in
      map_at (λ (s : Support). s.file) supports k s 0 is there ∙ ap (λ k. slice_index_or (map (λ (s : Support). s.file) supports) k 0) e

  at_points : map point s.points.items ≡ support_at (unranked_of dim supports) (k + 1)
  at_points =
      let e : k ≡ k + 1 - 1 = omega arith in
      map_at (λ (s : Support). map point s.points.items) supports k s [] is there
      ∙ ap (λ k. slice_index_or (map (λ (s : Support). map point s.points.items) supports) k []) e

  pub fault_here : (i : ℕ) (e : ShapeFault) → IsSupportFault i (IsFaultyOf s.file (map point s.points.items)) (IsOutsideOf s.file (map point s.points.items)) e
      → IsSupportFault i (IsFaultyPlace (unranked_of dim supports) (k + 1)) (IsOutsidePlace (unranked_of dim supports) (k + 1)) e
  fault_here i e h =
      subst (λ (f : ℕ). IsSupportFault i (IsFaultyOf f (support_at (unranked_of dim supports) (k + 1))) (IsOutsideOf f (support_at (unranked_of dim supports) (k + 1))) e) at_count
      (subst (λ (ps : List Point). IsSupportFault i (IsFaultyOf s.file ps) (IsOutsideOf s.file ps) e) at_points h)

  pub sound_here : ((q : ℕ) → ¬ (IsFaultyOf s.file (map point s.points.items) q)) → (q : ℕ) → ¬ (IsFaultyPlace (unranked_of dim supports) (k + 1) q)
  sound_here h q =
      subst (λ (f : ℕ). ¬ (IsFaultyOf f (support_at (unranked_of dim supports) (k + 1)) q)) at_count
      (subst (λ (ps : List Point). ¬ (IsFaultyOf s.file ps q)) at_points (h q))

-- there is no point past the supports
pub sound_past : (dim : ℕ) (supports : List Support) (k : ℕ) → length supports ≤ k → ((j q : ℕ) → 1 ≤ j → j ≤ k → ¬ (IsFaultyPlace (unranked_of dim supports) j q))
    → (j q : ℕ) → 1 ≤ j → ¬ (IsFaultyPlace (unranked_of dim supports) j q)
sound_past dim supports k l before j q m h = elim (cases_lt k j) [
  | inl p ↦
      let a = length-map supports (λ (s : Support). s.file) in
      let b = length-map supports (λ (s : Support). map point s.points.items) in
      nothing (subst (λ (f : ℕ). IsFaultyOf f [] q) (read_past (map (λ (s : Support). s.file) supports) (j - 1) 0 (omega arith))
      (subst (λ (ps : List Point). IsFaultyOf (file_count_at (unranked_of dim supports) j) ps q) (read_past (map (λ (s : Support). map point s.points.items) supports) (j - 1) [] (omega arith)) h))
  | inr p ↦ before j q m p h
]
  where
    nothing : ¬ (IsFaultyOf 0 [] q)
    nothing (inl (inl o)) = let a = o.0 in let b = o.1 in absurd (omega arith)
    nothing (inl (inr o)) = let a = o.0 in let b = o.1 in absurd (omega arith)
    nothing (inr r) = let a = r.0.0 in let b = r.0.1 in absurd (omega arith)

-- a support without a fault: its numbers are within their limits, and its file points distinct
module _ (f : ℕ) (s : List Point) (long : f ≤ length s) (sound : (q : ℕ) → ¬ (IsFaultyOf f s q)) where
  sound_files : Each (take f s) IsWithinProblem
  sound_files = each_all IsWithinProblem (take f s) (λ k d l. problem_stable (slice_index_or (take f s) k d) (λ n.
      let t = length-take-le f s long in
      let e : k ≡ k + 1 - 1 = omega arith in
      let r = read_take s f k d (omega arith) ∙ same_read s k d origin (omega arith) ∙ ap (λ k. slice_index_or s k origin) e in
      sound (k + 1) (inl (inl (omega arith, omega arith, (λ w. n (subst IsWithinProblem (sym r) w)))))))

  sound_corners : Each (drop f s) IsWithinCorners
  sound_corners = each_all IsWithinCorners (drop f s) (λ k d l. corners_stable (slice_index_or (drop f s) k d) (λ n.
      let t = length-drop f s in
      let e : f + k ≡ f + k + 1 - 1 = omega arith in
      let r = read_drop s f k (f + k) d refl ∙ same_read s (f + k) d origin (omega arith) ∙ ap (λ k. slice_index_or s k origin) e in
      sound (f + k + 1) (inl (inr (omega arith, omega arith, (λ w. n (subst IsWithinCorners (sym r) w)))))))

  sound_distinct : AreDistinct (map (λ (x : Point). x.coordinates) (take f s))
  sound_distinct k l p q e = sound (l + 1) (inr (repeat_from (map (λ (x : Point). x.coordinates) (take f s)) l q (k, p, e)))

module _ (p : Problem) (shape : HasProblemShape p) (still : IsStill p) where
  pub problem_fault : (e : ShapeFault) → IsPlaceFault (IsFaultyPlace p) (IsOutsidePlace p) e → IsProblemFault p e
  problem_fault BadShape h = absurd h
  problem_fault (Repeated i q) h = (shape, still, h)
  problem_fault (Range i q) h = (shape, still, h)
  problem_fault (StartRange i) h = absurd h
  problem_fault OutOfMemory h = tt

  long : HasCorners p → length p.files ≡ length p.supports
  long (inl h) = each_support_long _ 1 p.files p.supports h
  long (inr h) = each_support_long _ 1 p.files p.supports h

  module _ (sound : (j q : ℕ) → 1 ≤ j → ¬ (IsFaultyPlace p j q)) where
    within_at : HasCorners p → (k : ℕ) (e : ℕ) (d : List Point) → k < length p.supports → slice_index_or p.files k e ≤ length (slice_index_or p.supports k d)
    within_at (inl h) k e d l = let r = each_support_at _ 1 p.files p.supports h k e d l in omega arith
    within_at (inr h) k e d l = let r = each_support_at _ 1 p.files p.supports h k e d l in omega arith

    sound_at : (k : ℕ) (e : ℕ) (d : List Point) → k < length p.supports → (q : ℕ) → ¬ (IsFaultyOf (slice_index_or p.files k e) (slice_index_or p.supports k d) q)
    sound_at k e d l q h =
        let i : k ≡ k + 1 - 1 = omega arith in
        let m = long shape.corners in
        sound (k + 1) q (omega arith)
        (subst (λ (f : ℕ). IsFaultyOf f (support_at p (k + 1)) q) (same_read p.files k e 0 (omega arith) ∙ ap (λ k. slice_index_or p.files k 0) i)
        (subst (λ (s : List Point). IsFaultyOf (slice_index_or p.files k e) s q) (same_read p.supports k d [] l ∙ ap (λ k. slice_index_or p.supports k []) i) h))

    pub problem_valid : HasRanks p → IsValidProblem p
    problem_valid r = record {
      ranks = r;
      shape = shape;
      limits = each_support_from _ 1 p.files p.supports (long shape.corners) (λ k e d l. (
        sound_files (slice_index_or p.files k e) (slice_index_or p.supports k d) (within_at shape.corners k e d l) (sound_at k e d l),
        sound_corners (slice_index_or p.files k e) (slice_index_or p.supports k d) (within_at shape.corners k e d l) (sound_at k e d l),
      ));
      distinct = each_support_from _ 1 p.files p.supports (long shape.corners) (λ k e d l.
          sound_distinct (slice_index_or p.files k e) (slice_index_or p.supports k d) (within_at shape.corners k e d l) (sound_at k e d l));
    }

-- the points of a problem are made without ranks
pub stored_ranks : (dim : ℕ) (supports : List Support) → HasRanks (unranked_of dim supports)
stored_ranks dim supports = sym (map_map (map (with_rank 0)) (λ (s : Support). map point s.points.items) supports
    ∙ map_same (λ (s : Support). map (with_rank 0) (map point s.points.items)) (λ (s : Support). map point s.points.items) (λ s. map_map (with_rank 0) point s.points.items) supports)
