-- a problem and its points as they are stored, which have no ranks
use Rattle.std.proofs.Common.{◌≡◌, ℕ, ◌-◌, ◌+◌, ◌<◌, ◌≤◌, List, [], ◌∷◌, length, map, arith, ap, ap₂, sym, subst, ◌∙◌, inl, inr}
use Rattle.std.specs.Prelude.{slice_index_or}
use Rattle.std.specs.List.{All}
use Rattle.std.proofs.lemmas.List.{length-map}
use Rattle.int_vectors.specs.Vectors.{Each}
use Rattle.cayley.specs.declared.points.Point.{Point as StoredPoint}
use Rattle.cayley.specs.declared.points.Support.{Support}
use Rattle.cayley.specs.Problems.{Version, Point, Problem, HasCorners, IsStill, origin, point_at, with_rank, numbered, HasSamePoints}
use Rattle.cayley.specs.Problems.Version.{version1, version2}
use Rattle.int_vectors.specs.Bounds.{Within}
use Rattle.cayley.specs.Reaches.{IsWithinReach, IsStoredReach}
use Rattle.cayley.proofs.Lists.Reaching.{reach_of}
use Rattle.cayley.specs.Ranks.{ranks_of, firsts_from}
use Rattle.cayley.specs.declared.faults.ShapeFault.{ShapeFault}
use Rattle.cayley.specs.Shapes.{IsProblemFault}
use Rattle.cayley.specs.Stored.{point, unranked_of, problem_of}
use Rattle.cayley.specs.Valid.{IsCornerCoordinate, IsValidProblem, support_at, file_count_at}
use Rattle.int_vectors.proofs.Each.{all_each, each_all, each_unmap, each_weaker, map_at, map_map, map_same, same_read}
use Rattle.cayley.proofs.Lists.Supports.{few_points, stored_points, each_support_at}
use Rattle.cayley.proofs.Ranking.Unperturbed.{unranked, point_unranked}
use Rattle.cayley.proofs.Ranking.FirstRanks.{numbered_at, firsts_few, length-firsts, points_of}
use Rattle.cayley.proofs.Ranking.RankedFaults.{read_support, ranked_fault}
use Rattle.cayley.proofs.Ranking.RankedProblems.{first_shape, valid_by, same_still, ranked_valid}
use Rattle.cayley.proofs.Ranking.Unranked.{unranked_ranked}
use Rattle.cayley.proofs.Refusals.ProblemFaults.{stored_ranks}

abbrev files_of : List Support → List ℕ
files_of ss = map (λ (s : Support). s.file) ss

unranked_points : (xs : List StoredPoint) → unranked (map point xs) ≡ map point xs
unranked_points xs = map_map (with_rank 0) point xs

pub stored_unranked : (ss : List Support) → map unranked (points_of ss) ≡ points_of ss
stored_unranked ss = map_map unranked (λ (s : Support). map point s.points.items) ss
    ∙ map_same (λ (s : Support). unranked (map point s.points.items)) (λ (s : Support). map point s.points.items) (λ s. unranked_points s.points.items) ss

again : (ss : List Support) (k : ℕ) (d : Support) → k < length ss → slice_index_or ss k d ≡ slice_index_or ss k (slice_index_or ss k d)
again ss k d l = same_read ss k d (slice_index_or ss k d) l

module _ (v : Version) (dim : ℕ) (ss : List Support) where
  pub without_ranks : map unranked (problem_of v dim ss).supports ≡ points_of ss
  without_ranks = unranked_ranked v (files_of ss) (points_of ss) ∙ stored_unranked ss

  same : map unranked (problem_of v dim ss).supports ≡ map unranked (points_of ss)
  same = unranked_ranked v (files_of ss) (points_of ss)

  pub stored_same : HasSamePoints (unranked_of dim ss) (problem_of v dim ss)
  stored_same = ap (λ (us : List (List Point)). record (unranked_of dim ss) { supports = us }) (sym same)

  -- a bound on the coordinates
  pub stored_reach : (r : ℕ) → All (IsStoredReach r) ss → IsWithinReach r (problem_of v dim ss)
  stored_reach r h = back (problem_of v dim ss).supports (subst (λ (us : List (List Point)). Each us (λ s. Each s (λ (x : Point). Within r x.coordinates))) (sym without_ranks) (reach_of r dim ss h))
    where
      back : (us : List (List Point)) → Each (map unranked us) (λ s. Each s (λ (x : Point). Within r x.coordinates)) → Each us (λ s. Each s (λ (x : Point). Within r x.coordinates))
      back [] h = tt
      back (s ∷ us) h = (each_unmap (with_rank 0) (λ (x : Point). Within r x.coordinates) s h.0, back us h.1)

  pub stored_still : IsStill (unranked_of dim ss) → IsStill (problem_of v dim ss)
  stored_still = same_still dim (files_of ss) (points_of ss) (problem_of v dim ss).supports (sym same) version1 v

  pub still_stored : IsStill (problem_of v dim ss) → IsStill (unranked_of dim ss)
  still_stored = same_still dim (files_of ss) (problem_of v dim ss).supports (points_of ss) same v version1

  module _ (valid : IsValidProblem (problem_of v dim ss)) where
    pub valid_stored : IsValidProblem (unranked_of dim ss)
    valid_stored = valid_by dim (files_of ss) (problem_of v dim ss).supports (points_of ss) same v version1 valid
        (first_shape dim (files_of ss) (problem_of v dim ss).supports (points_of ss) same v valid.shape) (stored_ranks dim ss)

    pub stored_long : length ss ≡ dim
    stored_long = sym (length-map ss (λ (s : Support). map point s.points.items)) ∙ valid_stored.shape.problem.supports

    pub support_there : (q : Problem) (i : ℕ) → problem_of v dim ss ≡ q → 1 ≤ i → i ≤ q.dimension → i - 1 < length ss
    support_there q i e a b = let d = ap (λ (p : Problem). p.dimension) e in let l = stored_long in omega (arith, a, b, d, l)

    within : HasCorners (unranked_of dim ss) → (k : ℕ) (d : Support) → k < length ss → (slice_index_or ss k d).file ≤ length (slice_index_or ss k d).points.items
    within (inl h) k d l =
        let s = slice_index_or ss k d in
        let a = map_at (λ (s : Support). s.file) ss k s 0 (again ss k d l) l in
        let b = map_at (λ (s : Support). map point s.points.items) ss k s [] (again ss k d l) l in
        let r = each_support_at _ 1 (files_of ss) (points_of ss) h k 0 [] (omega (arith, l, length-map ss (λ (s : Support). map point s.points.items))) in
        let m = ap length b in
        let n = length-map s.points.items point in
        omega (arith, a, r, m, n)
    within (inr h) k d l =
        let s = slice_index_or ss k d in
        let a = map_at (λ (s : Support). s.file) ss k s 0 (again ss k d l) l in
        let b = map_at (λ (s : Support). map point s.points.items) ss k s [] (again ss k d l) l in
        let r = each_support_at _ 1 (files_of ss) (points_of ss) h k 0 [] (omega (arith, l, length-map ss (λ (s : Support). map point s.points.items))) in
        let m = ap length b in
        let n = length-map s.points.items point in
        omega (arith, a, r, m, n)

    few_at : (k : ℕ) (d : Support) → k < length ss → length (slice_index_or ss k d).points.items ≤ 2000
    few_at k d l =
        let s = slice_index_or ss k d in
        let b = map_at (λ (s : Support). map point s.points.items) ss k s [] (again ss k d l) l in
        let f = few_points (unranked_of dim ss) valid_stored k [] (omega (arith, l, length-map ss (λ (s : Support). map point s.points.items))) in
        let m = ap length b in
        let n = length-map s.points.items point in
        omega (arith, f, m, n)

    pub stored_counts : All (λ (s : Support). (s.file ≤ length s.points.items) × (length s.points.items ≤ 2000)) ss
    stored_counts k d l = (within valid_stored.shape.corners k d l, few_at k d l)

    pub stored_files : All (λ (s : Support). s.file ≤ 1000) ss
    stored_files k d l =
        let s = slice_index_or ss k d in
        let a = map_at (λ (s : Support). s.file) ss k s 0 (again ss k d l) l in
        let f = (all_each _ (files_of ss) valid_stored.shape.counts k 0 (omega (arith, l, length-map ss (λ (s : Support). s.file)))).1 in
        omega (arith, a, f)

    pub stored_small : All (λ (s : Support). All (λ (x : StoredPoint). (length x.coords ≡ dim) × Each x.coords IsCornerCoordinate) s.points.items) ss
    stored_small = stored_points dim ss valid_stored

    -- a support, which counts from 1
    module _ (i : ℕ) (s : Support) (is : s ≡ slice_index_or ss (i - 1) s) (there : i - 1 < length ss) where
      pub points_here : map point s.points.items ≡ unranked (support_at (problem_of v dim ss) i)
      points_here = map_at (λ (s : Support). map point s.points.items) ss (i - 1) s [] is there
          ∙ ap (λ (us : List (List Point)). slice_index_or us (i - 1) []) (sym without_ranks)
          ∙ read_support (problem_of v dim ss).supports (i - 1)

      pub file_here : s.file ≡ file_count_at (problem_of v dim ss) i
      file_here = map_at (λ (s : Support). s.file) ss (i - 1) s 0 is there

      pub counts_here : (s.file ≤ length s.points.items) × (length s.points.items ≤ 2000)
      counts_here = subst (λ (s : Support). (s.file ≤ length s.points.items) × (length s.points.items ≤ 2000)) (sym is) (stored_counts (i - 1) s there)

      pub files_here : s.file ≤ 1000
      files_here = subst (λ (s : Support). s.file ≤ 1000) (sym is) (stored_files (i - 1) s there)

      pub small_here : All (λ (x : StoredPoint). (length x.coords ≡ dim) × Each x.coords IsCornerCoordinate) s.points.items
      small_here = subst (λ (s : Support). All (λ (x : StoredPoint). (length x.coords ≡ dim) × Each x.coords IsCornerCoordinate) s.points.items) (sym is) (stored_small (i - 1) s there)

-- the points of a support of version 2
pub ranked_here : (dim : ℕ) (ss : List Support) (i : ℕ) (s : Support) → s ≡ slice_index_or ss (i - 1) s → 1 ≤ i → i - 1 < length ss
    → support_at (problem_of version2 dim ss) i ≡ numbered i s.file 1 (slice_index_or (firsts_from 1 ss) (i - 1) 0) (map point s.points.items)
ranked_here dim ss i s e a l =
    let p : 1 + (i - 1) ≡ i = omega (arith, a) in
    numbered_at 1 1 ss (i - 1) s e l ∙ ap (λ j. numbered j s.file 1 (slice_index_or (firsts_from 1 ss) (i - 1) 0) (map point s.points.items)) p

-- the first rank of a support is small
pub first_small : (ss : List Support) → length ss ≤ 16 → All (λ (s : Support). (s.file ≤ length s.points.items) × (length s.points.items ≤ 2000)) ss
    → (k : ℕ) → k < length ss → slice_index_or (firsts_from 1 ss) k 0 ≤ 40000
first_small ss f h k l =
    let n = firsts_few 1 ss (each_weaker (λ (s : Support). (s.file ≤ length s.points.items) × (length s.points.items ≤ 2000)) (λ (s : Support). ranks_of s ≤ 2000) ss (λ s q. let a = q.1 in let b = length-map s.points.items point in omega (arith, a, b)) (each_all _ ss h)) k l in
    omega (arith, n, f, l)

-- a point that is read
pub point_here : (xs : List StoredPoint) (s : List Point) (position : ℕ) (x : StoredPoint) → map point xs ≡ unranked s → x ≡ slice_index_or xs (position - 1) x → position - 1 < length xs
    → point x ≡ with_rank 0 (point_at s position)
point_here xs s position x e is l =
    map_at point xs (position - 1) x origin is l ∙ ap (λ (ps : List Point). slice_index_or ps (position - 1) origin) e ∙ point_unranked s position

-- the points of a support of version 2, from what is read of it
pub rank_here : (v : Version) (dim : ℕ) (ss : List Support) → IsValidProblem (problem_of v dim ss) → v ≡ version2
    → (i f first : ℕ) (xs : List Point) (d : Support) → 1 ≤ i → i - 1 < length ss → f ≡ file_count_at (problem_of v dim ss) i → xs ≡ unranked (support_at (problem_of v dim ss) i)
    → first ≡ slice_index_or (firsts_from 1 ss) (i - 1) 0 → numbered i f 1 first xs ≡ support_at (problem_of v dim ss) i
rank_here v dim ss valid e i f first xs d a l file points r =
    let s = slice_index_or ss (i - 1) d in
    let is = again ss (i - 1) d l in
    let same_file = file ∙ sym (file_here v dim ss valid i s is l) in
    let same_points = points ∙ sym (points_here v dim ss valid i s is l) in
    ap₂ (λ g (ys : List Point). numbered i g 1 first ys) same_file same_points
    ∙ ap (λ n. numbered i s.file 1 n (map point s.points.items)) r
    ∙ sym (ranked_here dim ss i s is a l)
    ∙ ap (λ w. support_at (problem_of w dim ss) i) (sym e)

-- the checks of the points as they are stored, carried to a version
pub stored_valid : (v : Version) (dim : ℕ) (ss : List Support) → IsValidProblem (unranked_of dim ss) → IsStill (unranked_of dim ss) → IsValidProblem (problem_of v dim ss)
stored_valid v dim ss h still = ranked_valid version1 v dim (files_of ss) (points_of ss) h still

pub stored_fault : (v : Version) (dim : ℕ) (ss : List Support) (e : ShapeFault) → IsProblemFault (unranked_of dim ss) e → IsProblemFault (problem_of v dim ss) e
stored_fault v dim ss e h = ranked_fault version1 v dim (files_of ss) (points_of ss) e h

-- a first rank that is read
pub first_here : (items : List ℕ) (ss : List Support) (i x : ℕ) → x ≡ slice_index_or items (i - 1) x → items ≡ firsts_from 1 ss → i - 1 < length ss → x ≡ slice_index_or (firsts_from 1 ss) (i - 1) 0
first_here items ss i x is e l =
    let m = length-firsts 1 ss in
    is ∙ ap (λ (l : List ℕ). slice_index_or l (i - 1) x) e ∙ same_read (firsts_from 1 ss) (i - 1) x 0 (omega (arith, m, l))
