-- the shape of a problem, from the shape of the code's supports
use Rattle.std.proofs.Common.{◌≡◌, ℕ, suc, ◌+◌, ◌<◌, ◌≤◌, List, [], ◌∷◌, length, map, take, drop, arith, sym, ◌∙◌, subst, ◌⊎◌, inl, inr}
use Rattle.std.specs.Prelude.{ℤ, pos, slice_index_or}
use Rattle.std.specs.List.{All}
use Rattle.std.proofs.lemmas.List.{length-map}
use Rattle.int_vectors.specs.Vectors.{Each}
use Rattle.cayley.specs.declared.points.Point.{Point as StoredPoint}
use Rattle.cayley.specs.declared.points.Support.{Support}
use Rattle.cayley.specs.Problems.{Point, EachSupport, HasCorners, IsStill}
use Rattle.cayley.specs.Stored.{point, unranked_of}
use Rattle.cayley.specs.Valid.{HasProblemShape}
use Rattle.int_vectors.proofs.Each.{each_all, all_each, each_map, each_unmap, each_weaker, map_take, map_drop}

abbrev points_of : Support → List Point
points_of s = map point s.points.items

abbrev pub HasPoints : ℕ → Support → Type 0
HasPoints dim s = (1 ≤ s.file) × (s.file ≤ 1000) × (s.file ≤ length s.points.items)
    × All (λ (x : StoredPoint). length x.coords ≡ dim) s.points.items
    × (All (λ (x : StoredPoint). x.speed ≡ pos 0) (take s.file s.points.items) × All (λ (x : StoredPoint). x.speed ≡ pos 1) (drop s.file s.points.items))

abbrev pub HasSupports : ℕ → List Support → Type 0
HasSupports dim supports = (length supports ≡ dim)
    × (All (λ (s : Support). length s.points.items ≡ s.file) supports ⊎ All (λ (s : Support). length s.points.items ≡ s.file + (dim + 1)) supports)
    × All (HasPoints dim) supports

support_from : (Q : Support → Type 0) (P : ℕ → ℕ → List Point → Type 0) → ((i : ℕ) (s : Support) → Q s → P i s.file (points_of s))
    → (i : ℕ) (ss : List Support) → Each ss Q → EachSupport i (map (λ (s : Support). s.file) ss) (map points_of ss) P
support_from Q P f i [] h = tt
support_from Q P f i (s ∷ ss) h = (f i s h.0, support_from Q P f (suc i) ss h.1)

support_to : (Q : Support → Type 0) (P : ℕ → ℕ → List Point → Type 0) → ((i : ℕ) (s : Support) → P i s.file (points_of s) → Q s)
    → (i : ℕ) (ss : List Support) → EachSupport i (map (λ (s : Support). s.file) ss) (map points_of ss) P → Each ss Q
support_to Q P f i [] h = tt
support_to Q P f i (s ∷ ss) h = (f i s h.0, support_to Q P f (suc i) ss h.1)

module _ (v : ℤ) where
  speeds_from : (xs : List StoredPoint) → Each xs (λ (x : StoredPoint). x.speed ≡ v) → Each (map point xs) (λ (x : Point). x.speed ≡ v)
  speeds_from xs h = each_map point _ xs h

  speeds_to : (xs : List StoredPoint) → Each (map point xs) (λ (x : Point). x.speed ≡ v) → Each xs (λ (x : StoredPoint). x.speed ≡ v)
  speeds_to xs h = each_unmap point _ xs h

pub shape_from : (dim : ℕ) (supports : List Support) → 1 ≤ dim → dim ≤ 16 → HasSupports dim supports → HasProblemShape (unranked_of dim supports) × IsStill (unranked_of dim supports)
shape_from dim supports a b h =
    let each = each_all (HasPoints dim) supports h.2 in
    let still = support_from (HasPoints dim) _ (λ i s q. subst (λ (ps : List Point). Each ps (λ (x : Point). x.speed ≡ pos 0)) (map_take point s.file s.points.items)
    (speeds_from (pos 0) (take s.file s.points.items) (each_all _ (take s.file s.points.items) q.4.0))) 1 supports each in (
      record {
        dimension = (a, b);
        problem = record {
          supports = length-map supports points_of ∙ h.0;
          points = each_map points_of _ supports (each_weaker (HasPoints dim) _ supports (λ s q. each_map point _ s.points.items (each_all _ s.points.items q.3)) each);
        };
        counts = each_map (λ (s : Support). s.file) _ supports (each_weaker (HasPoints dim) _ supports (λ s q. (q.0, q.1)) each);
        corners = corners h.1;
        still = inl still;
        moving = support_from (HasPoints dim) _ (λ i s q. subst (λ (ps : List Point). Each ps (λ (x : Point). x.speed ≡ pos 1)) (map_drop point s.file s.points.items)
            (speeds_from (pos 1) (drop s.file s.points.items) (each_all _ (drop s.file s.points.items) q.4.1))) 1 supports each;
      },
      still,
    )
  where
    corners : All (λ (s : Support). length s.points.items ≡ s.file) supports ⊎ All (λ (s : Support). length s.points.items ≡ s.file + (dim + 1)) supports
        → HasCorners (unranked_of dim supports)
    corners (inl q) = inl (support_from (λ (s : Support). length s.points.items ≡ s.file) _ (λ i s e. length-map s.points.items point ∙ e) 1 supports (each_all _ supports q))
    corners (inr q) = inr (support_from (λ (s : Support). length s.points.items ≡ s.file + (dim + 1)) _ (λ i s e. length-map s.points.items point ∙ e) 1 supports (each_all _ supports q))

pub shape_to : (dim : ℕ) (supports : List Support) → HasProblemShape (unranked_of dim supports) → IsStill (unranked_of dim supports) → (1 ≤ dim) × (dim ≤ 16) × HasSupports dim supports
shape_to dim supports h still = (h.dimension.0, h.dimension.1, (sym (length-map supports points_of) ∙ h.problem.supports, corners h.corners, all_each (HasPoints dim) supports all))
  where
    corners : HasCorners (unranked_of dim supports)
        → All (λ (s : Support). length s.points.items ≡ s.file) supports ⊎ All (λ (s : Support). length s.points.items ≡ s.file + (dim + 1)) supports
    corners (inl q) = inl (all_each _ supports (support_to (λ (s : Support). length s.points.items ≡ s.file) _ (λ i s e. sym (length-map s.points.items point) ∙ e) 1 supports q))
    corners (inr q) = inr (all_each _ supports (support_to (λ (s : Support). length s.points.items ≡ s.file + (dim + 1)) _ (λ i s e. sym (length-map s.points.items point) ∙ e) 1 supports q))

    within : HasCorners (unranked_of dim supports) → Each supports (λ (s : Support). s.file ≤ length s.points.items)
    within (inl q) = support_to (λ (s : Support). s.file ≤ length s.points.items) _ (λ i s e. omega (arith, length-map s.points.items point)) 1 supports q
    within (inr q) = support_to (λ (s : Support). s.file ≤ length s.points.items) _ (λ i s e. omega (arith, length-map s.points.items point)) 1 supports q

    rest : Each supports (λ (s : Support). Each (take s.file s.points.items) (λ (x : StoredPoint). x.speed ≡ pos 0))
    rest = support_to _ _ (λ i s e. speeds_to (pos 0) (take s.file s.points.items)
        (subst (λ (ps : List Point). Each ps (λ (x : Point). x.speed ≡ pos 0)) (sym (map_take point s.file s.points.items)) e)) 1 supports still

    move : Each supports (λ (s : Support). Each (drop s.file s.points.items) (λ (x : StoredPoint). x.speed ≡ pos 1))
    move = support_to _ _ (λ i s e. speeds_to (pos 1) (drop s.file s.points.items)
        (subst (λ (ps : List Point). Each ps (λ (x : Point). x.speed ≡ pos 1)) (sym (map_drop point s.file s.points.items)) e)) 1 supports h.moving

    join : (ss : List Support) → Each ss (λ (s : Support). (1 ≤ s.file) × (s.file ≤ 1000)) → Each ss (λ (s : Support). s.file ≤ length s.points.items)
        → Each ss (λ (s : Support). Each (points_of s) (λ (x : Point). length x.coordinates ≡ dim))
        → Each ss (λ (s : Support). Each (take s.file s.points.items) (λ (x : StoredPoint). x.speed ≡ pos 0))
        → Each ss (λ (s : Support). Each (drop s.file s.points.items) (λ (x : StoredPoint). x.speed ≡ pos 1)) → Each ss (HasPoints dim)
    join [] a b c d e = tt
    join (s ∷ ss) a b c d e = (
      (
        a.0.0,
        a.0.1,
        b.0,
        all_each _ s.points.items (each_unmap point _ s.points.items c.0),
        (all_each _ (take s.file s.points.items) d.0, all_each _ (drop s.file s.points.items) e.0),
      ),
      join ss a.1 b.1 c.1 d.1 e.1,
    )

    all : Each supports (HasPoints dim)
    all = join supports (each_unmap (λ (s : Support). s.file) _ supports h.counts) (within h.corners) (each_unmap points_of _ supports h.problem.points) rest move

-- no support is too long to count
pub counted : (dim : ℕ) (supports : List Support) → dim ≤ 16 → HasSupports dim supports
    → (k : ℕ) (d : Support) → k < length supports
    → let s = slice_index_or supports k d in (s.file ≤ 1000) × (s.file ≤ length s.points.items) × (length s.points.items ≤ 2000)
    × All (λ (x : StoredPoint). x.speed ≡ pos 0) (take s.file s.points.items)
counted dim supports m h k d l = (q.1, q.2, few h.1, q.4.0)
  where
    q : HasPoints dim (slice_index_or supports k d)
    q = h.2 k d l

    few : All (λ (s : Support). length s.points.items ≡ s.file) supports ⊎ All (λ (s : Support). length s.points.items ≡ s.file + (dim + 1)) supports
        → length (slice_index_or supports k d).points.items ≤ 2000
    few (inl c) = let e = c k d l in let n = q.1 in omega arith
    few (inr c) = let e = c k d l in let n = q.1 in omega arith

-- file points that rest
pub still_from : (dim : ℕ) (supports : List Support) → All (λ (s : Support). All (λ (x : StoredPoint). x.speed ≡ pos 0) (take s.file s.points.items)) supports → IsStill (unranked_of dim supports)
still_from dim supports h =
    support_from (λ (s : Support). All (λ (x : StoredPoint). x.speed ≡ pos 0) (take s.file s.points.items)) _
    (λ i s q. subst (λ (ps : List Point). Each ps (λ (x : Point). x.speed ≡ pos 0)) (map_take point s.file s.points.items)
    (speeds_from (pos 0) (take s.file s.points.items) (each_all _ (take s.file s.points.items) q))) 1 supports (each_all _ supports h)

pub still_to : (dim : ℕ) (supports : List Support) → IsStill (unranked_of dim supports) → All (λ (s : Support). All (λ (x : StoredPoint). x.speed ≡ pos 0) (take s.file s.points.items)) supports
still_to dim supports h = all_each _ supports (support_to (λ (s : Support). All (λ (x : StoredPoint). x.speed ≡ pos 0) (take s.file s.points.items)) _
    (λ i s e. all_each _ (take s.file s.points.items) (speeds_to (pos 0) (take s.file s.points.items)
    (subst (λ (ps : List Point). Each ps (λ (x : Point). x.speed ≡ pos 0)) (sym (map_take point s.file s.points.items)) e))) 1 supports h)
