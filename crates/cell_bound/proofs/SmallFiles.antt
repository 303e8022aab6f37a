-- the path of a small file has small ranges
use Rattle.std.proofs.Common.{◌≡◌, ℕ, zero, suc, ◌+◌, ◌*◌, ◌-◌, ◌%◌, ◌<◌, ◌≤◌, ◌^◌, max, mod-lt, List, [], ◌∷◌, ◌++◌, length, map, arith, refl, ap, sym, subst, ◌∙◌, ◌≤ℤ◌, ℤ, pos, unsigned_abs, Option, None, Some}
use Rattle.std.specs.Prelude.{MatchOption}
use native.Mathlib.Decide.{ℕ_discrete}
use Rattle.std.proofs.lemmas.Int.{ints}
use Rattle.std.proofs.lemmas.List.{length-map}
use Rattle.int_vectors.specs.Vectors.{Each, add, at_place}
use Rattle.cayley.specs.Problems.{Point, with_rank, point_at}
use Rattle.cayley.specs.Files.{FilePoint, File, resting}
use Rattle.cayley.specs.Paths.{least_coordinates, corner, later_corners, direction_corners, corners, default_start, default_starts_from, default_starts, starts_of, path_supports, path, simplex_edge}
use Rattle.cayley.specs.Valid.{IsValidFile}
use Rattle.cayley.proofs.OneCell.CellRows.{each_position}
use Rattle.cayley.proofs.Ranking.Unperturbed.{unranked}
use Rattle.cayley.proofs.Ranking.Unranked.{unranked_ranked}
use Rattle.start_system.proofs.Making.ValidPaths.{path_valid}
use Rattle.start_system.proofs.Path.Positions.{point_mapped}
use Rattle.start_system.proofs.Path.Supports.{AreHeights}
use Rattle.start_system.proofs.Path.Reach.{Long, Inside, length-least, inside_all, reach_positive}
use Rattle.start_system.proofs.Started.Heights.{own_left_out, other_first, valid_lift, default_given, own_given}
use Rattle.elimination_bound.specs.Bounds.{product, sum_over}
use Rattle.int_vectors.proofs.Each.{each_append}
use Rattle.cell_bound.specs.Ranges.{AreNear, HasRange, HaveRanges, FitsByRanges}
use Rattle.cell_bound.specs.Quiet.{IsNarrow, IsQuiet, QuietLaw}
use Rattle.cell_bound.specs.OwnLines.{QuietOwnLaw}
use Rattle.cell_bound.proofs.Apart.{IsSettled, settled_near, reach_small, inside_first, inside_direction}
use Rattle.cell_bound.proofs.CellWorkings.{cells_fit, own_lines}

abbrev IsSmallHeight : ℤ → Type 0
IsSmallHeight z = unsigned_abs z ≤ 1000

-- ---- the points of one support
module _ (n : ℕ) (m : List ℤ) (d : ℤ) (count : length m ≡ n) (least : pos 0 ≤ℤ d) where
  file_points : (s : List FilePoint) → Each s (λ x. Inside n m d x.coordinates) → Each s (λ x. IsSmallHeight x.height) → Each (map resting s) (IsSettled n m d)
  file_points [] h g = tt
  file_points (x ∷ s) h g = (record { inside = h.0; base = g.0; rests = omega (arith, ints); rises = omega (arith, ints) }, file_points s h.1 g.1)

  first_corner : IsSettled n m d (corner m (pos 0))
  first_corner = record {
    inside = subst (λ k. Inside k m d m) count (inside_first m d least);
    base = omega (arith, ints);
    rests = omega (arith, ints);
    rises = omega (arith, ints);
  }

  one_corner : (k : ℕ) (start : ℤ) → k < n → IsSmallHeight start → IsSettled n m d (corner (add m (at_place k d)) start)
  one_corner k start lt h = record {
    inside = subst (λ i. Inside i m d (add m (at_place k d))) count (inside_direction m k d least (omega (arith, lt, count)));
    base = h;
    rests = omega (arith, ints);
    rises = omega (arith, ints);
  }

  later : (k : ℕ) (starts : List ℤ) → k + length starts ≤ n → Each starts IsSmallHeight → Each (later_corners m d k starts) (IsSettled n m d)
  later k [] l h = tt
  later k (start ∷ starts) l h = (one_corner k start (omega (arith, l)) h.0, later (suc k) starts (omega (arith, l)) h.1)

  directions : (own k : ℕ) (starts : List ℤ) → suc (k + length starts) ≤ n → Each starts IsSmallHeight → Each (direction_corners m d own k starts) (IsSettled n m d)
  directions zero k starts l h = (one_corner k (pos 0) (omega (arith, l)) (omega (arith, ints)), later (suc k) starts (omega (arith, l)) h)
  directions (suc own) k [] l h = tt
  directions (suc own) k (start ∷ starts) l h = (one_corner k start (omega (arith, l)) h.0, directions own (suc k) starts (omega (arith, l)) h.1)

module _ (n i : ℕ) (s : List FilePoint) (starts : List ℤ) (some : 1 ≤ length s) (long : Long n s) (small : n ≤ 3) (count : suc (length starts) ≤ n)
    (narrow : IsNarrow s) (heights : Each s (λ x. IsSmallHeight x.height)) (given : Each starts IsSmallHeight) where
  all_settled : Each (map resting s ++ corners i s starts) (IsSettled n (least_coordinates s) (simplex_edge (least_coordinates s) s))
  all_settled =
      let m = least_coordinates s in
      let l = length-least n s some long in
      let r = reach_positive (least_coordinates s) s in
      let p : pos 0 ≤ℤ simplex_edge (least_coordinates s) s = omega (arith, ints, r) in
      each_append (IsSettled n (least_coordinates s) (simplex_edge (least_coordinates s) s)) (map resting s) (corners i s starts)
      (file_points n (least_coordinates s) (simplex_edge (least_coordinates s) s) l p s (inside_all n s long) heights)
      (first_corner n (least_coordinates s) (simplex_edge (least_coordinates s) s) l p, directions n (least_coordinates s) (simplex_edge (least_coordinates s) s) l p (i - 1) 0 starts (omega (arith, count)) given)

  support_range : HasRange 36 2000 (map resting s ++ corners i s starts)
  support_range a c a_least a_most c_least c_most =
      let m = least_coordinates s in
      let l = length-least n s some long in
      let b = reach_small n s some long small l narrow in
      let P : Point → Type 0 = IsSettled n (least_coordinates s) (simplex_edge (least_coordinates s) s) in
      let points = map resting s ++ corners i s starts in
      settled_near n (least_coordinates s) (simplex_edge (least_coordinates s) s) (point_at (map resting s ++ corners i s starts) a) (point_at (map resting s ++ corners i s starts) c) l b
      (each_position (IsSettled n (least_coordinates s) (simplex_edge (least_coordinates s) s)) (map resting s ++ corners i s starts) a a_least a_most all_settled)
      (each_position (IsSettled n (least_coordinates s) (simplex_edge (least_coordinates s) s)) (map resting s ++ corners i s starts) c c_least c_most all_settled)

-- ---- all supports
-- a number for each support
abbrev copies : {A : Type 0} → ℕ → List A → List ℕ
copies k [] = []
copies k (x ∷ xs) = k ∷ copies k xs

-- for the supports from number i on, with start heights for each
ranges_from : (n i : ℕ) (supports : List (List FilePoint)) (starts : List (List ℤ)) → n ≤ 3 → length starts ≡ length supports
    → Each supports (λ s. (1 ≤ length s) × Long n s × IsNarrow s × Each s (λ x. IsSmallHeight x.height)) → Each starts (λ s. (suc (length s) ≤ n) × Each s IsSmallHeight)
    → HaveRanges (copies 36 supports) (copies 2000 supports) (path_supports i supports starts)
ranges_from n i [] starts small e h g = tt
ranges_from n i (s ∷ supports) [] small e h g = absurd (omega (arith, e))
ranges_from n i (s ∷ supports) (start ∷ starts) small e h g = (
  (omega arith, omega arith, support_range n i s start h.0.0 h.0.1 small g.0.0 h.0.2 h.0.3 g.0.1),
  ranges_from n (suc i) supports starts small (omega (arith, e)) h.1 g.1,
)

-- a range knows nothing of ranks
range_unranked : (f h : ℕ) (s u : List Point) → map (with_rank 0) s ≡ map (with_rank 0) u → HasRange f h s → HasRange f h u
range_unranked f h s u e r a c a_least a_most c_least c_most =
    let l : length u ≡ length s = sym (length-map u (with_rank 0)) ∙ sym (ap length e) ∙ length-map s (with_rank 0) in
    let x = sym (point_mapped (with_rank 0) s a a_least (omega (arith, l, a_most))) ∙ ap (λ ps. point_at ps a) e ∙ point_mapped (with_rank 0) u a a_least a_most in
    let y = sym (point_mapped (with_rank 0) s c c_least (omega (arith, l, c_most))) ∙ ap (λ ps. point_at ps c) e ∙ point_mapped (with_rank 0) u c c_least c_most in
    subst (λ (p : Point). AreNear f h p (with_rank 0 (point_at u c))) x
    (subst (λ (q : Point). AreNear f h (with_rank 0 (point_at s a)) q) y (r a c a_least (omega (arith, l, a_most)) c_least (omega (arith, l, c_most))))

head_of : List (List Point) → List Point
head_of [] = []
head_of (x ∷ xs) = x

tail_of : List (List Point) → List (List Point)
tail_of [] = []
tail_of (x ∷ xs) = xs

ranges_same : (fs hs : List ℕ) (ss us : List (List Point)) → map unranked ss ≡ map unranked us → HaveRanges fs hs ss → HaveRanges fs hs us
unfolding head_of tail_of
ranges_same [] [] [] [] e r = tt
ranges_same [] [] [] (u ∷ us) e r = absurd (let l = ap length e in omega (arith, l))
ranges_same [] [] (s ∷ ss) us e r = absurd r
ranges_same [] (h ∷ hs) ss us e r = absurd r
ranges_same (f ∷ fs) [] ss us e r = absurd r
ranges_same (f ∷ fs) (h ∷ hs) [] us e r = absurd r
ranges_same (f ∷ fs) (h ∷ hs) (s ∷ ss) [] e r = absurd (let l = ap length e in omega (arith, l))
ranges_same (f ∷ fs) (h ∷ hs) (s ∷ ss) (u ∷ us) e r = ((r.0.0, r.0.1, range_unranked f h s u (ap head_of e) r.0.2), ranges_same fs hs ss us (ap tail_of e) r.1)

-- ---- at most three supports
three : (supports : List (List FilePoint)) → length supports ≤ 3
    → 2 * (product (copies 36 supports) * max (product (copies 36 supports)) (sum_over (copies 2000 supports) (copies 36 supports))) < 2 ^ 127
three [] l = omega arith
three (x ∷ []) l = omega arith
three (x ∷ y ∷ []) l = omega arith
three (x ∷ y ∷ z ∷ []) l = omega arith
three (x ∷ y ∷ z ∷ w ∷ supports) l = absurd (omega (arith, l))

-- ---- what a small file gives
default_small : (i k : ℕ) → IsSmallHeight (default_start i k)
default_small i k = let m : (37 * i * i + 11 * k * k * k + 53 * i * k) % 509 < 509 = mod-lt (37 * i * i + 11 * k * k * k + 53 * i * k) (omega arith) in omega (arith, ints, m)

each_default : (i k left : ℕ) → Each (default_starts_from i k left) IsSmallHeight
each_default i k zero = tt
each_default i k (suc left) = elim (ℕ_discrete k i) [
  | yes e ↦ subst (λ (xs : List ℤ). Each xs IsSmallHeight) (sym (own_left_out i k left e)) (each_default i (suc k) left)
  | no n ↦ subst (λ (xs : List ℤ). Each xs IsSmallHeight) (sym (other_first i k left n)) (default_small i k, each_default i (suc k) left)
]

rows_default : (n i left : ℕ) → Each (default_starts n i left) (λ s. Each s IsSmallHeight)
rows_default n i zero = tt
rows_default n i (suc left) = (each_default i 1 n, rows_default n (suc i) left)

starts_small : (file : File) → IsQuiet file → (given : Option (List (List ℤ))) → file.starts ≡ given → Each (starts_of file) (λ s. Each s IsSmallHeight)
starts_small file q None e = subst (λ (ss : List (List ℤ)). Each ss (λ s. Each s IsSmallHeight)) (sym (default_given file e)) (rows_default file.dimension 1 file.dimension)
starts_small file q (Some starts) e =
    subst (λ (ss : List (List ℤ)). Each ss (λ s. Each s IsSmallHeight)) (sym (own_given file starts e))
    (subst (λ (s : Option (List (List ℤ))). MatchOption s (Unit {0}) (λ starts. Each starts (λ s. Each s IsSmallHeight))) e q.starts)

points_of : (n : ℕ) (supports : List (List FilePoint)) → Each supports (λ s. (1 ≤ length s) × Long n s) → Each supports IsNarrow → Each supports (λ s. Each s (λ x. IsSmallHeight x.height))
    → Each supports (λ s. (1 ≤ length s) × Long n s × IsNarrow s × Each s (λ x. IsSmallHeight x.height))
points_of n [] a b c = tt
points_of n (s ∷ supports) a b c = ((a.0.0, a.0.1, b.0, c.0), points_of n supports a.1 b.1 c.1)

starts_by : (n : ℕ) (starts : List (List ℤ)) → Each starts (AreHeights n) → Each starts (λ s. Each s IsSmallHeight) → Each starts (λ s. (suc (length s) ≤ n) × Each s IsSmallHeight)
starts_by n [] a b = tt
starts_by n (s ∷ starts) a b = ((let e = a.0.0 in omega (arith, e), b.0), starts_by n starts a.1 b.1)

path_ranges : (file : File) → IsValidFile file → IsQuiet file → FitsByRanges (copies 36 file.supports) (copies 2000 file.supports) (path file)
path_ranges file v q =
    let w = valid_lift file v in
    let count = w.supports in
    let small = q.dimension in
    let plain = ranges_from file.dimension 1 file.supports (starts_of file) q.dimension (w.starts ∙ sym w.supports)
    (points_of file.dimension file.supports w.points q.narrow q.heights) (starts_by file.dimension (starts_of file) w.heights (starts_small file q file.starts refl)) in (
      ranges_same (copies 36 file.supports) (copies 2000 file.supports) (path_supports 1 file.supports (starts_of file)) (path file).supports
          (sym (unranked_ranked file.version (map length file.supports) (path_supports 1 file.supports (starts_of file)))) plain,
      three file.supports (omega (arith, count, small)),
    )

pub quiet : QuietLaw
quiet file v q cell of = cells_fit (path file) (copies 36 file.supports) (copies 2000 file.supports) (path_valid file v).shape.problem (path_ranges file v q) cell of

pub quiet_own : QuietOwnLaw
quiet_own file v q cell of = own_lines (path file) (copies 36 file.supports) (copies 2000 file.supports) (path_valid file v).shape.problem (path_ranges file v q) cell of
