-- the first rank of each support
use Rattle.std.proofs.Common.{◌≡◌, ℕ, zero, suc, ◌+◌, ◌*◌, ◌<◌, ◌≤◌, List, [], ◌∷◌, length, map, arith, refl, sym, ap, ap₂, ◌∙◌}
use Rattle.std.specs.Prelude.{slice_index_or}
use Rattle.int_vectors.specs.Vectors.{Each}
use Rattle.cayley.specs.declared.points.Support.{Support}
use Rattle.cayley.specs.Problems.{Point, numbered, numbered_supports}
use Rattle.cayley.specs.Ranks.{ranks_of, firsts_from}
use Rattle.cayley.specs.Stored.{point}

abbrev files_of : List Support → List ℕ
files_of ss = map (λ (s : Support). s.file) ss

abbrev pub points_of : List Support → List (List Point)
points_of ss = map (λ (s : Support). map point s.points.items) ss

pub length-firsts : (r : ℕ) (ss : List Support) → length (firsts_from r ss) ≡ length ss
length-firsts r [] = refl
length-firsts r (s ∷ ss) = ap suc (length-firsts (r + ranks_of s) ss)

-- the support in place k, which counts from 0
pub numbered_at : (i r : ℕ) (ss : List Support) (k : ℕ) (s : Support) → s ≡ slice_index_or ss k s → k < length ss
    → slice_index_or (numbered_supports i r (files_of ss) (points_of ss)) k [] ≡ numbered (i + k) s.file 1 (slice_index_or (firsts_from r ss) k 0) (map point s.points.items)
numbered_at i r [] k s e l = absurd (omega (arith, l))
numbered_at i r (x ∷ ss) zero s e l =
    let p : i ≡ i + 0 = omega arith in
    ap₂ (λ (y : Support) j. numbered j y.file 1 r (map point y.points.items)) (sym e) p
numbered_at i r (x ∷ ss) (suc k) s e l =
    let p : suc i + k ≡ i + suc k = omega arith in
    numbered_at (suc i) (r + ranks_of x) ss k s e (omega (arith, l))
    ∙ ap (λ j. numbered j s.file 1 (slice_index_or (firsts_from (r + ranks_of x) ss) k 0) (map point s.points.items)) p

-- ranks stay small
pub firsts_few : (r : ℕ) (ss : List Support) → Each ss (λ s. ranks_of s ≤ 2000) → (k : ℕ) → k < length ss → slice_index_or (firsts_from r ss) k 0 ≤ r + 2000 * k
firsts_few r [] h k l = absurd (omega (arith, l))
firsts_few r (s ∷ ss) h zero l = omega arith
firsts_few r (s ∷ ss) h (suc k) l =
    let n = firsts_few (r + ranks_of s) ss h.1 k (omega (arith, l)) in
    let m = h.0 in
    omega (arith, n, m)
