-- the rank that a position has among the points of its support
use Rattle.std.proofs.Common.{◌≡◌, ◌≢◌, ◌⊎◌, ℕ, zero, suc, ◌+◌, ◌-◌, ◌<◌, ◌≤◌, ◌==◌, Bool, true, false, if◌then◌else◌, List, [], ◌∷◌, length, arith, refl, sym, ap, ◌∙◌, inl, inr}
use Rattle.std.specs.Prelude.{min, slice_index_or}
use Rattle.std.proofs.lemmas.Bool.{ne_eqb, eqb-true, eq-eqb}
use Rattle.wide_int.proofs.Bools.{by_test}
use Rattle.cayley.specs.Problems.{Point, origin, point_at, is_start_corner, numbered}

-- the start corners before a position
abbrev pub corners_before : ℕ → ℕ → ℕ → ℕ
corners_before i f position = min 1 (position - (f + 1)) + min 1 (position - (f + 1 + i))

abbrev IsStartCorner : ℕ → ℕ → ℕ → Type 0
IsStartCorner i f position = (position ≡ f + 1) ⊎ (position ≡ f + 1 + i)

either : (a b : Bool) → (if a then true else b) ≡ true → (a ≡ true) ⊎ (b ≡ true)
either true b e = inl refl
either false b e = inr e

start_is : (i f position : ℕ) → is_start_corner i f position ≡ true → IsStartCorner i f position
start_is i f position e = elim (either (position == f + 1) (position == f + 1 + i) e) [
  | inl h ↦ inl (eqb-true position (f + 1) h)
  | inr h ↦ inr (eqb-true position (f + 1 + i) h)
]

pub is_start : (i f position : ℕ) → IsStartCorner i f position → is_start_corner i f position ≡ true
is_start i f position (inl e) = rw (ap (λ n. n == f + 1) e ∙ eq-eqb (f + 1) (f + 1) refl) refl
is_start i f position (inr e) = by (position == f + 1) (ap (λ n. n == f + 1 + i) e ∙ eq-eqb (f + 1 + i) (f + 1 + i) refl)
  where
    by : (a : Bool) → (position == f + 1 + i) ≡ true → (if a then true else (position == f + 1 + i)) ≡ true
    by true h = refl
    by false h = h

pub not_start : (i f position : ℕ) → position ≢ f + 1 → position ≢ f + 1 + i → is_start_corner i f position ≡ false
not_start i f position n m =
    let a : (position == f + 1) ≡ false = ne_eqb position (f + 1) n in
    let b : (position == f + 1 + i) ≡ false = ne_eqb position (f + 1 + i) m in
    rw (a, b) refl

apart : (i f position : ℕ) → is_start_corner i f position ≡ false → (position ≢ f + 1) × (position ≢ f + 1 + i)
apart i f position e = (
  (λ h. absurd (let k = is_start i f position (inl h) in cc)),
  (λ h. absurd (let k = is_start i f position (inr h) in cc)),
)

-- behind a start corner there is one more of them
one_more : (i f position : ℕ) → 1 ≤ i → is_start_corner i f position ≡ true → corners_before i f (suc position) ≡ suc (corners_before i f position)
one_more i f position l e = by (start_is i f position e)
  where
    by : IsStartCorner i f position → corners_before i f (suc position) ≡ suc (corners_before i f position)
    by (inl h) = omega (arith, l, h)
    by (inr h) = omega (arith, l, h)

no_more : (i f position : ℕ) → is_start_corner i f position ≡ false → corners_before i f (suc position) ≡ corners_before i f position
no_more i f position e =
    let a = (apart i f position e).0 in
    let b = (apart i f position e).1 in
    omega (arith, a, b)

-- the point k behind a position, where the ranks go on from r
pub numbered_rank : (i f position r : ℕ) (xs : List Point) (k : ℕ) → 1 ≤ i → k < length xs → is_start_corner i f (position + k) ≡ false
    → (slice_index_or (numbered i f position r xs) k origin).rank + corners_before i f (position + k) ≡ r + k + corners_before i f position
numbered_rank i f position r [] k l m e = absurd (omega (arith, m))
numbered_rank i f position r (x ∷ xs) zero l m e =
    let p : position + 0 ≡ position = omega arith in
    let h = sym (ap (is_start_corner i f) p) ∙ e in
    rw h (omega arith)
numbered_rank i f position r (x ∷ xs) (suc k) l m e =
    let p : position + suc k ≡ suc position + k = omega arith in
    let h = sym (ap (is_start_corner i f) p) ∙ e in
    by_test (is_start_corner i f position)
    (λ t. rw t (let n = numbered_rank i f (suc position) r xs k l (omega (arith, m)) h in let o = one_more i f position l t in omega (arith, n, o)))
    (λ t. rw t (let n = numbered_rank i f (suc position) (suc r) xs k l (omega (arith, m)) h in let o = no_more i f position t in omega (arith, n, o)))

-- a start corner has rank 0
pub start_rank : (i f position r : ℕ) (xs : List Point) (k : ℕ) → k < length xs → is_start_corner i f (position + k) ≡ true → (slice_index_or (numbered i f position r xs) k origin).rank ≡ 0
start_rank i f position r [] k m e = absurd (omega (arith, m))
start_rank i f position r (x ∷ xs) zero m e =
    let p : position + 0 ≡ position = omega arith in
    let h = sym (ap (is_start_corner i f) p) ∙ e in
    rw h refl
start_rank i f position r (x ∷ xs) (suc k) m e =
    let p : position + suc k ≡ suc position + k = omega arith in
    let h = sym (ap (is_start_corner i f) p) ∙ e in
    by_test (is_start_corner i f position)
    (λ t. rw t (start_rank i f (suc position) r xs k (omega (arith, m)) h))
    (λ t. rw t (start_rank i f (suc position) (suc r) xs k (omega (arith, m)) h))

-- at a position of the support
pub rank_there : (i f r position : ℕ) (xs : List Point) → 1 ≤ i → 1 ≤ position → position ≤ length xs → position ≢ f + 1 → position ≢ f + 1 + i
    → (point_at (numbered i f 1 r xs) position).rank + corners_before i f position ≡ r + (position - 1)
rank_there i f r position xs l a b n m =
    let p : 1 + (position - 1) ≡ position = omega arith in
    let h = numbered_rank i f 1 r xs (position - 1) l (omega (arith, a, b)) (ap (is_start_corner i f) p ∙ not_start i f position n m) in
    let q = ap (corners_before i f) p in
    omega (arith, h, q)

pub rank_of_start : (i f r position : ℕ) (xs : List Point) → 1 ≤ position → position ≤ length xs → (position ≡ f + 1) ⊎ (position ≡ f + 1 + i)
    → (point_at (numbered i f 1 r xs) position).rank ≡ 0
rank_of_start i f r position xs a b e =
    let p : 1 + (position - 1) ≡ position = omega arith in
    start_rank i f 1 r xs (position - 1) (omega (arith, a, b)) (ap (is_start_corner i f) p ∙ is_start i f position e)
