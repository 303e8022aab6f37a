-- lists that are made one entry after the other, sums of differences, and the entries of m + d e_k
use Rattle.std.proofs.Common.{◌≡◌, ◌≢◌, ℕ, zero, suc, ◌+◌, ◌<◌, ◌≤◌, List, [], ◌∷◌, ◌++◌, length, take, drop, get_or, append_assoc, arith, refl, sym, ap, ap₂, ◌∙◌}
use Rattle.std.proofs.Math.IntN.{ℤ, pos, ◌+ℤ◌, ◌-ℤ◌}
use Rattle.std.proofs.Math.Seq.{take-suc}
use Rattle.std.proofs.lemmas.Int.{ints}
use Rattle.std.proofs.lemmas.List.{take_all, ext_get_or}
use Rattle.int_vectors.specs.Vectors.{Each, at, add, sub, at_place}
use Rattle.int_vectors.proofs.Entries.{at-add, at_own, at_other}
use Rattle.int_vectors.proofs.Differences.{minus_one}
use Rattle.cayley.specs.Paths.{sum_of}
use Rattle.cayley.specs.Valid.{IsCoordinate}
use Rattle.int_vectors.proofs.Each.{all_each}

-- ---- one entry more
pub take_next : {A : Type 0} (xs : List A) (k : ℕ) (d : A) → k < length xs → take (k + 1) xs ≡ take k xs ++ (get_or xs k d ∷ [])
take_next xs k d l = let e : k + 1 ≡ suc k = omega arith in ap (λ j. take j xs) e ∙ take-suc xs k d l

pub next_taken : {A : Type 0} (whole made : List A) (k : ℕ) (e d : A) → made ≡ take k whole → k < length whole → e ≡ get_or whole k d → made ++ (e ∷ []) ≡ take (k + 1) whole
next_taken whole made k e d h l r = ap₂ (λ xs y. xs ++ (y ∷ [])) h r ∙ sym (take_next whole k d l)

pub last_taken : {A : Type 0} (whole made : List A) (k : ℕ) → made ≡ take k whole → length whole ≤ k → made ≡ whole
last_taken whole made k h l = h ∙ take_all k whole l

-- the same behind a list that stands
pub more_behind : {A : Type 0} (whole before made : List A) (k : ℕ) (e d : A) → made ≡ before ++ take k whole → k < length whole → e ≡ get_or whole k d → made ++ (e ∷ []) ≡ before ++ take (k + 1) whole
more_behind whole before made k e d h l r = ap (λ xs. xs ++ (e ∷ [])) h ∙ append_assoc before (take k whole) (e ∷ []) ∙ ap (λ xs. before ++ xs) (next_taken whole (take k whole) k e d refl l r)

pub all_behind : {A : Type 0} (whole before made : List A) (k : ℕ) → made ≡ before ++ take k whole → length whole ≤ k → made ≡ before ++ whole
all_behind whole before made k h l = h ∙ ap (λ xs. before ++ xs) (take_all k whole l)

-- ---- the sum of differences
abbrev pub left_sum : List ℤ → List ℤ → ℕ → ℤ
left_sum x m k = sum_of (sub (drop k x) (drop k m))

left_next : (x m : List ℤ) (k : ℕ) → length x ≡ length m → k < length x → left_sum x m k ≡ (at x k -ℤ at m k) +ℤ left_sum x m (suc k)
left_next [] m k e l = absurd (omega arith)
left_next (x ∷ xs) [] k e l = absurd (omega arith)
left_next (x ∷ xs) (m ∷ ms) zero e l = ap (λ z. z +ℤ sum_of (sub xs ms)) (minus_one x m)
left_next (x ∷ xs) (m ∷ ms) (suc k) e l = left_next xs ms k (omega arith) (omega arith)

pub sum_more : (x m : List ℤ) (k : ℕ) (t w : ℤ) → length x ≡ length m → k < length x → t +ℤ left_sum x m k ≡ w → (t +ℤ (at x k -ℤ at m k)) +ℤ left_sum x m (k + 1) ≡ w
sum_more x m k t w e l h =
    let n = left_next x m k e l in
    let o : suc k ≡ k + 1 = omega arith in
    let p : left_sum x m (suc k) ≡ left_sum x m (k + 1) = ap (left_sum x m) o in
    by t (at x k -ℤ at m k) (left_sum x m k) (left_sum x m (suc k)) (left_sum x m (k + 1)) w n p h
  where
    by : (t g r s u w : ℤ) → r ≡ g +ℤ s → s ≡ u → t +ℤ r ≡ w → (t +ℤ g) +ℤ u ≡ w
    by t g r s u w n p h = omega (arith, ints, n, p, h)

-- an entry of a list of coordinates
pub small_at : (xs : List ℤ) (k : ℕ) → Each xs IsCoordinate → k < length xs → IsCoordinate (at xs k)
small_at xs k h l = all_each IsCoordinate xs h k (pos 0) l

-- ---- m + d e_k
pub moved_own : (m : List ℤ) (k j : ℕ) (d : ℤ) → j ≡ k → at m j +ℤ d ≡ at (add m (at_place k d)) j
moved_own m k j d e = sym (at-add m (at_place k d) j ∙ ap (λ z. at m j +ℤ z) (ap (at (at_place k d)) e ∙ at_own k d))

pub moved_other : (m : List ℤ) (k j : ℕ) (d : ℤ) → j ≢ k → at m j ≡ at (add m (at_place k d)) j
moved_other m k j d n = sym (at-add m (at_place k d) j ∙ ap (λ z. at m j +ℤ z) (at_other k j d n) ∙ nothing (at m j))
  where
    nothing : (z : ℤ) → z +ℤ pos 0 ≡ z
    nothing z = omega (arith, ints)

pub length-place : (k : ℕ) (d : ℤ) → length (at_place k d) ≡ suc k
length-place zero d = refl
length-place (suc k) d = ap suc (length-place k d)

pub length-moved : (m : List ℤ) (k : ℕ) (d : ℤ) → k < length m → length (add m (at_place k d)) ≡ length m
length-moved [] k d l = absurd (omega arith)
length-moved (x ∷ m) zero d l = ap suc (plain m)
  where
    plain : (m : List ℤ) → length (add m []) ≡ length m
    plain [] = refl
    plain (x ∷ m) = refl
length-moved (x ∷ m) (suc k) d l = ap suc (length-moved m k d (omega arith))

-- two lists of one length whose entries are equal
pub all_equal : (x w : List ℤ) → length x ≡ length w → ((j : ℕ) → j < length x → at x j ≡ at w j) → x ≡ w
all_equal x w e h = ext_get_or (pos 0) x w e h
