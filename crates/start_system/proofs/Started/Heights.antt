-- the start heights of a file, given or default, and the path of a valid file
use Rattle.std.proofs.Common.{◌≡◌, ◌≢◌, mod-lt, ℕ, zero, suc, ◌+◌, ◌*◌, ◌%◌, ◌-◌, ◌<◌, ◌≤◌, ◌==◌, Bool, true, false, if◌then◌else◌, List, ◌∷◌, Option, None, Some, MatchOption, length, arith, refl, sym, ap, subst, ◌∙◌, ◌≤ℤ◌}
use Rattle.std.proofs.lemmas.Bool.{eq-eqb}
use Rattle.std.proofs.lemmas.Int.{ints}
use Rattle.std.proofs.Math.IntN.{ℤ, pos}
use native.Mathlib.Decide.{ℕ_discrete}
use Rattle.int_vectors.specs.Vectors.{Each}
use Rattle.cayley.specs.Files.{File}
use Rattle.cayley.specs.Paths.{default_start, default_starts_from, default_starts, starts_of}
use Rattle.cayley.specs.Valid.{IsStart, IsValidFile}
use Rattle.int_vectors.proofs.Each.{each_both, each_weaker}
use Rattle.start_system.proofs.Path.Numbering.{unequal}
use Rattle.start_system.proofs.Path.Supports.{AreHeights}
use Rattle.start_system.proofs.Path.Forms.{IsLift}

if_yes : (t : Bool) (xs ys : List ℤ) → t ≡ true → (if t then xs else ys) ≡ xs
if_yes true xs ys e = refl
if_yes false xs ys e = cc

if_no : (t : Bool) (xs ys : List ℤ) → t ≡ false → (if t then xs else ys) ≡ ys
if_no true xs ys e = cc
if_no false xs ys e = refl

-- the step of the list of one support's default start heights
pub own_left_out : (i k left : ℕ) → k ≡ i → default_starts_from i k (suc left) ≡ default_starts_from i (suc k) left
own_left_out i k left e = if_yes (k == i) _ _ (eq-eqb k i e)

pub other_first : (i k left : ℕ) → k ≢ i → default_starts_from i k (suc left) ≡ default_start i k ∷ default_starts_from i (suc k) left
other_first i k left n = if_no (k == i) _ _ (unequal k i n)

length-past : (i k left : ℕ) → i < k → length (default_starts_from i k left) ≡ left
length-past i k zero l = refl
length-past i k (suc left) l = ap length (other_first i k left (λ e. omega (arith, e, l))) ∙ ap suc (length-past i (suc k) left (omega arith))

pub length-defaults : (i k left : ℕ) → k ≤ i → i < k + left → suc (length (default_starts_from i k left)) ≡ left
length-defaults i k zero l m = absurd (omega arith)
length-defaults i k (suc left) l m = elim (ℕ_discrete k i) [
  | yes e ↦ ap suc (ap length (own_left_out i k left e) ∙ length-past i (suc k) left (omega (arith, e)))
  | no n ↦ ap (λ (xs : List ℤ). suc (length xs)) (other_first i k left n) ∙ ap suc (length-defaults i (suc k) left (omega (arith, n)) (omega arith))
]

each_default : (i k left : ℕ) → Each (default_starts_from i k left) (λ z. pos 1 ≤ℤ z)
each_default i k zero = tt
each_default i k (suc left) = elim (ℕ_discrete k i) [
  | yes e ↦ subst (λ (xs : List ℤ). Each xs (λ z. pos 1 ≤ℤ z)) (sym (own_left_out i k left e)) (each_default i (suc k) left)
  | no n ↦ subst (λ (xs : List ℤ). Each xs (λ z. pos 1 ≤ℤ z)) (sym (other_first i k left n)) (omega (arith, ints), each_default i (suc k) left)
]

pub length-rows : (n i left : ℕ) → length (default_starts n i left) ≡ left
length-rows n i zero = refl
length-rows n i (suc left) = ap suc (length-rows n (suc i) left)

default_heights : (n i left : ℕ) → 1 ≤ i → i + left ≤ suc n → Each (default_starts n i left) (AreHeights n)
default_heights n i zero l m = tt
default_heights n i (suc left) l m = ((length-defaults i 1 n l (omega arith), each_default i 1 n), default_heights n (suc i) left (omega arith) (omega arith))

-- ---- a valid file
file_heights : (file : File) → IsValidFile file → (given : Option (List (List ℤ))) → file.starts ≡ given
    → (length (starts_of file) ≡ file.dimension) × Each (starts_of file) (AreHeights file.dimension)
file_heights file v None e =
    let n = file.dimension in
    let is : starts_of file ≡ default_starts n 1 n = ap (λ (s : Option (List (List ℤ))). starts_of (record file { starts = s })) e in
    (ap length is ∙ length-rows n 1 n, subst (λ (s : List (List ℤ)). Each s (AreHeights n)) (sym is) (default_heights n 1 n (omega arith) (omega arith)))
file_heights file v (Some starts) e =
    let n = file.dimension in
    let some = v.shape.dimension.0 in
    let is : starts_of file ≡ starts = ap (λ (s : Option (List (List ℤ))). starts_of (record file { starts = s })) e in
    let shape = subst (λ (s : Option (List (List ℤ))). MatchOption s (Unit {0}) (λ starts. (length starts ≡ n) × Each starts (λ s. length s ≡ n - 1))) e v.shape.starts in
    let limits = subst (λ (s : Option (List (List ℤ))). MatchOption s (Unit {0}) (λ starts. Each starts (λ s. Each s IsStart))) e v.starts in (
      ap length is ∙ shape.0,
      subst (λ (s : List (List ℤ)). Each s (AreHeights n)) (sym is) (each_weaker (λ s. (length s ≡ n - 1) × Each s IsStart) (AreHeights n) starts
          (λ s h. ((let l = h.0 in omega (arith, l, some)), each_weaker IsStart (λ z. pos 1 ≤ℤ z) s (λ z k. k.0) h.1))
          (each_both _ _ starts shape.1 limits)),
    )

pub valid_lift : (file : File) → IsValidFile file → IsLift file
valid_lift file v =
    let h = file_heights file v file.starts refl in
    record {
      some = v.shape.dimension.0;
      supports = v.shape.supports;
      points = each_weaker _ _ file.supports (λ s h. (h.0.0, h.1)) (each_both _ _ file.supports v.shape.counts v.shape.points);
      starts = h.0;
      heights = h.1;
    }

-- ---- their limits
default_small : (i k : ℕ) → IsStart (default_start i k)
default_small i k = let m : (37 * i * i + 11 * k * k * k + 53 * i * k) % 509 < 509 = mod-lt (37 * i * i + 11 * k * k * k + 53 * i * k) (omega arith) in (omega (arith, ints), omega (arith, ints, m))

each_small : (i k left : ℕ) → Each (default_starts_from i k left) IsStart
each_small i k zero = tt
each_small i k (suc left) = elim (ℕ_discrete k i) [
  | yes e ↦ subst (λ (xs : List ℤ). Each xs IsStart) (sym (own_left_out i k left e)) (each_small i (suc k) left)
  | no n ↦ subst (λ (xs : List ℤ). Each xs IsStart) (sym (other_first i k left n)) (default_small i k, each_small i (suc k) left)
]

rows_small : (n i left : ℕ) → Each (default_starts n i left) (λ s. Each s IsStart)
rows_small n i zero = tt
rows_small n i (suc left) = (each_small i 1 n, rows_small n (suc i) left)

pub default_given : (file : File) → file.starts ≡ None → starts_of file ≡ default_starts file.dimension 1 file.dimension
default_given file e = ap (λ (s : Option (List (List ℤ))). starts_of (record file { starts = s })) e

pub own_given : (file : File) (starts : List (List ℤ)) → file.starts ≡ Some starts → starts_of file ≡ starts
own_given file starts e = ap (λ (s : Option (List (List ℤ))). starts_of (record file { starts = s })) e

small_given : (file : File) → IsValidFile file → (given : Option (List (List ℤ))) → file.starts ≡ given → Each (starts_of file) (λ s. Each s IsStart)
small_given file v None e = subst (λ (ss : List (List ℤ)). Each ss (λ s. Each s IsStart)) (sym (default_given file e)) (rows_small file.dimension 1 file.dimension)
small_given file v (Some starts) e =
    subst (λ (ss : List (List ℤ)). Each ss (λ s. Each s IsStart)) (sym (own_given file starts e))
    (subst (λ (s : Option (List (List ℤ))). MatchOption s (Unit {0}) (λ starts. Each starts (λ s. Each s IsStart))) e v.starts)

pub starts_small : (file : File) → IsValidFile file → Each (starts_of file) (λ s. Each s IsStart)
starts_small file v = small_given file v file.starts refl
