-- Points that are new where they stand are distinct, and the other way round.
use Rattle.std.proofs.Common.{◌≡◌, ◌≢◌, inl, inr, ℕ, zero, suc, ◌<◌, ◌≤◌, Bool, true, false, ℤ, List, [], ◌∷◌, ◌++◌, map, length, refl, sym, ap, subst, ◌∙◌, append_assoc, arith, length-append}
use Rattle.std.specs.Prelude.{slice_index_or}
use Rattle.std.specs.Ordering.{int_eq}
use Rattle.std.specs.Cmp.Lexicographic.{pointwise}
use Rattle.std.specs.Cmp.Rules.{signed_items}
use Rattle.std.proofs.lemmas.Bool.{cases_lt}
use Rattle.line_text.proofs.TokenLemmas.{neither}
use Rattle.cayley.specs.Files.{FilePoint}
use Rattle.cayley.specs.Valid.{AreDistinct}
use Rattle.int_vectors.proofs.Each.{no_both}
use Rattle.support_text.specs.ProblemText.{is_among}
use Rattle.support_text.proofs.Kept.{KeepsEach}

abbrev coords : FilePoint → List ℤ
coords x = x.coordinates

abbrev pub IsNew : List FilePoint → FilePoint → Type 0
IsNew before x = is_among x.coordinates before ≡ false

not_true : (b : Bool) → (b ≡ true → ⊥) → b ≡ false
not_true true f = absurd (f refl)
not_true false f = refl

not_among_at : (c : List ℤ) (ps : List FilePoint) (k : ℕ) → is_among c ps ≡ false → k < length ps → slice_index_or (map coords ps) k [] ≢ c
not_among_at c [] k h lt = absurd (omega arith)
not_among_at c (p ∷ ps) zero h lt = λ e. no_both (pointwise int_eq p.coordinates c) ((signed_items p.coordinates c).1 e) (neither (pointwise int_eq p.coordinates c) (is_among c ps) h).0
not_among_at c (p ∷ ps) (suc k) h lt = not_among_at c ps k (neither (pointwise int_eq p.coordinates c) (is_among c ps) h).1 (omega arith)

among_none : (c : List ℤ) (ps : List FilePoint) → ((k : ℕ) → k < length ps → slice_index_or (map coords ps) k [] ≢ c) → is_among c ps ≡ false
among_none c [] h = refl
among_none c (p ∷ ps) h =
    let first = not_true (pointwise int_eq p.coordinates c) (λ t. h 0 (omega arith) ((signed_items p.coordinates c).0 t)) in
    let others = among_none c ps (λ k lt. h (suc k) (omega arith)) in
    rw (first, others) refl

length_coords : (xs : List FilePoint) → length (map coords xs) ≡ length xs
length_coords [] = refl
length_coords (x ∷ xs) = ap suc (length_coords xs)

-- the places of a list in two parts
before_seam : (xs ys : List FilePoint) (k : ℕ) → k < length xs → slice_index_or (map coords (xs ++ ys)) k [] ≡ slice_index_or (map coords xs) k []
before_seam [] ys k lt = absurd (omega arith)
before_seam (x ∷ xs) ys zero lt = refl
before_seam (x ∷ xs) ys (suc k) lt = before_seam xs ys k (omega arith)

at_seam : (xs : List FilePoint) (y : FilePoint) (ys : List FilePoint) → slice_index_or (map coords (xs ++ y ∷ ys)) (length xs) [] ≡ y.coordinates
at_seam [] y ys = refl
at_seam (x ∷ xs) y ys = at_seam xs y ys

apart : (before xs : List FilePoint) → KeepsEach IsNew before xs → (k l : ℕ) → k < l → length before ≤ l → l < length (before ++ xs)
    → slice_index_or (map coords (before ++ xs)) k [] ≢ slice_index_or (map coords (before ++ xs)) l []
apart before [] h k l kl bl ll = absurd (omega (arith, length-append before []))
apart before (x ∷ xs) h k l kl bl ll = elim (cases_lt (length before) l) [
  | inl lt ↦
      let Apart : List FilePoint → Type 0 = λ all. slice_index_or (map coords all) k [] ≢ slice_index_or (map coords all) l [] in
      let whole = append_assoc before (x ∷ []) xs in
      let size = ap length whole in
      subst Apart whole (apart (before ++ x ∷ []) xs h.1 k l kl (omega (arith, length-append before (x ∷ []))) (omega (arith, size)))
  | inr le ↦
      let same : l ≡ length before = omega arith in
      let first = before_seam before (x ∷ xs) k (omega arith) in
      let second = ap (λ (i : ℕ). slice_index_or (map coords (before ++ x ∷ xs)) i []) same ∙ at_seam before x xs in
      λ e. not_among_at x.coordinates before k h.0 (omega arith) (sym first ∙ e ∙ second)
]

pub distinct_from : (xs : List FilePoint) → KeepsEach IsNew [] xs → AreDistinct (map (λ (x : FilePoint). x.coordinates) xs)
distinct_from xs h k l kl ll = apart [] xs h k l kl (omega arith) (omega (arith, length_coords xs))

new_each : (before xs : List FilePoint) → AreDistinct (map coords (before ++ xs)) → KeepsEach IsNew before xs
new_each before [] d = tt
new_each before (x ∷ xs) d =
    let size : length before < length (map coords (before ++ x ∷ xs)) = omega (arith, length_coords (before ++ x ∷ xs), length-append before (x ∷ xs)) in (
      among_none x.coordinates before (λ k lt e. d k (length before) lt size (before_seam before (x ∷ xs) k lt ∙ e ∙ sym (at_seam before x xs))),
      new_each (before ++ x ∷ []) xs (subst (λ (l : List FilePoint). AreDistinct (map coords l)) (sym (append_assoc before (x ∷ []) xs)) d),
    )

pub new_from : (xs : List FilePoint) → AreDistinct (map (λ (x : FilePoint). x.coordinates) xs) → KeepsEach IsNew [] xs
new_from xs d = new_each [] xs d
