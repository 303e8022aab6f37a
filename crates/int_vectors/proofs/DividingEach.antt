-- a vector divided by a number that divides each entry
use Rattle.std.proofs.Common.{◌≡◌, ℕ, ◌+◌, ◌<◌, ℤ, pos, ◌*ℤ◌, List, [], ◌∷◌, ◌++◌, length, get_or, take, drop, set, refl, sym, ap, ap₂, subst, ◌∙◌, arith, add-zero, get_or-drop, drop-drop, drop-set-lt}
use Rattle.std.proofs.lemmas.List.{take_more, take_more_set}
use Rattle.int_vectors.specs.Vectors.{scale}

pub scale-append : (g x : ℤ) (xs : List ℤ) → scale g (xs ++ x ∷ []) ≡ scale g xs ++ (g *ℤ x) ∷ []
scale-append g x [] = refl
scale-append g x (y ∷ xs) = ap (λ l. (g *ℤ y) ∷ l) (scale-append g x xs)

pub done_more : (g q : ℤ) (old now : List ℤ) (i : ℕ) → i < length old → i < length now → take i old ≡ scale g (take i now) → g *ℤ q ≡ get_or old i (pos 0)
    → take (i + 1) old ≡ scale g (take (i + 1) (set now i q))
done_more g q old now i h k e m =
    take_more old i (pos 0) h ∙ ap₂ (λ l x. l ++ x ∷ []) e (sym m) ∙ sym (scale-append g q (take i now)) ∙ ap (scale g) (sym (take_more_set now i q k))

pub same_left : (old now : List ℤ) (i : ℕ) → drop i old ≡ drop i now → (get_or old i (pos 0) ≡ get_or now i (pos 0)) × (drop (i + 1) old ≡ drop (i + 1) now)
same_left old now i e = (
  subst (λ k. get_or old k (pos 0) ≡ get_or now k (pos 0)) (add-zero i) (sym (get_or-drop i old 0 (pos 0)) ∙ ap (λ l. get_or l 0 (pos 0)) e ∙ get_or-drop i now 0 (pos 0)),
  sym (drop-drop 1 i old) ∙ ap (drop 1) e ∙ drop-drop 1 i now,
)

pub left_more : (q : ℤ) (old now : List ℤ) (i : ℕ) → drop i old ≡ drop i now → drop (i + 1) old ≡ drop (i + 1) (set now i q)
left_more q old now i e = (same_left old now i e).1 ∙ sym (drop-set-lt (i + 1) now i q (omega arith))
