-- Passes join workers.
use Rattle.std.proofs.Common.{◌≡◌, ℕ, zero, suc, ◌<◌, ◌+◌, List, [], ◌∷◌, ◌++◌, map, length, set, get_or, take, drop, refl, ap, sym, ◌∙◌, arith, subst, append_assoc, append-nil}
use Rattle.std.specs.Prelude.{IsPermutation}
use Rattle.std.specs.List.{flat_map}
use Rattle.std.proofs.lemmas.List.{map-set, length-map, get_or-map, map-append}
use Rattle.std.proofs.Common.{length-append}
use Rattle.std.proofs.lemmas.List.Concat.{flat_map-append}
use Rattle.std.proofs.lemmas.List.Sorted.{IsPermutation-trans, IsPermutation-append_left, IsPermutation-append_right, IsPermutation-append_comm}
use Rattle.branch_pool.specs.Parts.{added}
use Rattle.branch_pool.proofs.Balance.{exchange}

pub last_taken : {X : Type 0} (xs ys : List X) (x : X) → xs ++ x ∷ [] ≡ take (suc (length xs)) ys → (xs ≡ take (length xs) ys) × ((d : X) → get_or ys (length xs) d ≡ x)
last_taken [] [] x e = absurd (let n : 1 ≡ 0 = ap length e in omega (arith, n))
last_taken [] (y ∷ ys) x e = (refl, λ d. sym (ap (λ l. get_or l 0 y) e))
last_taken (z ∷ zs) [] x e = absurd (let n : suc (length (zs ++ x ∷ [])) ≡ 0 = ap length e in omega (arith, n))
last_taken (z ∷ zs) (y ∷ ys) x e =
    let h : z ≡ y = ap (λ l. get_or l 0 z) e in
    let r = last_taken zs ys x (ap (drop 1) e) in
    (rw h (ap (λ l. y ∷ l) r.0), r.1)

-- a list whose image is the first part of another's, when its last is taken off
pub image_popped : {X D : Type 0} (f : X → D) (ds : List D) (xs ys : List X) (x : X) (n : ℕ) → ys ≡ xs ++ x ∷ [] → n ≡ length xs → map f ys ≡ take (length ys) ds → (map f xs ≡ take n ds) × ((d : D) → get_or ds n d ≡ f x)
image_popped f ds xs ys x n more at e =
    let m : length (map f xs) ≡ n = length-map xs f ∙ sym at in
    let len : length ys ≡ suc (length (map f xs)) = omega (arith, m, at, ap length more, length-append xs (x ∷ [])) in
    let e' : map f xs ++ f x ∷ [] ≡ take (suc (length (map f xs))) ds = sym (map-append f xs (x ∷ [])) ∙ sym (ap (map f) more) ∙ e ∙ ap (λ k. take k ds) len in
    let r = last_taken (map f xs) ds (f x) e' in
    (r.0 ∙ ap (λ k. take k ds) m, λ d. ap (λ k. get_or ds k d) (sym m) ∙ r.1 d)

pub added_none : (xs : List ℕ) → added xs [] ≡ xs
added_none [] = refl
added_none (x ∷ xs) = refl

added_set : (xs ys : List ℕ) (n p : ℕ) → length ys < length xs → added (set xs (length ys) (get_or xs (length ys) n + p)) ys ≡ added xs (ys ++ p ∷ [])
added_set [] ys n p lt = absurd (omega arith)
added_set (x ∷ xs) [] n p lt = ap (λ l. (x + p) ∷ l) (sym (added_none xs))
added_set (x ∷ xs) (y ∷ ys) n p lt = ap (λ l. (x + y) ∷ l) (added_set xs ys n p (omega arith))

-- the parts, when one pass more has joined the worker at its place
pub parts_more : {W P : Type 0} (f : W → ℕ) (h : P → ℕ) (ws : List W) (xs ys : List P) (p : P) (i : ℕ) (w d : W) (total : List ℕ) → ys ≡ xs ++ p ∷ [] → i ≡ length xs → i < length ws → f w ≡ f (get_or ws i d) + h p
    → added (map f ws) (map h ys) ≡ total → added (map f (set ws i w)) (map h xs) ≡ total
parts_more f h ws xs ys p i w d total more at lt now old =
    let m : length (map h xs) ≡ i = length-map xs h ∙ sym at in
    let e : map f (set ws i w) ≡ set (map f ws) (length (map h xs)) (get_or (map f ws) (length (map h xs)) 0 + h p) =
    map-set f ws i w ∙ ap (λ x. set (map f ws) i x) (now ∙ ap (λ x. x + h p) (sym (get_or-map f ws i d 0 lt))) ∙ ap (λ k. set (map f ws) k (get_or (map f ws) k 0 + h p)) (sym m) in
    ap (λ l. added l (map h xs)) e ∙ added_set (map f ws) (map h xs) 0 (h p) (omega (arith, m, lt, length-map ws f))
    ∙ ap (added (map f ws)) (sym (ap (map h) more ∙ map-append h xs (p ∷ []))) ∙ old

module _ {B : Type 0} where
  -- one element's list grows
  pub grown : {X : Type 0} (f : X → List B) (ws : List X) (i : ℕ) (w d : X) (t : List B) → i < length ws → f w ≡ f (get_or ws i d) ++ t → IsPermutation (t ++ flat_map f ws) (flat_map f (set ws i w))
  grown f [] i w d t lt more = absurd (omega arith)
  grown f (x ∷ xs) zero w d t lt more =
      subst (λ (l : List B). IsPermutation (t ++ (f x ++ flat_map f xs)) (l ++ flat_map f xs)) (sym more)
      (subst (λ (l : List B). IsPermutation (t ++ (f x ++ flat_map f xs)) l) (sym (append_assoc (f x) t (flat_map f xs))) (exchange t (f x) (flat_map f xs)))
  grown f (x ∷ xs) (suc i) w d t lt more =
      IsPermutation-trans _ _ _ (exchange t (f x) (flat_map f xs)) (IsPermutation-append_right (f x) _ _ (grown f xs i w d t (omega arith) more))

  -- what stood at the end of the one is now in the other
  pub moved_over : (start a a' x y t : List B) → y ≡ x ++ t → IsPermutation (t ++ a) a' → IsPermutation start (a ++ y) → IsPermutation start (a' ++ x)
  moved_over start a a' x y t e p h =
      let q : IsPermutation (a ++ y) (x ++ (t ++ a)) = subst (λ (l : List B). IsPermutation (a ++ y) l) (ap (λ (l : List B). l ++ a) e ∙ append_assoc x t a) (IsPermutation-append_comm a y) in
      IsPermutation-trans _ _ _ h (IsPermutation-trans _ _ _ q (IsPermutation-trans _ _ _ (IsPermutation-append_right x _ _ p) (IsPermutation-append_comm x a')))

  pub flat_popped : {X : Type 0} (f : X → List B) (xs ys : List X) (x : X) → ys ≡ xs ++ x ∷ [] → flat_map f ys ≡ flat_map f xs ++ f x
  flat_popped f xs ys x more = ap (flat_map f) more ∙ flat_map-append f xs (x ∷ []) ∙ ap (λ (l : List B). flat_map f xs ++ l) (append-nil (f x))
