-- lines and their rows side by side
use Rattle.std.proofs.Common.{◌≡◌, ℕ, zero, suc, ◌+◌, ◌<◌, ◌≤◌, List, [], ◌∷◌, ◌++◌, length, map, drop, get_or, drop_of_length-le, arith, sym, subst, append-nil}
use Rattle.int_vectors.specs.Vectors.{Each}
use Rattle.homotopy_rows.specs.Powers.{SideBySide}

pub beside_map : {A B : Type 0} (P Q : A → B → Type 0) (xs : List A) (ys : List B) → ((x : A) (y : B) → P x y → Q x y) → SideBySide xs ys P → SideBySide xs ys Q
beside_map P Q [] [] f h = tt
beside_map P Q [] (y ∷ ys) f h = h
beside_map P Q (x ∷ xs) [] f h = h
beside_map P Q (x ∷ xs) (y ∷ ys) f h = (f x y h.0, beside_map P Q xs ys f h.1)

-- with a fact of each of the first
pub beside_both : {A B : Type 0} (E : A → Type 0) (P Q : A → B → Type 0) (xs : List A) (ys : List B) → ((x : A) (y : B) → E x → P x y → Q x y) → Each xs E → SideBySide xs ys P → SideBySide xs ys Q
beside_both E P Q [] [] f e h = tt
beside_both E P Q [] (y ∷ ys) f e h = h
beside_both E P Q (x ∷ xs) [] f e h = h
beside_both E P Q (x ∷ xs) (y ∷ ys) f e h = (f x y e.0 h.0, beside_both E P Q xs ys f e.1 h.1)

pub made_whole : {A B : Type 0} (P : A → B → Type 0) (xs : List A) (made : List B) (k : ℕ) → length xs ≤ k
    → ((rest : List B) → SideBySide (drop k xs) rest P → SideBySide xs (made ++ rest) P) → SideBySide xs made P
made_whole P xs made k l f = subst (λ ys. SideBySide xs ys P) (append-nil made) (f [] (subst (λ us. SideBySide us [] P) (sym (drop_of_length-le xs l)) tt))

pub each_item : {A : Type 0} (P : A → Type 0) (xs : List A) (k : ℕ) (x : A) → Each xs P → k < length xs → x ≡ get_or xs k x → P x
each_item P [] k x h l e = absurd (omega (arith, l))
each_item P (y ∷ xs) zero x h l e = subst P (sym e) h.0
each_item P (y ∷ xs) (suc k) x h l e = each_item P xs k x h.1 (omega (arith, l)) e

-- of rows that are seen through f
pub beside_seen : {A B C : Type 0} (f : B → C) (P : A → C → Type 0) (xs : List A) (ys : List B) → SideBySide xs ys (λ x y. P x (f y)) → SideBySide xs (map f ys) P
beside_seen f P [] [] h = tt
beside_seen f P [] (y ∷ ys) h = h
beside_seen f P (x ∷ xs) [] h = h
beside_seen f P (x ∷ xs) (y ∷ ys) h = (h.0, beside_seen f P xs ys h.1)
