-- properties of each element of a list
use Rattle.std.proofs.Common.{◌≡◌, ℕ, zero, suc, ◌+◌, ◌<◌, ◌≤◌, List, [], ◌∷◌, ◌++◌, length, map, take, drop, arith, refl, ap, ap₂, Bool, true, false, not}
use Rattle.std.specs.Prelude.{slice_index_or}
use Rattle.std.specs.List.{All}
use Rattle.std.proofs.lemmas.List.{take_all, drop_all}
use Rattle.int_vectors.specs.Vectors.{Each}

pub each_all : {A : Type 0} (P : A → Type 0) (xs : List A) → All P xs → Each xs P
each_all P [] h = tt
each_all P (x ∷ xs) h = (h 0 x (omega arith), each_all P xs (λ k d p. h (suc k) d (omega arith)))

pub all_each : {A : Type 0} (P : A → Type 0) (xs : List A) → Each xs P → (k : ℕ) (d : A) → k < length xs → P (slice_index_or xs k d)
all_each P [] h k d p = absurd (omega arith)
all_each P (x ∷ xs) h zero d p = h.0
all_each P (x ∷ xs) h (suc k) d p = all_each P xs h.1 k d (omega arith)

pub map_at : {A B : Type 0} (f : A → B) (xs : List A) (k : ℕ) (x : A) (d : B) → x ≡ slice_index_or xs k x → k < length xs → f x ≡ slice_index_or (map f xs) k d
map_at f [] k x d e p = absurd (omega arith)
map_at f (y ∷ xs) zero x d e p = ap f e
map_at f (y ∷ xs) (suc k) x d e p = map_at f xs k x d e (omega arith)

pub map_map : {A B C : Type 0} (g : B → C) (f : A → B) (xs : List A) → map g (map f xs) ≡ map (λ x. g (f x)) xs
map_map g f [] = refl
map_map g f (x ∷ xs) = ap (λ ys. g (f x) ∷ ys) (map_map g f xs)

-- a place that is there is read the same with any default
pub same_read : {A : Type 0} (xs : List A) (k : ℕ) (d e : A) → k < length xs → slice_index_or xs k d ≡ slice_index_or xs k e
same_read [] k d e p = absurd (omega arith)
same_read (x ∷ xs) zero d e p = refl
same_read (x ∷ xs) (suc k) d e p = same_read xs k d e (omega arith)

pub map_same : {A B : Type 0} (f g : A → B) → ((x : A) → f x ≡ g x) → (xs : List A) → map f xs ≡ map g xs
map_same f g e [] = refl
map_same f g e (x ∷ xs) = ap₂ (λ y ys. y ∷ ys) (e x) (map_same f g e xs)

pub each_map : {A B : Type 0} (f : A → B) (P : B → Type 0) (xs : List A) → Each xs (λ x. P (f x)) → Each (map f xs) P
each_map f P [] h = tt
each_map f P (x ∷ xs) h = (h.0, each_map f P xs h.1)

pub each_unmap : {A B : Type 0} (f : A → B) (P : B → Type 0) (xs : List A) → Each (map f xs) P → Each xs (λ x. P (f x))
each_unmap f P [] h = tt
each_unmap f P (x ∷ xs) h = (h.0, each_unmap f P xs h.1)

pub each_weaker : {A : Type 0} (P Q : A → Type 0) (xs : List A) → ((x : A) → P x → Q x) → Each xs P → Each xs Q
each_weaker P Q [] f h = tt
each_weaker P Q (x ∷ xs) f h = (f x h.0, each_weaker P Q xs f h.1)

pub not_false : (b : Bool) → not b ≡ false → b ≡ true
not_false true e = refl
not_false false e = cc

pub no_both : (b : Bool) → b ≡ true → b ≡ false → ⊥
no_both true e f = cc
no_both false e f = cc

pub read_past : {A : Type 0} (xs : List A) (k : ℕ) (d : A) → length xs ≤ k → slice_index_or xs k d ≡ d
read_past [] k d l = refl
read_past (x ∷ xs) zero d l = absurd (omega arith)
read_past (x ∷ xs) (suc k) d l = read_past xs k d (omega arith)

pub each_append : {A : Type 0} (P : A → Type 0) (xs ys : List A) → Each xs P → Each ys P → Each (xs ++ ys) P
each_append P [] ys f g = g
each_append P (x ∷ xs) ys f g = (f.0, each_append P xs ys f.1 g)

pub each_both : {A : Type 0} (P Q : A → Type 0) (xs : List A) → Each xs P → Each xs Q → Each xs (λ x. P x × Q x)
each_both P Q [] f g = tt
each_both P Q (x ∷ xs) f g = ((f.0, g.0), each_both P Q xs f.1 g.1)

pub read_take : {A : Type 0} (xs : List A) (n k : ℕ) (d : A) → k < n → slice_index_or (take n xs) k d ≡ slice_index_or xs k d
read_take [] n k d p = ap (λ ys. slice_index_or ys k d) (take_all n [] (omega arith))
read_take (x ∷ xs) zero k d p = absurd (omega arith)
read_take (x ∷ xs) (suc n) zero d p = refl
read_take (x ∷ xs) (suc n) (suc k) d p = read_take xs n k d (omega arith)

pub read_drop : {A : Type 0} (xs : List A) (n k m : ℕ) (d : A) → n + k ≡ m → slice_index_or (drop n xs) k d ≡ slice_index_or xs m d
read_drop [] n k m d e = ap (λ ys. slice_index_or ys k d) (drop_all n [] (omega arith))
read_drop (x ∷ xs) zero k m d e = let f : k ≡ m = omega arith in ap (λ k. slice_index_or (x ∷ xs) k d) f
read_drop (x ∷ xs) (suc n) k zero d e = absurd (omega arith)
read_drop (x ∷ xs) (suc n) k (suc m) d e = read_drop xs n k m d (omega arith)

pub map_take : {A B : Type 0} (f : A → B) (n : ℕ) (xs : List A) → map f (take n xs) ≡ take n (map f xs)
map_take f zero [] = refl
map_take f zero (x ∷ xs) = refl
map_take f (suc n) [] = refl
map_take f (suc n) (x ∷ xs) = ap (λ ys. f x ∷ ys) (map_take f n xs)

pub map_drop : {A B : Type 0} (f : A → B) (n : ℕ) (xs : List A) → map f (drop n xs) ≡ drop n (map f xs)
map_drop f zero [] = refl
map_drop f zero (x ∷ xs) = refl
map_drop f (suc n) [] = refl
map_drop f (suc n) (x ∷ xs) = map_drop f n xs
