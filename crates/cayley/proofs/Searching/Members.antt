-- members of lists: lists without repetition and with the same members are permutations of each other
use Rattle.std.proofs.Common.{◌≡◌, ◌≢◌, ◌⊎◌, ℕ, zero, suc, ◌<◌, List, [], ◌∷◌, ◌++◌, length, map, arith, refl, sym, ap, subst, inl, inr}
use Rattle.std.specs.Prelude.{Contains, IsPermutation, slice_index_or, flat_map}
use Rattle.std.proofs.lemmas.List.Sorted.{IsPermutation-refl, IsPermutation-sym, IsPermutation-trans, IsPermutation-cons, IsPermutation-middle}
use Rattle.cayley.proofs.Searching.Listing.{Has, Sorted, less_trans, has-left, has-right, has-map}
use Rattle.cayley.proofs.Searching.Parents.{less_irrefl}
use Rattle.cayley.specs.Cells.{Cell, IsLess, IsSorted}

-- ---- by index or by recursion
pub has_contains : {A : Type 0} (xs : List A) (x : A) → Has x xs → Contains xs x
has_contains [] x h = absurd h
has_contains (y ∷ xs) x (inl e) = (0, omega arith, sym e)
has_contains (y ∷ xs) x (inr h) = let c = has_contains xs x h in (suc c.0, omega (arith, c.1), c.2)

pub contains_has : {A : Type 0} (xs : List A) (x : A) → Contains xs x → Has x xs
contains_has xs x c = from xs x c.0 c.1 c.2
  where
    from : {A : Type 0} (xs : List A) (x : A) (k : ℕ) → k < length xs → slice_index_or xs k x ≡ x → Has x xs
    from [] x k l e = absurd (omega arith)
    from (y ∷ xs) x zero l e = inl (sym e)
    from (y ∷ xs) x (suc k) l e = inr (from xs x k (omega arith) e)

pub sorted_from : (xs : List Cell) → IsSorted xs → Sorted xs
sorted_from [] s = tt
sorted_from (x ∷ []) s = ((λ c h. absurd h), tt)
sorted_from (x ∷ y ∷ xs) s =
    let r = sorted_from (y ∷ xs) s.1 in
    ((λ c h. elim h [ inl e ↦ subst (λ z. IsLess x z) (sym e) s.0 | inr k ↦ less_trans x y c s.0 (r.0 c k) ]), r)

pub sorted_to : (xs : List Cell) → Sorted xs → IsSorted xs
sorted_to [] s = tt
sorted_to (x ∷ []) s = tt
sorted_to (x ∷ y ∷ xs) s = (s.0 y (inl refl), sorted_to (y ∷ xs) s.1)

-- ---- members of joined lists
pub has_either : {A : Type 0} (x : A) (xs ys : List A) → Has x (xs ++ ys) → Has x xs ⊎ Has x ys
has_either x [] ys h = inr h
has_either x (y ∷ xs) ys (inl e) = inl (inl e)
has_either x (y ∷ xs) ys (inr h) = elim (has_either x xs ys h) [ inl k ↦ inl (inr k) | inr k ↦ inr k ]

pub has_flat : {A B : Type 0} (f : A → List B) (x : A) (c : B) (xs : List A) → Has x xs → Has c (f x) → Has c (flat_map f xs)
has_flat f x c [] h k = absurd h
has_flat f x c (y ∷ xs) (inl e) k = has-left c (f y) (flat_map f xs) (subst (λ z. Has c (f z)) e k)
has_flat f x c (y ∷ xs) (inr h) k = has-right c (f y) (flat_map f xs) (has_flat f x c xs h k)

pub flat_has : {A B : Type 0} (f : A → List B) (c : B) (xs : List A) → Has c (flat_map f xs) → (x : A) × Has x xs × Has c (f x)
flat_has f c [] h = absurd h
flat_has f c (y ∷ xs) h = elim (has_either c (f y) (flat_map f xs) h) [
  | inl k ↦ (y, inl refl, k)
  | inr k ↦ let r = flat_has f c xs k in (r.0, inr r.1, r.2)
]

pub map_has : {A B : Type 0} (f : A → B) (c : B) (xs : List A) → Has c (map f xs) → (x : A) × Has x xs × (c ≡ f x)
map_has f c [] h = absurd h
map_has f c (y ∷ xs) (inl e) = (y, inl refl, e)
map_has f c (y ∷ xs) (inr h) = let r = map_has f c xs h in (r.0, inr r.1, r.2)

-- ---- without repetition
abbrev pub Distinct : {A : Type 0} → List A → Type 0
Distinct [] = Unit {0}
Distinct (x ∷ xs) = ¬ (Has x xs) × Distinct xs

pub sorted_distinct : (xs : List Cell) → Sorted xs → Distinct xs
sorted_distinct [] s = tt
sorted_distinct (x ∷ xs) s = ((λ h. less_irrefl x (s.0 x h)), sorted_distinct xs s.1)

pub distinct_append : {A : Type 0} (xs ys : List A) → Distinct xs → Distinct ys → ((c : A) → Has c xs → ¬ (Has c ys)) → Distinct (xs ++ ys)
distinct_append [] ys d e apart = e
distinct_append (x ∷ xs) ys d e apart = (
  (λ h. elim (has_either x xs ys h) [ inl k ↦ d.0 k | inr k ↦ apart x (inl refl) k ]),
  distinct_append xs ys d.1 e (λ c h k. apart c (inr h) k),
)

pub distinct_flat : {A B K : Type 0} (f : A → List B) (key : A → K) (xs : List A) → Distinct (map key xs) → ((x : A) → Has x xs → Distinct (f x))
    → ((x y : A) → Has x xs → Has y xs → key x ≢ key y → (c : B) → Has c (f x) → ¬ (Has c (f y))) → Distinct (flat_map f xs)
distinct_flat f key [] d each apart = tt
distinct_flat f key (x ∷ xs) d each apart =
    distinct_append (f x) (flat_map f xs) (each x (inl refl)) (distinct_flat f key xs d.1 (λ y h. each y (inr h)) (λ y z h k. apart y z (inr h) (inr k)))
    (λ c h k.
    let r = flat_has f c xs k in
    apart x r.0 (inl refl) (inr r.1) (λ e. d.0 (subst (λ z. Has z (map key xs)) (sym e) (has-map key r.0 xs r.1))) c h r.2)

pub record Split {A : Type 0} (x : A) (xs : List A) : Type 0 where
  pub left : List A
  pub right : List A
  pub is : xs ≡ left ++ x ∷ right

pub split : {A : Type 0} (x : A) (xs : List A) → Has x xs → Split x xs
split x [] h = absurd h
split x (y ∷ xs) (inl e) = record { left = []; right = xs; is = ap (λ z. z ∷ xs) (sym e) }
split x (y ∷ xs) (inr h) = let s = split x xs h in record { left = y ∷ s.left; right = s.right; is = ap (λ l. y ∷ l) s.is }

has_over : {A : Type 0} (c x : A) (us vs : List A) → Has c (us ++ vs) → Has c (us ++ x ∷ vs)
has_over c x us vs h = elim (has_either c us vs h) [ inl k ↦ has-left c us (x ∷ vs) k | inr k ↦ has-right c us (x ∷ vs) (inr k) ]

has_under : {A : Type 0} (c x : A) (us vs : List A) → c ≢ x → Has c (us ++ x ∷ vs) → Has c (us ++ vs)
has_under c x us vs n h = elim (has_either c us (x ∷ vs) h) [
  | inl k ↦ has-left c us vs k
  | inr k ↦ elim k [ inl e ↦ absurd (n e) | inr m ↦ has-right c us vs m ]
]

distinct_less : {A : Type 0} (x : A) (us vs : List A) → Distinct (us ++ x ∷ vs) → ¬ (Has x (us ++ vs)) × Distinct (us ++ vs)
distinct_less x [] vs d = d
distinct_less x (u ∷ us) vs d =
    let r = distinct_less x us vs d.1 in (
      (λ h. elim h [ inl e ↦ d.0 (subst (λ z. Has z (us ++ x ∷ vs)) e (has-right x us (x ∷ vs) (inl refl))) | inr k ↦ r.0 k ]),
      ((λ h. d.0 (has_over u x us vs h)), r.1),
    )

pub same_members : {A : Type 0} (xs ys : List A) → Distinct xs → Distinct ys → ((c : A) → Has c xs → Has c ys) → ((c : A) → Has c ys → Has c xs) → IsPermutation xs ys
same_members [] [] d e to back = IsPermutation-refl []
same_members [] (y ∷ ys) d e to back = absurd (back y (inl refl))
same_members (x ∷ xs) ys d e to back =
    let s = split x ys (to x (inl refl)) in
    let l = distinct_less x s.left s.right (subst Distinct s.is e) in
    let r = same_members xs (s.left ++ s.right) d.1 l.1
    (λ c h. has_under c x s.left s.right (λ q. d.0 (subst (λ z. Has z xs) q h)) (subst (λ k. Has c k) s.is (to c (inr h))))
    (λ c h. elim (back c (subst (λ k. Has c k) (sym s.is) (has_over c x s.left s.right h))) [
      | inl q ↦ absurd (l.0 (subst (λ z. Has z (s.left ++ s.right)) q h))
      | inr k ↦ k
    ]) in
    subst (λ k. IsPermutation (x ∷ xs) k) (sym s.is)
    (IsPermutation-trans (x ∷ xs) (x ∷ (s.left ++ s.right)) (s.left ++ x ∷ s.right) (IsPermutation-cons x xs (s.left ++ s.right) r) (IsPermutation-sym (s.left ++ x ∷ s.right) (x ∷ (s.left ++ s.right)) (IsPermutation-middle s.left x s.right)))
