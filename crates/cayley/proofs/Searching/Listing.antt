-- the cells of a problem, and the sorted list of those with a decided property
use Rattle.std.proofs.Common.{◌≡◌, ◌⊎◌, ℕ, zero, suc, ◌<◌, ◌≤◌, List, [], ◌∷◌, ◌++◌, length, map, arith, refl, sym, ap, ap₂, subst, ◌∙◌, inl, inr}
use native.Mathlib.Decide.{ℕ_discrete, dec_lt}
use Rattle.cayley.specs.Problems.{Point}
use Rattle.cayley.specs.Cells.{Cell, EachPair, IsLess}

abbrev pub Has : {A : Type 0} → A → List A → Type 0
Has x [] = ⊥
Has x (y ∷ ys) = (x ≡ y) ⊎ Has x ys

pub has-left : {A : Type 0} (x : A) (xs ys : List A) → Has x xs → Has x (xs ++ ys)
has-left x [] ys h = absurd h
has-left x (y ∷ xs) ys (inl e) = inl e
has-left x (y ∷ xs) ys (inr h) = inr (has-left x xs ys h)

pub has-right : {A : Type 0} (x : A) (xs ys : List A) → Has x ys → Has x (xs ++ ys)
has-right x [] ys h = h
has-right x (y ∷ xs) ys h = inr (has-right x xs ys h)

pub has-map : {A B : Type 0} (f : A → B) (x : A) (xs : List A) → Has x xs → Has (f x) (map f xs)
has-map f x [] h = absurd h
has-map f x (y ∷ xs) (inl e) = inl (ap f e)
has-map f x (y ∷ xs) (inr h) = inr (has-map f x xs h)

below : ℕ → List ℕ
below zero = []
below (suc n) = n ∷ below n

has-below : (k n : ℕ) → k < n → Has k (below n)
unfolding below
has-below k zero h = absurd (omega arith)
has-below k (suc n) h = elim (ℕ_discrete k n) [ yes e ↦ inl e | no m ↦ inr (has-below k n (omega arith)) ]

-- the pairs (a, b) with 1 ≤ a < b ≤ n
pairs_of : ℕ → List (ℕ × ℕ)
pairs_of zero = []
pairs_of (suc n) = map (λ k. (suc k, suc n)) (below n) ++ pairs_of n

has-pair : (a b n : ℕ) → 1 ≤ a → a < b → b ≤ n → Has (a, b) (pairs_of n)
unfolding pairs_of
has-pair a b zero p q r = absurd (omega arith)
has-pair zero b (suc n) p q r = absurd (omega arith)
has-pair (suc k) b (suc n) p q r = elim (ℕ_discrete b (suc n)) [
  | yes e ↦ has-left (suc k, b) (map (λ k. (suc k, suc n)) (below n)) (pairs_of n) (subst (λ j. Has {A = ℕ × ℕ} (suc k, j) (map (λ k. (suc k, suc n)) (below n))) (sym e) (has-map (λ (k : ℕ). (suc k, suc n)) k (below n) (has-below k n (omega arith))))
  | no m ↦ has-right (suc k, b) (map (λ k. (suc k, suc n)) (below n)) (pairs_of n) (has-pair (suc k) b n p q (omega arith))
]

prefixed : List (ℕ × ℕ) → List Cell → List Cell
prefixed [] cells = []
prefixed (x ∷ xs) cells = map (λ (c : Cell). x ∷ c) cells ++ prefixed xs cells

has-prefixed : (x : ℕ × ℕ) (c : Cell) (xs : List (ℕ × ℕ)) (cells : List Cell) → Has x xs → Has c cells → Has (x ∷ c) (prefixed xs cells)
unfolding prefixed
has-prefixed x c [] cells h k = absurd h
has-prefixed x c (y ∷ xs) cells (inl e) k = has-left (x ∷ c) (map (λ (c : Cell). y ∷ c) cells) (prefixed xs cells) (subst (λ z. Has (x ∷ c) (map (λ (c : Cell). z ∷ c) cells)) e (has-map (λ (c : Cell). x ∷ c) c cells k))
has-prefixed x c (y ∷ xs) cells (inr h) k = has-right (x ∷ c) (map (λ (c : Cell). y ∷ c) cells) (prefixed xs cells) (has-prefixed x c xs cells h k)

pub all_cells : List (List Point) → List Cell
all_cells [] = [] ∷ []
all_cells (s ∷ supports) = prefixed (pairs_of (length s)) (all_cells supports)

pub has-cell : (supports : List (List Point)) (cell : Cell) → EachPair supports cell (λ s a b. (1 ≤ a) × (a < b) × (b ≤ length s)) → Has cell (all_cells supports)
unfolding all_cells
has-cell [] [] e = inl refl
has-cell [] (x ∷ cell) e = absurd e
has-cell (s ∷ supports) [] e = absurd e
has-cell (s ∷ supports) (x ∷ cell) e = has-prefixed x cell (pairs_of (length s)) (all_cells supports) (has-pair x.0 x.1 (length s) e.0.0 e.0.1 e.0.2) (has-cell supports cell e.1)

-- ---- cell order
pub less_trans : (x y z : Cell) → IsLess x y → IsLess y z → IsLess x z
less_trans x y [] p q = absurd q
less_trans x [] (c ∷ z) p q = absurd p
less_trans [] (b ∷ y) (c ∷ z) p q = tt
less_trans (a ∷ x) (b ∷ y) (c ∷ z) (inl p) (inl q) = inl (omega arith)
less_trans (a ∷ x) (b ∷ y) (c ∷ z) (inl p) (inr q) = let e = q.0 in inl (omega arith)
less_trans (a ∷ x) (b ∷ y) (c ∷ z) (inr p) (inl q) = let e = p.0 in inl (omega arith)
less_trans (a ∷ x) (b ∷ y) (c ∷ z) (inr p) (inr q) = inr (p.0 ∙ q.0, later a.1 b.1 c.1 (IsLess x y) (IsLess y z) (IsLess x z) (less_trans x y z) p.1 q.1)
  where
    later : (i j k : ℕ) (P Q R : Type 0) → (P → Q → R) → (i < j) ⊎ ((i ≡ j) × P) → (j < k) ⊎ ((j ≡ k) × Q) → (i < k) ⊎ ((i ≡ k) × R)
    later i j k P Q R f (inl p) (inl q) = inl (omega arith)
    later i j k P Q R f (inl p) (inr q) = let e = q.0 in inl (omega arith)
    later i j k P Q R f (inr p) (inl q) = let e = p.0 in inl (omega arith)
    later i j k P Q R f (inr p) (inr q) = inr (p.0 ∙ q.0, f p.1 q.1)

pub three_ways : {P : Type 0} (m n : ℕ) → (m < n → P) → (m ≡ n → P) → (n < m → P) → P
three_ways m n f g h = elim (dec_lt m n) [ yes p ↦ f p | no q ↦ elim (ℕ_discrete m n) [ yes e ↦ g e | no r ↦ h (omega arith) ] ]

pub compare_cells : (x y : Cell) → IsLess x y ⊎ ((x ≡ y) ⊎ IsLess y x)
compare_cells [] [] = inr (inl refl)
compare_cells [] (b ∷ y) = inl tt
compare_cells (a ∷ x) [] = inr (inr tt)
compare_cells (a ∷ x) (b ∷ y) =
    three_ways a.0 b.0 (λ p. inl (inl p))
    (λ e. three_ways a.1 b.1 (λ p. inl (inr (e, inl p)))
    (λ f. elim (compare_cells x y) [
      | inl p ↦ inl (inr (e, inr (f, p)))
      | inr q ↦ elim q [
        | inl g ↦ inr (inl (ap₂ (λ (z : ℕ × ℕ) (l : Cell). z ∷ l) (ap₂ (λ (i j : ℕ). (i, j)) e f) g))
        | inr r ↦ inr (inr (inr (sym e, inr (sym f, r))))
      ]
    ])
    (λ p. inr (inr (inr (sym e, inl p)))))
    (λ p. inr (inr (inl p)))

-- ---- sorted lists
abbrev pub Sorted : List Cell → Type 0
Sorted [] = Unit {0}
Sorted (x ∷ xs) = ((c : Cell) → Has c xs → IsLess x c) × Sorted xs

pub record Inserted (x : Cell) (xs : List Cell) : Type 0 where
  pub list : List Cell
  pub sorted : Sorted list
  pub to : (c : Cell) → Has c list → (c ≡ x) ⊎ Has c xs
  pub from : (c : Cell) → (c ≡ x) ⊎ Has c xs → Has c list

pub insert : (x : Cell) (xs : List Cell) → Sorted xs → Inserted x xs
insert x [] s = record { list = x ∷ []; sorted = ((λ c h. absurd h), tt); to = λ c h. h; from = λ c h. h }
insert x (y ∷ ys) s = elim (compare_cells x y) [
  | inl p ↦ record {
    list = x ∷ y ∷ ys;
    sorted = ((λ c h. elim h [ inl e ↦ subst (λ z. IsLess x z) (sym e) p | inr k ↦ less_trans x y c p (s.0 c k) ]), s);
    to = λ c h. h;
    from = λ c h. h;
  }
  | inr q ↦ elim q [
    | inl e ↦ record {
      list = y ∷ ys;
      sorted = s;
      to = λ c h. inr h;
      from = λ c h. elim h [ inl f ↦ inl (f ∙ e) | inr k ↦ k ];
    }
    | inr r ↦
        let i = insert x ys s.1 in
        record {
          list = y ∷ i.list;
          sorted = ((λ c h. elim (i.to c h) [ inl e ↦ subst (λ z. IsLess y z) (sym e) r | inr k ↦ s.0 c k ]), i.sorted);
          to = λ c h. elim h [ inl e ↦ inr (inl e) | inr k ↦ elim (i.to c k) [ inl e ↦ inl e | inr m ↦ inr (inr m) ] ];
          from = λ c h. elim h [ inl e ↦ inr (i.from c (inl e)) | inr k ↦ elim k [ inl e ↦ inl e | inr m ↦ inr (i.from c (inr m)) ] ];
        }
  ]
]

pub record Listed (P : Cell → Type 0) (cells : List Cell) : Type 0 where
  pub list : List Cell
  pub sorted : Sorted list
  pub to : (c : Cell) → Has c list → P c
  pub from : (c : Cell) → Has c cells → P c → Has c list

-- the sorted list of the cells of a list that have a decided property
pub listed : (P : Cell → Type 0) → ((c : Cell) → Dec (P c)) → (cells : List Cell) → Listed P cells
listed P dec [] = record { list = []; sorted = tt; to = λ c h. absurd h; from = λ c h p. absurd h }
listed P dec (x ∷ xs) =
    let r = listed P dec xs in
    elim (dec x) [
      | yes p ↦
          let i = insert x r.list r.sorted in
          record {
            list = i.list;
            sorted = i.sorted;
            to = λ c h. elim (i.to c h) [ inl e ↦ subst P (sym e) p | inr k ↦ r.to c k ];
            from = λ c h q. i.from c (elim h [ inl e ↦ inl e | inr k ↦ inr (r.from c k q) ]);
          }
      | no n ↦ record { list = r.list; sorted = r.sorted; to = r.to; from = λ c h q. elim h [ inl e ↦ absurd (n (subst P e q)) | inr k ↦ r.from c k q ] }
    ]
