-- dependencies, their signs and exchanges, over rows of whole numbers
use Rattle.std.proofs.Common.{◌≡◌, ◌≢◌, ℕ, zero, suc, List, [], ◌∷◌, ◌++◌, length, arith, refl, sym, ap, ap₂, ◌∙◌, inl, inr}
use Rattle.std.proofs.lemmas.Int.{ints}
use Rattle.std.proofs.Math.IntN.{ℤ, pos, ◌+ℤ◌, ◌*ℤ◌, neg_ℤ, *ℤ-zero}
use Rattle.wide_int.proofs.Ring.{as_D, Ds, same_D}
use Rattle.wide_int.proofs.Order.{zero_product}
use Rattle.int_vectors.proofs.Weighing.{weigh-append, weigh-scale, weigh-add}
use Rattle.cayley.proofs.Algebra.Kernel.{Kills, Independent, Solves, solve}
use Rattle.int_vectors.specs.Vectors.{weigh, IsZero, Each, dot, at, at_place, add, scale}
use Rattle.int_vectors.proofs.Entries.{zero_from}
use Rattle.int_vectors.proofs.Each.{each_append}

-- numbers b at the rows and g at d: the combination is the zero vector
abbrev pub IsDependency : ℕ → List (List ℤ) → List ℤ → List ℤ → ℤ → Type 0
IsDependency n rows d bs g = (y : List ℤ) → length y ≡ n → weigh bs rows (λ r. dot r y) +ℤ g *ℤ dot d y ≡ pos 0

weigh-killed : (cs : List ℤ) (rows : List (List ℤ)) (y : List ℤ) → Kills rows y → weigh cs rows (λ r. dot r y) ≡ pos 0
weigh-killed [] rows y k = refl
weigh-killed (c ∷ cs) [] y k = refl
weigh-killed (c ∷ cs) (r ∷ rows) y k = rw (k.0, weigh-killed cs rows y k.1) (omega (arith, ints))

pub each-left : {A : Type 0} (P : A → Type 0) (xs ys : List A) → Each (xs ++ ys) P → Each xs P
each-left P [] ys e = tt
each-left P (x ∷ xs) ys e = (e.0, each-left P xs ys e.1)

pub each-right : {A : Type 0} (P : A → Type 0) (xs ys : List A) → Each (xs ++ ys) P → Each ys P
each-right P [] ys e = e
each-right P (x ∷ xs) ys e = each-right P xs ys e.1

module _ (n : ℕ) (before after : List (List ℤ)) (r d : List ℤ) (ca cb : List ℤ) (b g : ℤ) (long : length ca ≡ length before)
    (dep : IsDependency n (before ++ r ∷ after) d (ca ++ b ∷ cb) g) where
  dep_at : (y : List ℤ) → length y ≡ n → Kills before y → Kills after y → b *ℤ dot r y +ℤ g *ℤ dot d y ≡ pos 0
  dep_at y ly p q =
      let e = dep y ly in
      let w = weigh-append ca (b ∷ cb) before (r ∷ after) (λ x. dot x y) long in
      let u = weigh-killed ca before y p in
      let v = weigh-killed cb after y q in
      omega (arith, ints, e, w, u, v)

  pub exchange : b ≢ pos 0 → Independent n (before ++ r ∷ after) → Independent n (before ++ d ∷ after)
  exchange some ind y l k =
      let p = each-left (λ x. dot x y ≡ pos 0) before (d ∷ after) k in
      let q = each-right (λ x. dot x y ≡ pos 0) before (d ∷ after) k in
      let e = dep_at y l p q.1 in
      let dz : g *ℤ dot d y ≡ pos 0 = rw q.0 (*ℤ-zero g) in
      let z : b *ℤ dot r y ≡ pos 0 = omega (arith, ints, e, dz) in
      let rz : dot r y ≡ pos 0 = elim (zero_product b (dot r y) z) [ inl h ↦ absurd (some h) | inr h ↦ h ] in
      ind y l (each_append (λ x. dot x y ≡ pos 0) before (r ∷ after) p (rz, q.1))

  pub exchange_back : g ≢ pos 0 → length (before ++ d ∷ after) ≡ n → Independent n (before ++ d ∷ after) → b ≢ pos 0
  exchange_back some e ind none =
      let s = solve n (before ++ d ∷ after) (unit before) e ind in
      let k = from_unit before s.k s.v s.solves in
      let f = dep_at s.v s.long k.0 k.2 in
      let z : b *ℤ dot r s.v ≡ pos 0 = rw none (omega (arith, ints)) in
      let h : g *ℤ dot d s.v ≡ pos 0 = omega (arith, ints, f, z) in
      elim (zero_product g (dot d s.v) h) [ inl i ↦ some i | inr i ↦ s.apart (let j = k.1 in omega (arith, ints, i, j)) ]
    where
      unit : List (List ℤ) → List ℤ
      unit [] = pos 1 ∷ []
      unit (x ∷ xs) = pos 0 ∷ unit xs

      rest : (rows : List (List ℤ)) (k : ℤ) (v : List ℤ) → Solves rows [] k v → Kills rows v
      rest [] k v s = tt
      rest (x ∷ xs) k v s = (s.0, rest xs k v s.1)

      from_unit : (xs : List (List ℤ)) (k : ℤ) (v : List ℤ) → Solves (xs ++ d ∷ after) (unit xs) k v → Kills xs v × (dot d v ≡ k) × Kills after v
      from_unit [] k v s = (tt, s.0 ∙ (omega (arith, ints)), rest after k v s.1)
      from_unit (x ∷ xs) k v s = let t = from_unit xs k v s.1 in ((s.0 ∙ *ℤ-zero k, t.0), t.1, t.2)

pub weigh-solves : (bs : List ℤ) (rows : List (List ℤ)) (t : List ℤ) (k : ℤ) (v : List ℤ) → length bs ≡ length rows → Solves rows t k v
    → weigh bs rows (λ r. dot r v) ≡ k *ℤ dot bs t
weigh-solves [] [] t k v l s = sym (*ℤ-zero k)
weigh-solves [] (r ∷ rows) t k v l s = absurd (omega arith)
weigh-solves (b ∷ bs) [] t k v l s = absurd (omega arith)
weigh-solves (b ∷ bs) (r ∷ rows) [] k v l s =
    rw (s.0, weigh-solves bs rows [] k v (omega arith) s.1) (nothing b k bs)
  where
    nothing : (b k : ℤ) (bs : List ℤ) → b *ℤ pos 0 +ℤ k *ℤ dot bs [] ≡ k *ℤ pos 0
    nothing b k [] = omega (arith, ints)
    nothing b k (x ∷ bs) = omega (arith, ints)
weigh-solves (b ∷ bs) (r ∷ rows) (t ∷ ts) k v l s =
    rw (s.0, weigh-solves bs rows ts k v (omega arith) s.1) (step b k t (dot bs ts))
  where
    step : (b k t s : ℤ) → b *ℤ (k *ℤ t) +ℤ k *ℤ s ≡ k *ℤ (b *ℤ t +ℤ s)
    step b k t s = rw (as_D b, as_D k, as_D t, as_D s) (simp Ds (same_D _ _ _ _ (omega arith)))

pub dot-place : (bs : List ℤ) (k : ℕ) → dot bs (at_place k (pos 1)) ≡ at bs k
dot-place [] k = refl
dot-place (b ∷ bs) zero = nothing b bs
  where
    nothing : (b : ℤ) (bs : List ℤ) → b *ℤ pos 1 +ℤ dot bs [] ≡ b
    nothing b [] = omega (arith, ints)
    nothing b (x ∷ bs) = omega (arith, ints)
dot-place (b ∷ bs) (suc k) = rw (dot-place bs k) (omega (arith, ints))

-- a combination of independent rows that is the zero vector has coefficients zero
pub rows_apart : (n : ℕ) (rows : List (List ℤ)) (bs : List ℤ) → length rows ≡ n → length bs ≡ n → Independent n rows
    → ((y : List ℤ) → length y ≡ n → weigh bs rows (λ r. dot r y) ≡ pos 0) → IsZero bs
rows_apart n rows bs er eb ind z = zero_from bs (λ k.
    let s = solve n rows (at_place k (pos 1)) er ind in
    let e : s.k *ℤ at bs k ≡ pos 0 = ap (λ x. s.k *ℤ x) (sym (dot-place bs k)) ∙ sym (weigh-solves bs rows (at_place k (pos 1)) s.k s.v (eb ∙ sym er) s.solves) ∙ z s.v s.long in
    elim (zero_product s.k (at bs k) e) [ inl h ↦ absurd (s.apart h) | inr h ↦ h ])

-- any two dependencies of one further point are multiples
pub multiple : (n : ℕ) (rows : List (List ℤ)) (d bs cs : List ℤ) (g h : ℤ) → length rows ≡ n → length bs ≡ n → length cs ≡ n → Independent n rows
    → IsDependency n rows d bs g → IsDependency n rows d cs h → IsZero (add (scale h bs) (scale (neg_ℤ g) cs))
multiple n rows d bs cs g h er eb ec ind p q =
    rows_apart n rows (add (scale h bs) (scale (neg_ℤ g) cs)) er (same_long (scale h bs) (scale (neg_ℤ g) cs) n (length-scale h bs ∙ eb) (length-scale (neg_ℤ g) cs ∙ ec)) ind
    (λ y l. weigh-add (scale h bs) (scale (neg_ℤ g) cs) rows (λ r. dot r y)
    ∙ ap₂ ◌+ℤ◌ (weigh-scale h bs rows (λ r. dot r y)) (weigh-scale (neg_ℤ g) cs rows (λ r. dot r y))
    ∙ step h g (weigh bs rows (λ r. dot r y)) (weigh cs rows (λ r. dot r y)) (dot d y) (p y l) (q y l))
  where
    length-scale : (k : ℤ) (cs : List ℤ) → length (scale k cs) ≡ length cs
    length-scale k [] = refl
    length-scale k (c ∷ cs) = ap suc (length-scale k cs)

    same_long : (a b : List ℤ) (n : ℕ) → length a ≡ n → length b ≡ n → length (add a b) ≡ n
    same_long [] b n p q = q
    same_long (x ∷ a) [] n p q = p
    same_long (x ∷ a) (y ∷ b) zero p q = absurd (omega arith)
    same_long (x ∷ a) (y ∷ b) (suc n) p q = ap suc (same_long a b n (omega arith) (omega arith))

    ring : (h g s t x : ℤ) → h *ℤ s +ℤ neg_ℤ g *ℤ t ≡ h *ℤ (s +ℤ g *ℤ x) +ℤ neg_ℤ g *ℤ (t +ℤ h *ℤ x)
    ring h g s t x = rw (as_D h, as_D g, as_D s, as_D t, as_D x) (simp Ds (same_D _ _ _ _ (omega arith)))

    step : (h g s t x : ℤ) → s +ℤ g *ℤ x ≡ pos 0 → t +ℤ h *ℤ x ≡ pos 0 → h *ℤ s +ℤ neg_ℤ g *ℤ t ≡ pos 0
    step h g s t x a b = ring h g s t x ∙ rw (a, b) (rw (*ℤ-zero h, *ℤ-zero (neg_ℤ g)) refl)
