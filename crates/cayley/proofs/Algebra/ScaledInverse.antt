-- the scaled inverse of an independent square system: E X = g I and X E = g I
use Rattle.std.proofs.Common.{◌≡◌, ◌≢◌, ℕ, zero, suc, ◌≤◌, List, [], ◌∷◌, length, map, arith, refl, sym, ap, ap₂, subst, ◌∙◌, inl, inr}
use Rattle.std.proofs.lemmas.Int.{ints}
use Rattle.std.proofs.Math.IntN.{ℤ, pos, ◌+ℤ◌, ◌*ℤ◌, neg_ℤ, *ℤ_comm, +ℤ_idl, +ℤ_idr, *ℤ-zero}
use Rattle.wide_int.proofs.Ring.{as_D, Ds, same_D, D-pos, mul_assoc_ℤ, neg_mul_ℤ}
use Rattle.wide_int.proofs.Order.{zero_product}
use Rattle.cayley.proofs.Algebra.Kernel.{weigh_map, weigh_nothing, Kills, Independent, Solves, solve}
use Rattle.int_vectors.specs.Vectors.{weigh, IsZero, scale, Each, dot, at, add, comb}
use Rattle.int_vectors.proofs.Entries.{length-scale, at-scale, at-add}

pub dot-nil : (r : List ℤ) → dot r [] ≡ pos 0
dot-nil [] = refl
dot-nil (x ∷ r) = refl

pub dot-add : (r u v : List ℤ) → dot r (add u v) ≡ dot r u +ℤ dot r v
dot-add r [] v = sym (ap (λ x. x +ℤ dot r v) (dot-nil r) ∙ +ℤ_idl (dot r v))
dot-add [] (x ∷ u) [] = refl
dot-add [] (x ∷ u) (y ∷ v) = refl
dot-add (z ∷ r) (x ∷ u) [] = sym (+ℤ_idr _)
dot-add (z ∷ r) (x ∷ u) (y ∷ v) = rw (dot-add r u v) (step z x y (dot r u) (dot r v))
  where
    step : (z x y s t : ℤ) → z *ℤ (x +ℤ y) +ℤ (s +ℤ t) ≡ z *ℤ x +ℤ s +ℤ (z *ℤ y +ℤ t)
    step z x y s t = rw (as_D z, as_D x, as_D y, as_D s, as_D t) (simp Ds (same_D _ _ _ _ (omega arith)))

pub dot-scale : (r : List ℤ) (k : ℤ) (v : List ℤ) → dot r (scale k v) ≡ k *ℤ dot r v
dot-scale r k [] = rw (dot-nil r) (sym (*ℤ-zero k))
dot-scale [] k (x ∷ v) = sym (*ℤ-zero k)
dot-scale (z ∷ r) k (x ∷ v) = rw (dot-scale r k v) (step z k x (dot r v))
  where
    step : (z k x s : ℤ) → z *ℤ (k *ℤ x) +ℤ k *ℤ s ≡ k *ℤ (z *ℤ x +ℤ s)
    step z k x s = rw (as_D z, as_D k, as_D x, as_D s) (simp Ds (same_D _ _ _ _ (omega arith)))

pub dot-comb : (r cs : List ℤ) (xs : List (List ℤ)) → dot r (comb cs xs) ≡ weigh cs xs (dot r)
dot-comb r [] xs = dot-nil r
dot-comb r (c ∷ cs) [] = dot-nil r
dot-comb r (c ∷ cs) (x ∷ xs) = dot-add r (scale c x) (comb cs xs) ∙ ap₂ ◌+ℤ◌ (dot-scale r c x) (dot-comb r cs xs)

pub dot-zero : (r v : List ℤ) → IsZero v → dot r v ≡ pos 0
dot-zero r [] z = dot-nil r
dot-zero [] (x ∷ v) z = refl
dot-zero (y ∷ r) (x ∷ v) z = rw (z.0, dot-zero r v z.1) (omega (arith, ints))

-- E as a function
abbrev pub apply : List (List ℤ) → List ℤ → List ℤ
apply [] v = []
apply (r ∷ rows) v = dot r v ∷ apply rows v

abbrev pub Same : List ℤ → List ℤ → Type 0
Same u v = (k : ℕ) → at u k ≡ at v k

unfoldable pub solves_all : List (List ℤ) → List (List ℤ) → ℤ → List (List ℤ) → Type 0
solves_all rows [] g [] = Unit {0}
solves_all rows [] g (x ∷ xs) = ⊥
solves_all rows (t ∷ ts) g [] = ⊥
solves_all rows (t ∷ ts) g (x ∷ xs) = Solves rows t g x × solves_all rows ts g xs

pub solves-scale : (rows : List (List ℤ)) (b v : List ℤ) (k m : ℤ) → Solves rows b k v → Solves rows b (m *ℤ k) (scale m v)
solves-scale [] b v k m s = tt
solves-scale (r ∷ rows) [] v k m s = (dot-scale r m v ∙ rw s.0 (*ℤ-zero m), solves-scale rows [] v k m s.1)
solves-scale (r ∷ rows) (b ∷ bs) v k m s = (dot-scale r m v ∙ rw s.0 (sym (mul_assoc_ℤ m k b)), solves-scale rows bs v k m s.1)

pub solves_all-scale : (rows ts : List (List ℤ)) (g m : ℤ) (xs : List (List ℤ)) → solves_all rows ts g xs → solves_all rows ts (m *ℤ g) (map (scale m) xs)
unfolding solves_all
solves_all-scale rows [] g m [] s = tt
solves_all-scale rows [] g m (x ∷ xs) s = s
solves_all-scale rows (t ∷ ts) g m [] s = s
solves_all-scale rows (t ∷ ts) g m (x ∷ xs) s = (solves-scale rows t x g m s.0, solves_all-scale rows ts g m xs s.1)

pub each_long-scale : (n : ℕ) (m : ℤ) (xs : List (List ℤ)) → Each xs (λ x. length x ≡ n) → Each (map (scale m) xs) (λ x. length x ≡ n)
each_long-scale n m [] e = tt
each_long-scale n m (x ∷ xs) e = (length-scale m x ∙ e.0, each_long-scale n m xs e.1)

pub record All_solved (n : ℕ) (rows ts : List (List ℤ)) : Type 0 where
  pub g : ℤ
  pub apart : g ≢ pos 0
  pub xs : List (List ℤ)
  pub long : Each xs (λ x. length x ≡ n)
  pub solved : solves_all rows ts g xs

pub product_apart : (a b : ℤ) → a ≢ pos 0 → b ≢ pos 0 → a *ℤ b ≢ pos 0
product_apart a b p q e = elim (zero_product a b e) [ inl h ↦ p h | inr h ↦ q h ]

solve_each : (n : ℕ) (rows ts : List (List ℤ)) → length rows ≡ n → Independent n rows → All_solved n rows ts
unfolding solves_all
solve_each n rows [] e ind = record { g = pos 1; apart = λ h. one_apart h; xs = []; long = tt; solved = tt }
  where
    one_apart : pos 1 ≢ pos 0
    one_apart h = cc
solve_each n rows (t ∷ ts) e ind =
    let one = solve n rows t e ind in
    let rest = solve_each n rows ts e ind in
    record {
      g = one.k *ℤ rest.g;
      apart = product_apart one.k rest.g one.apart rest.apart;
      xs = scale rest.g one.v ∷ map (scale one.k) rest.xs;
      long = (length-scale rest.g one.v ∙ one.long, each_long-scale n one.k rest.xs rest.long);
      solved = (subst (λ k. Solves rows t k (scale rest.g one.v)) (*ℤ_comm rest.g one.k) (solves-scale rows t one.v one.k rest.g one.solves), solves_all-scale rows ts rest.g one.k rest.xs rest.solved);
    }

-- the unit vectors, without the zeros at their ends
unfoldable pub units : ℕ → List (List ℤ)
units zero = []
units (suc n) = (pos 1 ∷ []) ∷ map (λ u. pos 0 ∷ u) (units n)

pub weigh-units : (n : ℕ) (ys : List ℤ) (i : ℕ) → length ys ≡ n → weigh ys (units n) (λ u. at u i) ≡ at ys i
unfolding units
weigh-units n [] i e = refl
weigh-units zero (y ∷ ys) i e = absurd (omega arith)
weigh-units (suc n) (y ∷ ys) zero e = ap (λ s. y *ℤ pos 1 +ℤ s) (weigh_map ys (λ u. pos 0 ∷ u) (units n) (λ u. at u 0) ∙ weigh_nothing ys (units n)) ∙ omega (arith, ints)
weigh-units (suc n) (y ∷ ys) (suc i) e = ap (λ s. y *ℤ pos 0 +ℤ s) (weigh_map ys (λ u. pos 0 ∷ u) (units n) (λ u. at u (suc i)) ∙ weigh-units n ys i (omega arith)) ∙ omega (arith, ints)

pub at-comb : (cs : List ℤ) (xs : List (List ℤ)) (i : ℕ) → at (comb cs xs) i ≡ weigh cs xs (λ x. at x i)
at-comb [] xs i = refl
at-comb (c ∷ cs) [] i = refl
at-comb (c ∷ cs) (x ∷ xs) i = at-add (scale c x) (comb cs xs) i ∙ ap₂ ◌+ℤ◌ (at-scale c x i) (at-comb cs xs i)

pub solves-same : (rows : List (List ℤ)) (b c : List ℤ) (k : ℤ) (v : List ℤ) → Same b c → Solves rows b k v → Solves rows c k v
solves-same [] b c k v s h = tt
solves-same (r ∷ rows) [] [] k v s h = h
solves-same (r ∷ rows) [] (y ∷ c) k v s h = (h.0 ∙ sym (ap (λ z. k *ℤ z) (sym (s 0)) ∙ *ℤ-zero k), solves-same rows [] c k v (λ i. s (suc i)) h.1)
solves-same (r ∷ rows) (x ∷ b) [] k v s h = (h.0 ∙ ap (λ z. k *ℤ z) (s 0) ∙ *ℤ-zero k, solves-same rows b [] k v (λ i. s (suc i)) h.1)
solves-same (r ∷ rows) (x ∷ b) (y ∷ c) k v s h = (h.0 ∙ ap (λ z. k *ℤ z) (s 0), solves-same rows b c k v (λ i. s (suc i)) h.1)

solves-nil : (rows : List (List ℤ)) (k : ℤ) → Solves rows [] k []
solves-nil [] k = tt
solves-nil (r ∷ rows) k = (dot-nil r, solves-nil rows k)

add-nil : (u : List ℤ) → add u [] ≡ u
add-nil [] = refl
add-nil (x ∷ u) = refl

-- c (E x = g t) + (E w = g s)
solves-add : (rows : List (List ℤ)) (t s : List ℤ) (g c : ℤ) (x w : List ℤ) → Solves rows t g x → Solves rows s g w → Solves rows (add (scale c t) s) g (add (scale c x) w)
solves-add [] t s g c x w p q = tt
solves-add (r ∷ rows) [] [] g c x w p q = (dot-add r (scale c x) w ∙ rw (dot-scale r c x, p.0, q.0) (omega (arith, ints)), solves-add rows [] [] g c x w p.1 q.1)
solves-add (r ∷ rows) [] (s ∷ ss) g c x w p q = (dot-add r (scale c x) w ∙ rw (dot-scale r c x, p.0, q.0) (omega (arith, ints)), solves-add rows [] ss g c x w p.1 q.1)
solves-add (r ∷ rows) (t ∷ ts) [] g c x w p q = (dot-add r (scale c x) w ∙ rw (dot-scale r c x, p.0, q.0) (step g c t), rw add-nil at (solves-add rows ts [] g c x w p.1 q.1))
  where
    step : (g c t : ℤ) → c *ℤ (g *ℤ t) +ℤ pos 0 ≡ g *ℤ (c *ℤ t)
    step g c t = rw (as_D g, as_D c, as_D t, D-pos 0) (simp Ds (same_D _ _ _ _ (omega arith)))
solves-add (r ∷ rows) (t ∷ ts) (s ∷ ss) g c x w p q = (dot-add r (scale c x) w ∙ rw (dot-scale r c x, p.0, q.0) (step g c t s), solves-add rows ts ss g c x w p.1 q.1)
  where
    step : (g c t s : ℤ) → c *ℤ (g *ℤ t) +ℤ g *ℤ s ≡ g *ℤ (c *ℤ t +ℤ s)
    step g c t s = rw (as_D g, as_D c, as_D t, as_D s) (simp Ds (same_D _ _ _ _ (omega arith)))

pub solves-comb : (rows ts : List (List ℤ)) (g : ℤ) (xs : List (List ℤ)) (ys : List ℤ) → solves_all rows ts g xs → Solves rows (comb ys ts) g (comb ys xs)
unfolding solves_all
solves-comb rows ts g xs [] s = solves-nil rows g
solves-comb rows [] g [] (y ∷ ys) s = solves-nil rows g
solves-comb rows [] g (x ∷ xs) (y ∷ ys) s = absurd s
solves-comb rows (t ∷ ts) g [] (y ∷ ys) s = absurd s
solves-comb rows (t ∷ ts) g (x ∷ xs) (y ∷ ys) s = solves-add rows t (comb ys ts) g y x (comb ys xs) s.0 (solves-comb rows ts g xs ys s.1)

pub record Inverse (n : ℕ) (rows : List (List ℤ)) : Type 0 where
  pub g : ℤ
  pub apart : g ≢ pos 0
  -- the columns
  pub xs : List (List ℤ)
  pub long : Each xs (λ x. length x ≡ n)
  -- E X = g I
  pub right : (y : List ℤ) → length y ≡ n → Solves rows y g (comb y xs)
  -- X E = g I
  pub left : (v z : List ℤ) → length v ≡ n → weigh (apply rows v) xs (dot z) ≡ g *ℤ dot z v

-- E (X E v - g v) = 0
difference : (rows : List (List ℤ)) (g : ℤ) (v w : List ℤ) → Solves rows (apply rows v) g w → Kills rows (add (scale (neg_ℤ g) v) w)
difference [] g v w s = tt
difference (r ∷ rows) g v w s = (dot-add r (scale (neg_ℤ g) v) w ∙ rw (dot-scale r (neg_ℤ g) v, s.0) (step g (dot r v)), difference rows g v w s.1)
  where
    step : (g d : ℤ) → neg_ℤ g *ℤ d +ℤ g *ℤ d ≡ pos 0
    step g d = rw (as_D g, as_D d, D-pos 0) (simp Ds (same_D _ _ _ _ (omega arith)))

pub length-add : (u v : List ℤ) (n : ℕ) → length u ≡ n → length v ≤ n → length (add u v) ≡ n
length-add [] [] n p q = p
length-add [] (y ∷ v) n p q = absurd (omega arith)
length-add (x ∷ u) [] n p q = p
length-add (x ∷ u) (y ∷ v) zero p q = absurd (omega arith)
length-add (x ∷ u) (y ∷ v) (suc n) p q = ap suc (length-add u v n (omega arith) (omega arith))

pub length-comb : (cs : List ℤ) (xs : List (List ℤ)) (n : ℕ) → Each xs (λ x. length x ≡ n) → length (comb cs xs) ≤ n
length-comb [] xs n e = omega arith
length-comb (c ∷ cs) [] n e = omega arith
length-comb (c ∷ cs) (x ∷ xs) n e = omega (arith, length-add (scale c x) (comb cs xs) n (length-scale c x ∙ e.0) (length-comb cs xs n e.1))

pub length-apply : (rows : List (List ℤ)) (v : List ℤ) → length (apply rows v) ≡ length rows
length-apply [] v = refl
length-apply (r ∷ rows) v = ap suc (length-apply rows v)

pub inverse : (n : ℕ) (rows : List (List ℤ)) → length rows ≡ n → Independent n rows → Inverse n rows
inverse n rows e ind =
    let s = solve_each n rows (units n) e ind in
    let right : (y : List ℤ) → length y ≡ n → Solves rows y s.g (comb y s.xs) =
    λ y l. solves-same rows (comb y (units n)) y s.g (comb y s.xs) (λ i. at-comb y (units n) i ∙ weigh-units n y i l) (solves-comb rows (units n) s.g s.xs y s.solved) in
    record {
      g = s.g;
      apart = s.apart;
      xs = s.xs;
      long = s.long;
      right = right;
      left = λ v z l.
          let y = apply rows v in
          let w = comb y s.xs in
          let zero_diff = ind (add (scale (neg_ℤ s.g) v) w) (length-add (scale (neg_ℤ s.g) v) w n (length-scale (neg_ℤ s.g) v ∙ l) (length-comb y s.xs n s.long))
          (difference rows s.g v w (right y (length-apply rows v ∙ e))) in
          let d : neg_ℤ s.g *ℤ dot z v +ℤ weigh y s.xs (dot z) ≡ pos 0 =
          sym (dot-add z (scale (neg_ℤ s.g) v) w ∙ ap₂ ◌+ℤ◌ (dot-scale z (neg_ℤ s.g) v) (dot-comb z y s.xs)) ∙ dot-zero z _ zero_diff in
          last s.g (dot z v) (weigh y s.xs (dot z)) d;
    }
  where
    last : (g a b : ℤ) → neg_ℤ g *ℤ a +ℤ b ≡ pos 0 → b ≡ g *ℤ a
    last g a b h = omega (arith, ints, neg_mul_ℤ g a)
