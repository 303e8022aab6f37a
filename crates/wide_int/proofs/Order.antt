-- signs, products and fractions in order
use Rattle.std.proofs.Common.{◌≡◌, ◌≢◌, ◌⊎◌, ℕ, zero, suc, ◌+◌, ◌-◌, ◌*◌, ◌<◌, ◌≤◌, arith, refl, ap, ◌∙◌, inl, inr, ◌≤ℤ◌, ◌<ℤ◌}
use Rattle.std.proofs.lemmas.Int.{ints}
use Rattle.std.proofs.Math.IntN.{ℤ, pos, negsuc, ◌+ℤ◌, ◌-ℤ◌, ◌*ℤ◌, neg_ℤ}
use borrow.Author.Differences.{up, down, lt_out, le_out}
use Rattle.wide_int.proofs.Ring.{add_mul_ℤ, neg_mul_ℤ, as_D, Ds, same_D}

-- naturals: the product of two differences
cross_le : (x y u v : ℕ) → x ≤ y → u ≤ v → x * v + y * u ≤ x * u + y * v
cross_le x y u v p q =
    let k = y - x in let l = v - u in
    let ey : y ≡ x + k = omega arith in
    let ev : v ≡ u + l = omega arith in
    rw (ey, ev) (omega arith)

cross_lt : (x y u v : ℕ) → x < y → u < v → x * v + y * u < x * u + y * v
cross_lt x y u v p q =
    let k = y - suc x in let l = v - suc u in
    let ey : y ≡ x + suc k = omega arith in
    let ev : v ≡ u + suc l = omega arith in
    rw (ey, ev) (omega arith)

pub mul_lt_ℤ : (a b c : ℤ) → a <ℤ b → pos 0 <ℤ c → (a *ℤ c) <ℤ (b *ℤ c)
mul_lt_ℤ a b c h p =
    let k = cross_lt (up a + down b) (up b + down a) (down c) (up c) (lt_out a b h) (omega (arith, ints)) in
    omega (arith, ints, k)

pub mul_le_ℤ : (a b c : ℤ) → a ≤ℤ b → pos 0 ≤ℤ c → (a *ℤ c) ≤ℤ (b *ℤ c)
mul_le_ℤ a b c h p =
    let k = cross_le (up a + down b) (up b + down a) (down c) (up c) (le_out a b h) (omega (arith, ints)) in
    omega (arith, ints, k)

pub mul_pos_ℤ : (a b : ℤ) → pos 0 <ℤ a → pos 0 <ℤ b → pos 0 <ℤ (a *ℤ b)
mul_pos_ℤ a b p q =
    let k = cross_lt (down a) (up a) (down b) (up b) (omega (arith, ints)) (omega (arith, ints)) in
    omega (arith, ints, k)

-- the three cases of an integer against zero
pub sign_cases : {P : Type 0} (z : ℤ) → (z <ℤ pos 0 → P) → (z ≡ pos 0 → P) → (pos 0 <ℤ z → P) → P
sign_cases (pos zero) f g h = g refl
sign_cases (pos (suc n)) f g h = h (omega (arith, ints))
sign_cases (negsuc n) f g h = f (omega (arith, ints))

pub mul_pos_neg_ℤ : (a b : ℤ) → pos 0 <ℤ a → b <ℤ pos 0 → (a *ℤ b) <ℤ pos 0
mul_pos_neg_ℤ a b p q =
    let k = cross_lt (down a) (up a) (up b) (down b) (omega (arith, ints)) (omega (arith, ints)) in
    omega (arith, ints, k)

pub mul_neg_neg_ℤ : (a b : ℤ) → a <ℤ pos 0 → b <ℤ pos 0 → pos 0 <ℤ (a *ℤ b)
mul_neg_neg_ℤ a b p q =
    let k = cross_lt (up a) (down a) (up b) (down b) (omega (arith, ints)) (omega (arith, ints)) in
    omega (arith, ints, k)

pub zero_product : (a b : ℤ) → a *ℤ b ≡ pos 0 → (a ≡ pos 0) ⊎ (b ≡ pos 0)
zero_product a b e =
    sign_cases a
    (λ na. sign_cases b (λ nb. absurd (let k = mul_neg_neg_ℤ a b na nb in omega (arith, ints))) inr (λ pb. absurd (let k = mul_pos_neg_ℤ b a pb na in omega (arith, ints))))
    inl
    (λ pa. sign_cases b (λ nb. absurd (let k = mul_pos_neg_ℤ a b pa nb in omega (arith, ints))) inr (λ pb. absurd (let k = mul_pos_ℤ a b pa pb in omega (arith, ints))))

pub mul_cancel : (a b c : ℤ) → c ≢ pos 0 → a *ℤ c ≡ b *ℤ c → a ≡ b
mul_cancel a b c n e =
    let f : (a -ℤ b) *ℤ c ≡ pos 0 = add_mul_ℤ a (neg_ℤ b) c ∙ ap (λ x. a *ℤ c +ℤ x) (neg_mul_ℤ b c) ∙ omega (arith, ints) in
    elim (zero_product (a -ℤ b) c f) [ inl z ↦ omega (arith, ints) | inr z ↦ absurd (n z) ]

pub lt_cancel : (a b c : ℤ) → pos 0 <ℤ c → (a *ℤ c) <ℤ (b *ℤ c) → a <ℤ b
lt_cancel a b c p h =
    sign_cases (b -ℤ a)
    (λ n. absurd (let k = mul_lt_ℤ b a c (omega (arith, ints, n)) p in omega (arith, ints, h, k)))
    (λ z. absurd (let e : b ≡ a = omega (arith, ints, z) in let k : b *ℤ c ≡ a *ℤ c = ap (λ x. x *ℤ c) e in omega (arith, ints, h, k)))
    (λ q. omega (arith, ints, q))

pub not_lt : (a b : ℤ) → ¬ (a <ℤ b) → ¬ (b <ℤ a) → a ≡ b
not_lt a b h k =
    sign_cases (b -ℤ a)
    (λ n. absurd (k (omega (arith, ints, n))))
    (λ z. omega (arith, ints, z))
    (λ q. absurd (h (omega (arith, ints, q))))

pub le_from_not_lt : (a b : ℤ) → ¬ (b <ℤ a) → a ≤ℤ b
le_from_not_lt a b h =
    sign_cases (b -ℤ a)
    (λ n. absurd (h (omega (arith, ints, n))))
    (λ z. omega (arith, ints, z))
    (λ q. omega (arith, ints, q))

pub le_cancel : (a b c : ℤ) → pos 0 <ℤ c → (a *ℤ c) ≤ℤ (b *ℤ c) → a ≤ℤ b
le_cancel a b c p h = le_from_not_lt a b (λ k. let m = mul_lt_ℤ b a c k p in omega (arith, ints, h, m))

-- ---- fractions a / b, c / d, e / f with positive denominators
swap : (a d f : ℤ) → a *ℤ d *ℤ f ≡ a *ℤ f *ℤ d
swap a d f = rw (as_D a, as_D d, as_D f) (simp Ds (same_D _ _ _ _ (omega arith)))

pub ratio_lt_le_trans : (a b c d e f : ℤ) → pos 0 <ℤ b → pos 0 <ℤ d → pos 0 <ℤ f → (a *ℤ d) <ℤ (c *ℤ b) → (c *ℤ f) ≤ℤ (e *ℤ d) → (a *ℤ f) <ℤ (e *ℤ b)
ratio_lt_le_trans a b c d e f pb pd pf h k =
    let x = mul_lt_ℤ (a *ℤ d) (c *ℤ b) f h pf in
    let y = mul_le_ℤ (c *ℤ f) (e *ℤ d) b k (omega (arith, ints, pb)) in
    let m = swap c b f in
    let u = swap a d f in
    let v = swap e d b in
    lt_cancel (a *ℤ f) (e *ℤ b) d pd (omega (arith, ints, x, y, m, u, v))

pub ratio_le_trans : (a b c d e f : ℤ) → pos 0 <ℤ b → pos 0 <ℤ d → pos 0 <ℤ f → (a *ℤ d) ≤ℤ (c *ℤ b) → (c *ℤ f) ≤ℤ (e *ℤ d) → (a *ℤ f) ≤ℤ (e *ℤ b)
ratio_le_trans a b c d e f pb pd pf h k =
    let x = mul_le_ℤ (a *ℤ d) (c *ℤ b) f h (omega (arith, ints, pf)) in
    let y = mul_le_ℤ (c *ℤ f) (e *ℤ d) b k (omega (arith, ints, pb)) in
    let m = swap c b f in
    let u = swap a d f in
    let v = swap e d b in
    le_cancel (a *ℤ f) (e *ℤ b) d pd (omega (arith, ints, x, y, m, u, v))

pub ratio_lt_trans : (a b c d e f : ℤ) → pos 0 <ℤ b → pos 0 <ℤ d → pos 0 <ℤ f → (a *ℤ d) <ℤ (c *ℤ b) → (c *ℤ f) <ℤ (e *ℤ d) → (a *ℤ f) <ℤ (e *ℤ b)
ratio_lt_trans a b c d e f pb pd pf h k = ratio_lt_le_trans a b c d e f pb pd pf h (omega (arith, ints, k))
