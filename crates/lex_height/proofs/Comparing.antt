-- values over positive numbers, entry by entry
use Rattle.std.proofs.Common.{◌≡◌, ◌⊎◌, inl, inr, ℕ, ◌<◌, arith, refl, sym, ap, subst, ◌∙◌, ◌<ℤ◌, ◌≤ℤ◌}
use Rattle.std.proofs.lemmas.Int.{ints}
use Rattle.std.proofs.Math.IntN.{ℤ, pos, neg_ℤ, ◌*ℤ◌}
use Rattle.wide_int.proofs.Ring.{as_D, Ds, same_D, neg_mul_ℤ}
use Rattle.wide_int.proofs.Order.{mul_lt_ℤ, mul_le_ℤ, lt_cancel, ratio_lt_le_trans, ratio_le_trans, ratio_lt_trans}
use Rattle.lex_height.proofs.Ranks.{three}
use Rattle.lex_height.specs.Order.{IsLess, IsSame}

-- ---- fractions a / b, c / d, e / f with positive denominators
pub ratio_same_trans : (a b c d e f : ℤ) → pos 0 <ℤ b → pos 0 <ℤ d → pos 0 <ℤ f → a *ℤ d ≡ c *ℤ b → c *ℤ f ≡ e *ℤ d → a *ℤ f ≡ e *ℤ b
ratio_same_trans a b c d e f pb pd pf h k =
    let x = ratio_le_trans a b c d e f pb pd pf (omega (arith, ints, h)) (omega (arith, ints, k)) in
    let y = ratio_le_trans e f c d a b pf pd pb (omega (arith, ints, k)) (omega (arith, ints, h)) in
    omega (arith, ints, x, y)

pub ratio_le_lt_trans : (a b c d e f : ℤ) → pos 0 <ℤ b → pos 0 <ℤ d → pos 0 <ℤ f → (a *ℤ d) ≤ℤ (c *ℤ b) → (c *ℤ f) <ℤ (e *ℤ d) → (a *ℤ f) <ℤ (e *ℤ b)
ratio_le_lt_trans a b c d e f pb pd pf h k =
    let x = mul_le_ℤ (a *ℤ d) (c *ℤ b) f h (omega (arith, ints, pf)) in
    let y = mul_lt_ℤ (c *ℤ f) (e *ℤ d) b k pb in
    let m = swap c b f in
    let u = swap a d f in
    let v = swap e d b in
    lt_cancel (a *ℤ f) (e *ℤ b) d pd (omega (arith, ints, x, y, m, u, v))
  where
    swap : (a d f : ℤ) → a *ℤ d *ℤ f ≡ a *ℤ f *ℤ d
    swap a d f = rw (as_D a, as_D d, as_D f) (simp Ds (same_D _ _ _ _ (omega arith)))

pub same_back : (w : ℕ → ℤ) (p : ℤ) (u : ℕ → ℤ) (q : ℤ) → IsSame w p u q → IsSame u q w p
same_back w p u q h = λ k. sym (h k)

pub same_itself : (w : ℕ → ℤ) (p : ℤ) → IsSame w p w p
same_itself w p = λ k. refl

pub not_below_itself : (w : ℕ → ℤ) (p : ℤ) → ¬ (IsLess w p w p)
not_below_itself w p h = let a = h.1 in omega (arith, ints, a)

pub less_not_same : (w : ℕ → ℤ) (p : ℤ) (u : ℕ → ℤ) (q : ℤ) → IsLess w p u q → ¬ (IsSame w p u q)
less_not_same w p u q h s = let a = h.1 in let b = s h.0 in omega (arith, ints, a, b)

-- three values, w / p, u / q and x / r
module _ (w : ℕ → ℤ) (p : ℤ) (u : ℕ → ℤ) (q : ℤ) (x : ℕ → ℤ) (r : ℤ) (pp : pos 0 <ℤ p) (pq : pos 0 <ℤ q) (pr : pos 0 <ℤ r) where
  pub same_same : IsSame w p u q → IsSame u q x r → IsSame w p x r
  same_same h k = λ n. ratio_same_trans (w n) p (u n) q (x n) r pp pq pr (h n) (k n)

  pub less_same : IsLess w p u q → IsSame u q x r → IsLess w p x r
  less_same h k = (
    h.0,
    let e = k h.0 in ratio_lt_le_trans (w h.0) p (u h.0) q (x h.0) r pp pq pr h.1 (omega (arith, ints, e)),
    λ n lt. ratio_same_trans (w n) p (u n) q (x n) r pp pq pr (h.2 n lt) (k n),
  )

  pub same_less : IsSame w p u q → IsLess u q x r → IsLess w p x r
  same_less h k = (
    k.0,
    let e = h k.0 in ratio_le_lt_trans (w k.0) p (u k.0) q (x k.0) r pp pq pr (omega (arith, ints, e)) k.1,
    λ n lt. ratio_same_trans (w n) p (u n) q (x n) r pp pq pr (h n) (k.2 n lt),
  )

  pub less_less : IsLess w p u q → IsLess u q x r → IsLess w p x r
  less_less h k = by_rank (three h.0 k.0)
    where
      by_rank : (h.0 < k.0) ⊎ ((h.0 ≡ k.0) ⊎ (k.0 < h.0)) → IsLess w p x r
      by_rank (inl lt) = (
        h.0,
        let e = k.2 h.0 lt in ratio_lt_le_trans (w h.0) p (u h.0) q (x h.0) r pp pq pr h.1 (omega (arith, ints, e)),
        λ n l. ratio_same_trans (w n) p (u n) q (x n) r pp pq pr (h.2 n l) (k.2 n (omega (arith, l, lt))),
      )
      by_rank (inr (inl e)) = (
        h.0,
        ratio_lt_trans (w h.0) p (u h.0) q (x h.0) r pp pq pr h.1 (subst (λ n. (u n *ℤ r) <ℤ (x n *ℤ q)) (sym e) k.1),
        λ n l. ratio_same_trans (w n) p (u n) q (x n) r pp pq pr (h.2 n l) (k.2 n (omega (arith, l, e))),
      )
      by_rank (inr (inr gt)) = (
        k.0,
        let e = h.2 k.0 gt in ratio_le_lt_trans (w k.0) p (u k.0) q (x k.0) r pp pq pr (omega (arith, ints, e)) k.1,
        λ n l. ratio_same_trans (w n) p (u n) q (x n) r pp pq pr (h.2 n (omega (arith, l, gt))) (k.2 n l),
      )

-- never both
pub less_not_back : (w : ℕ → ℤ) (p : ℤ) (u : ℕ → ℤ) (q : ℤ) → pos 0 <ℤ p → pos 0 <ℤ q → IsLess w p u q → ¬ (IsLess u q w p)
less_not_back w p u q pp pq h k = not_below_itself w p (less_less w p u q w p pp pq pp h k)

-- with all signs turned
pub less_turned : (w : ℕ → ℤ) (p : ℤ) (u : ℕ → ℤ) (q : ℤ) → IsLess w p u q → IsLess (λ k. neg_ℤ (u k)) q (λ k. neg_ℤ (w k)) p
less_turned w p u q h = (
  h.0,
  let a = h.1 in let b = neg_mul_ℤ (u h.0) p in let c = neg_mul_ℤ (w h.0) q in omega (arith, ints, a, b, c),
  λ k lt. neg_mul_ℤ (u k) p ∙ ap neg_ℤ (sym (h.2 k lt)) ∙ sym (neg_mul_ℤ (w k) q),
)

pub same_turned : (w : ℕ → ℤ) (p : ℤ) (u : ℕ → ℤ) (q : ℤ) → IsSame w p u q → IsSame (λ k. neg_ℤ (w k)) p (λ k. neg_ℤ (u k)) q
same_turned w p u q h = λ k. neg_mul_ℤ (w k) q ∙ ap neg_ℤ (h k) ∙ sym (neg_mul_ℤ (u k) p)

-- entries that are the same, written in another way
pub less_as : (w x u y : ℕ → ℤ) (p q : ℤ) → ((k : ℕ) → w k ≡ x k) → ((k : ℕ) → u k ≡ y k) → IsLess w p u q → IsLess x p y q
less_as w x u y p q e f h = (
  h.0,
  rw (sym (e h.0), sym (f h.0)) h.1,
  λ k lt. ap (λ z. z *ℤ q) (sym (e k)) ∙ h.2 k lt ∙ ap (λ z. z *ℤ p) (f k),
)

pub same_as : (w x u y : ℕ → ℤ) (p q : ℤ) → ((k : ℕ) → w k ≡ x k) → ((k : ℕ) → u k ≡ y k) → IsSame w p u q → IsSame x p y q
same_as w x u y p q e f h k = ap (λ z. z *ℤ q) (sym (e k)) ∙ h k ∙ ap (λ z. z *ℤ p) (f k)
