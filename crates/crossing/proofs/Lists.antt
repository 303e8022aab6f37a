-- lists of entries, and their entries by rank
use Rattle.std.proofs.Common.{◌≡◌, ◌⊎◌, inl, inr, ℕ, zero, suc, ◌<◌, List, [], ◌∷◌, length, arith, ap₂, ◌∙◌, ◌<ℤ◌}
use Rattle.std.proofs.lemmas.Int.{ints}
use Rattle.std.proofs.Math.IntN.{ℤ, pos, neg_ℤ, ◌+ℤ◌, ◌-ℤ◌, ◌*ℤ◌}
use Rattle.wide_int.proofs.Ring.{as_D, Ds, same_D}
use Rattle.wide_int.proofs.Order.{sign_cases}
use Rattle.int_vectors.specs.Vectors.{IsPositive, scale, add, at}
use Rattle.int_vectors.proofs.Entries.{at-scale, at-add}
use Rattle.lex_height.specs.Order.{IsLess, IsSame}
use Rattle.lex_height.specs.Order as order
use Rattle.lex_height.proofs.Signs.{has_sign, past_end}
use Rattle.crossing.specs.Lines.{IsEarlier}

pub at-sum : (j k : ℤ) (u v : List ℤ) (i : ℕ) → at (add (scale j u) (scale k v)) i ≡ j *ℤ at u i +ℤ k *ℤ at v i
at-sum j k u v i = at-add (scale j u) (scale k v) i ∙ ap₂ ◌+ℤ◌ (at-scale j u i) (at-scale k v i)

-- ---- zero and positive

pub positive_at : (u : List ℤ) → IsPositive u → order.IsPositive (at u)
positive_at [] p = absurd p
positive_at (x ∷ u) (inl p) = (0, p, λ k lt. absurd (omega (arith, lt)))
positive_at (x ∷ u) (inr p) = later x u p.0 (positive_at u p.1)
  where
    below : (x : ℤ) (u : List ℤ) (r : ℕ) → x ≡ pos 0 → ((k : ℕ) → k < r → at u k ≡ pos 0) → (k : ℕ) → k < suc r → at (x ∷ u) k ≡ pos 0
    below x u r z b zero lt = z
    below x u r z b (suc k) lt = b k (omega (arith, lt))

    later : (x : ℤ) (u : List ℤ) → x ≡ pos 0 → order.IsPositive (at u) → order.IsPositive (at (x ∷ u))
    later x u z h = (suc h.0, h.1, below x u h.0 z h.2)

by_rank : (u : List ℤ) (r : ℕ) → pos 0 <ℤ at u r → ((k : ℕ) → k < r → at u k ≡ pos 0) → IsPositive u
by_rank [] r p z = absurd (omega (arith, ints, p))
by_rank (x ∷ u) zero p z = inl p
by_rank (x ∷ u) (suc r) p z = inr (z 0 (omega arith), by_rank u r p (λ k lt. z (suc k) (omega (arith, lt))))

pub positive_from : (u : List ℤ) → order.IsPositive (at u) → IsPositive u
positive_from u h = by_rank u h.0 h.1 h.2

-- positive is decided
pub positive_stable : (u : List ℤ) → ¬ (¬ (IsPositive u)) → IsPositive u
positive_stable [] n = absurd (n (λ p. p))
positive_stable (x ∷ u) n =
    sign_cases x
    (λ m. absurd (n (below m)))
    (λ z. inr (z, positive_stable u (λ k. n (rest z k))))
    inl
  where
    below : x <ℤ pos 0 → ¬ (IsPositive (x ∷ u))
    below m (inl p) = omega (arith, ints, m, p)
    below m (inr p) = let e = p.0 in omega (arith, ints, m, e)

    rest : x ≡ pos 0 → ¬ (IsPositive u) → ¬ (IsPositive (x ∷ u))
    rest z k (inl p) = omega (arith, ints, z, p)
    rest z k (inr p) = k p.1

-- ---- t / q and u / p
module _ (t : List ℤ) (q : ℤ) (u : List ℤ) (p : ℤ) where
  abbrev difference : List ℤ
  difference = add (scale q u) (scale (neg_ℤ p) t)

  ring : (q p x y : ℤ) → q *ℤ y +ℤ neg_ℤ p *ℤ x ≡ y *ℤ q -ℤ x *ℤ p
  ring q p x y = rw (as_D q, as_D p, as_D x, as_D y) (simp Ds (same_D _ _ _ _ (omega arith)))

  difference_is : (k : ℕ) → at difference k ≡ at u k *ℤ q -ℤ at t k *ℤ p
  difference_is k = at-sum q (neg_ℤ p) u t k ∙ ring q p (at t k) (at u k)

  less_from : order.IsPositive (at difference) → IsLess (at t) q (at u) p
  less_from h = (
    h.0,
    (let a = h.1 in let e = difference_is h.0 in omega (arith, ints, a, e)),
    λ k lt. let a = h.2 k lt in let e = difference_is k in omega (arith, ints, a, e),
  )

  pub earlier_less : IsEarlier t q u p → IsLess (at t) q (at u) p
  earlier_less h = less_from (positive_at difference h)

  pub less_earlier : IsLess (at t) q (at u) p → IsEarlier t q u p
  less_earlier h = positive_from difference (
    h.0,
    (let a = h.1 in let e = difference_is h.0 in omega (arith, ints, a, e)),
    λ k lt. let a = h.2 k lt in let e = difference_is k in omega (arith, ints, a, e),
  )

  -- one is before the other, or they are the same
  pub either : IsLess (at t) q (at u) p ⊎ (IsSame (at t) q (at u) p ⊎ IsLess (at u) p (at t) q)
  either = elim (has_sign (length difference) (at difference) (past_end difference)) [
    | inl h ↦ inl (less_from h)
    | inr r ↦ inr (elim r [
      | inl z ↦ inl (λ k. let a = z k in let e = difference_is k in omega (arith, ints, a, e))
      | inr h ↦ inr (
        h.0,
        (let a = h.1 in let e = difference_is h.0 in omega (arith, ints, a, e)),
        λ k lt. let a = h.2 k lt in let e = difference_is k in omega (arith, ints, a, e),
      )
    ])
  ]
