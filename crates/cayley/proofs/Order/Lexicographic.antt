-- lists of whole numbers under the lexicographic order, as an ordered group
use Rattle.std.proofs.Common.{◌≡◌, ℕ, suc, List, [], ◌∷◌, arith, sym, ◌∙◌, inl, inr, ◌<ℤ◌}
use Rattle.std.proofs.lemmas.Int.{ints}
use Rattle.std.proofs.Math.IntN.{ℤ, pos, ◌*ℤ◌, neg_ℤ, *ℤ-zero}
use Rattle.wide_int.proofs.Ring.{as_D, Ds, same_D}
use Rattle.wide_int.proofs.Order.{sign_cases, mul_pos_ℤ}
use Rattle.int_vectors.specs.Vectors.{IsZero, IsPositive, scale, add, at}
use Rattle.int_vectors.proofs.Entries.{not_zero}

pub minus_one : (x : ℤ) → neg_ℤ (pos 1) *ℤ x ≡ neg_ℤ x
minus_one x = omega (arith, ints)

pub positive-add : (u v : List ℤ) → IsPositive u → IsPositive v → IsPositive (add u v)
positive-add [] v p q = absurd p
positive-add (x ∷ u) [] p q = absurd q
positive-add (x ∷ u) (y ∷ v) (inl p) (inl q) = inl (omega (arith, ints))
positive-add (x ∷ u) (y ∷ v) (inl p) (inr q) = let e = q.0 in inl (omega (arith, ints))
positive-add (x ∷ u) (y ∷ v) (inr p) (inl q) = let e = p.0 in inl (omega (arith, ints))
positive-add (x ∷ u) (y ∷ v) (inr p) (inr q) = let e = p.0 in let f = q.0 in inr (omega (arith, ints), positive-add u v p.1 q.1)

pub positive-add_zero : (u v : List ℤ) → IsPositive u → IsZero v → IsPositive (add u v)
positive-add_zero [] v p q = absurd p
positive-add_zero (x ∷ u) [] p q = p
positive-add_zero (x ∷ u) (y ∷ v) (inl p) q = let e = q.0 in inl (omega (arith, ints))
positive-add_zero (x ∷ u) (y ∷ v) (inr p) q = let e = p.0 in let f = q.0 in inr (omega (arith, ints), positive-add_zero u v p.1 q.1)

pub positive-scale : (k : ℤ) (u : List ℤ) → pos 0 <ℤ k → IsPositive u → IsPositive (scale k u)
positive-scale k [] h p = absurd p
positive-scale k (x ∷ u) h (inl p) = inl (mul_pos_ℤ k x h p)
positive-scale k (x ∷ u) h (inr p) = inr (rw p.0 (*ℤ-zero k), positive-scale k u h p.1)

pub zero-scale : (k : ℤ) (u : List ℤ) → IsZero u → IsZero (scale k u)
zero-scale k [] z = tt
zero-scale k (x ∷ u) z = (rw z.0 (*ℤ-zero k), zero-scale k u z.1)

-- exactly one of the three
pub not_both : (u : List ℤ) → IsPositive u → ¬ (IsPositive (scale (neg_ℤ (pos 1)) u))
not_both [] p q = p
not_both (x ∷ u) (inl p) (inl q) = omega (arith, ints)
not_both (x ∷ u) (inl p) (inr q) = let e = q.0 in omega (arith, ints)
not_both (x ∷ u) (inr p) (inl q) = let e = p.0 in omega (arith, ints)
not_both (x ∷ u) (inr p) (inr q) = not_both u p.1 q.1

pub three : {P : Type 0} (u : List ℤ) → (IsPositive (scale (neg_ℤ (pos 1)) u) → P) → (IsZero u → P) → (IsPositive u → P) → P
three [] f g h = g tt
three (x ∷ u) f g h =
    sign_cases x
    (λ n. f (inl (omega (arith, ints))))
    (λ z. three u (λ n. f (inr (omega (arith, ints), n))) (λ q. g (z, q)) (λ p. h (inr (z, p))))
    (λ p. h (inl p))

turn_by : (k m x : ℤ) → k *ℤ (m *ℤ x) ≡ m *ℤ (k *ℤ x)
turn_by k m x = rw (as_D k, as_D m, as_D x) (simp Ds (same_D _ _ _ _ (omega arith)))

pub positive-unscale : (k : ℤ) (u : List ℤ) → pos 0 <ℤ k → IsPositive (scale k u) → IsPositive u
positive-unscale k u h p =
    three u
    (λ n. absurd (not_both (scale k u) p (swap k u (positive-scale k (scale (neg_ℤ (pos 1)) u) h n))))
    (λ z. absurd (not_zero (scale k u) p (zero-scale k u z)))
    (λ q. q)
  where
    turn : (k x : ℤ) → k *ℤ (neg_ℤ (pos 1) *ℤ x) ≡ neg_ℤ (pos 1) *ℤ (k *ℤ x)
    turn k x = turn_by k (neg_ℤ (pos 1)) x

    swap : (k : ℤ) (u : List ℤ) → IsPositive (scale k (scale (neg_ℤ (pos 1)) u)) → IsPositive (scale (neg_ℤ (pos 1)) (scale k u))
    swap k [] p = p
    swap k (x ∷ u) (inl p) = inl (rw (← (turn k x)) p)
    swap k (x ∷ u) (inr p) = inr (rw (← (turn k x)) p.0, swap k u p.1)

-- equal at each place
pub positive-same : (u v : List ℤ) → ((k : ℕ) → at u k ≡ at v k) → IsPositive u → IsPositive v
positive-same [] v e p = absurd p
positive-same (x ∷ u) [] e (inl p) = let f = e 0 in absurd (let g : x ≡ pos 0 = f in omega (arith, ints))
positive-same (x ∷ u) [] e (inr p) = absurd (not_zero u p.1 (none u (λ k. e (suc k))))
  where
    none : (u : List ℤ) → ((k : ℕ) → at u k ≡ pos 0) → IsZero u
    none [] e = tt
    none (x ∷ u) e = (e 0, none u (λ k. e (suc k)))
positive-same (x ∷ u) (y ∷ v) e (inl p) = let f : x ≡ y = e 0 in inl (omega (arith, ints))
positive-same (x ∷ u) (y ∷ v) e (inr p) = inr (sym (e 0) ∙ p.0, positive-same u v (λ k. e (suc k)) p.1)
