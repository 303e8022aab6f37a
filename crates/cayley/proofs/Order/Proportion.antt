-- two lists in proportion have one sign
use Rattle.std.proofs.Common.{◌≡◌, ◌≢◌, ◌⊎◌, ℕ, List, arith, sym, ap, ◌∙◌, inl, inr, ◌<ℤ◌}
use Rattle.std.proofs.lemmas.Int.{ints}
use Rattle.std.proofs.Math.IntN.{ℤ, pos, ◌*ℤ◌, *ℤ-zero}
use Rattle.wide_int.proofs.Order.{zero_product}
use Rattle.int_vectors.specs.Vectors.{IsZero, IsPositive, scale, at}
use Rattle.int_vectors.proofs.Entries.{at-scale, zero_from, at-zero}
use Rattle.cayley.proofs.Order.Lexicographic.{positive-same, positive-scale, positive-unscale}

pub in_proportion : (u g : List ℤ) (k m : ℤ) → pos 0 <ℤ k → pos 0 <ℤ m → ((e : ℕ) → k *ℤ at u e ≡ m *ℤ at g e) → IsPositive u → IsPositive g
in_proportion u g k m pk pm e p =
    positive-unscale m g pm (positive-same (scale k u) (scale m g) (λ i. at-scale k u i ∙ e i ∙ sym (at-scale m g i)) (positive-scale k u pk p))

-- and are zero together
pub zero_in_proportion : (u g : List ℤ) (k m : ℤ) → m ≢ pos 0 → ((e : ℕ) → k *ℤ at u e ≡ m *ℤ at g e) → IsZero u → IsZero g
zero_in_proportion u g k m some e z = zero_from g (λ i.
    let f : m *ℤ at g i ≡ pos 0 = sym (e i) ∙ ap (λ x. k *ℤ x) (at-zero u i z) ∙ *ℤ-zero k in
    elim (zero_product m (at g i) f) [ inl h ↦ absurd (some h) | inr h ↦ h ])

-- and are both not negative
pub either_in_proportion : (u g : List ℤ) (k m : ℤ) → pos 0 <ℤ k → pos 0 <ℤ m → ((e : ℕ) → k *ℤ at u e ≡ m *ℤ at g e) → IsPositive u ⊎ IsZero u → IsPositive g ⊎ IsZero g
either_in_proportion u g k m pk pm e (inl p) = inl (in_proportion u g k m pk pm e p)
either_in_proportion u g k m pk pm e (inr z) = inr (zero_in_proportion u g k m (λ h. omega (arith, ints, h, pm)) e z)
