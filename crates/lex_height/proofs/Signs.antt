-- the sign of entries of which only so many aren't zero
use Rattle.std.proofs.Common.{◌≡◌, ◌⊎◌, inl, inr, ℕ, zero, suc, ◌<◌, ◌≤◌, List, [], ◌∷◌, length, refl, arith}
use Rattle.std.proofs.lemmas.Int.{ints}
use Rattle.std.proofs.Math.IntN.{ℤ, pos, neg_ℤ}
use Rattle.wide_int.proofs.Order.{sign_cases}
use Rattle.lex_height.specs.Entries.{at_rank}
use Rattle.lex_height.specs.Order.{IsPositive, IsZero}

-- positive, zero, or positive with all signs turned
abbrev pub HasSign : (ℕ → ℤ) → Type 0
HasSign w = IsPositive w ⊎ (IsZero w ⊎ IsPositive (λ k. neg_ℤ (w k)))

-- one entry of zero before the others
later : (w : ℕ → ℤ) → w 0 ≡ pos 0 → IsPositive (λ k. w (suc k)) → IsPositive w
later w z h = (suc h.0, h.1, below h.0 h.2)
  where
    below : (r : ℕ) → ((k : ℕ) → k < r → w (suc k) ≡ pos 0) → (k : ℕ) → k < suc r → w k ≡ pos 0
    below r b zero lt = z
    below r b (suc k) lt = b k (omega (arith, lt))

pub has_sign : (n : ℕ) (w : ℕ → ℤ) → ((k : ℕ) → n ≤ k → w k ≡ pos 0) → HasSign w
has_sign zero w h = inr (inl (λ k. h k (omega arith)))
has_sign (suc n) w h = by_rest (has_sign n (λ k. w (suc k)) (λ k le. h (suc k) (omega (arith, le))))
  where
    all : w 0 ≡ pos 0 → IsZero (λ k. w (suc k)) → IsZero w
    all z b zero = z
    all z b (suc k) = b k

    by_rest : HasSign (λ k. w (suc k)) → HasSign w
    by_rest r =
        sign_cases (w 0)
        (λ m. inr (inr (0, omega (arith, ints, m), λ k lt. absurd (omega (arith, lt)))))
        (λ z. elim r [
          | inl p ↦ inl (later w z p)
          | inr s ↦ inr (elim s [ inl b ↦ inl (all z b) | inr p ↦ inr (later (λ k. neg_ℤ (w k)) (omega (arith, ints, z)) p) ])
        ])
        (λ p. inl (0, p, λ k lt. absurd (omega (arith, lt))))

-- past the end of a list
pub past_end : (t : List ℤ) (k : ℕ) → length t ≤ k → at_rank t k ≡ pos 0
past_end [] k le = refl
past_end (x ∷ t) zero le = absurd (omega (arith, le))
past_end (x ∷ t) (suc k) le = past_end t k (omega (arith, le))
