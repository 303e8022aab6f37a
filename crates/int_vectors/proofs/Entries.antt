-- entries of vectors
use Rattle.std.proofs.Common.{List, length, refl, ap, suc, ◌≡◌, [], ◌∷◌, sym, zero, ℕ, pos, arith, ◌≤◌, ◌<◌, inl, inr, ◌≢◌, subst}
use Rattle.std.proofs.Math.IntN.{ℤ, *ℤ-zero, ◌*ℤ◌, +ℤ_idl, +ℤ_idr, ◌+ℤ◌}
use Rattle.std.proofs.lemmas.Int.{ints}
use Rattle.std.proofs.lemmas.Bool.{cases_lt}
use Rattle.int_vectors.specs.Vectors.{scale, at, add, IsZero, IsPositive, at_place, zeros, Each}

pub length-scale : (k : ℤ) (cs : List ℤ) → length (scale k cs) ≡ length cs
length-scale k [] = refl
length-scale k (c ∷ cs) = ap suc (length-scale k cs)

pub at-scale : (k : ℤ) (v : List ℤ) (i : ℕ) → at (scale k v) i ≡ k *ℤ at v i
at-scale k [] i = sym (*ℤ-zero k)
at-scale k (x ∷ v) zero = refl
at-scale k (x ∷ v) (suc i) = at-scale k v i

pub at-add : (u v : List ℤ) (i : ℕ) → at (add u v) i ≡ at u i +ℤ at v i
at-add [] v i = sym (+ℤ_idl _)
at-add (x ∷ u) [] i = sym (+ℤ_idr _)
at-add (x ∷ u) (y ∷ v) zero = refl
at-add (x ∷ u) (y ∷ v) (suc i) = at-add u v i

pub past_zero : (r : List ℤ) (c : ℕ) → length r ≤ c → at r c ≡ pos 0
past_zero [] c h = refl
past_zero (x ∷ r) zero h = absurd (omega (arith, h))
past_zero (x ∷ r) (suc c) h = past_zero r c (omega (arith, h))

pub zero_below : (v : List ℤ) → ((e : ℕ) → e < length v → at v e ≡ pos 0) → IsZero v
zero_below [] h = tt
zero_below (x ∷ v) h = (h 0 (omega arith), zero_below v (λ e lt. h (suc e) (omega arith)))

pub zero_from : (u : List ℤ) → ((k : ℕ) → at u k ≡ pos 0) → IsZero u
zero_from [] e = tt
zero_from (x ∷ u) e = (e 0, zero_from u (λ k. e (suc k)))

pub not_zero : (u : List ℤ) → IsPositive u → ¬ (IsZero u)
not_zero [] p z = p
not_zero (x ∷ u) (inl p) z = let e = z.0 in omega (arith, ints, p, e)
not_zero (x ∷ u) (inr p) z = not_zero u p.1 z.1

pub at_own : (k : ℕ) (d : ℤ) → at (at_place k d) k ≡ d
at_own zero d = refl
at_own (suc k) d = at_own k d

pub at_other : (k j : ℕ) (d : ℤ) → j ≢ k → at (at_place k d) j ≡ pos 0
at_other zero zero d n = absurd (n refl)
at_other zero (suc j) d n = refl
at_other (suc k) zero d n = refl
at_other (suc k) (suc j) d n = at_other k j d (λ e. n (ap suc e))

pub length-zeros : (m : ℕ) → length (zeros m) ≡ m
unfolding zeros
length-zeros zero = refl
length-zeros (suc m) = ap suc (length-zeros m)

pub entries : ℕ → List (List ℤ → ℤ)
entries zero = []
entries (suc n) = (λ x. at x n) ∷ entries n

pub length-entries : (n : ℕ) → length (entries n) ≡ n
unfolding entries
length-entries zero = refl
length-entries (suc n) = ap suc (length-entries n)

pub entries_each : (n : ℕ) (P : (List ℤ → ℤ) → Type 0) → Each (entries n) P → (e : ℕ) → e < n → P (λ x. at x e)
unfolding entries
entries_each zero P h e lt = absurd (omega (arith, lt))
entries_each (suc n) P h e lt = elim (cases_lt e n) [
  | inl b ↦ entries_each n P h.1 e b
  | inr b ↦ let same : n ≡ e = omega (arith, lt, b) in subst (λ (m : ℕ). P (λ x. at x m)) same h.0
]

pub at-zero : (u : List ℤ) (k : ℕ) → IsZero u → at u k ≡ pos 0
at-zero [] k z = refl
at-zero (x ∷ u) zero z = z.0
at-zero (x ∷ u) (suc k) z = at-zero u k z.1
