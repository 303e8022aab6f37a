-- numbers divided by a divisor of all
use Rattle.std.proofs.Common.{◌≡◌, ◌≢◌, ◌⊎◌, ◌↔◌, ℕ, zero, suc, ◌+◌, ◌*◌, ◌^◌, ◌<◌, ◌≤◌, List, [], ◌∷◌, ◌++◌, length, unsigned_abs, arith, refl, sym, ap, inl, inr, subst, ◌∙◌, ◌<ℤ◌, ◌≤ℤ◌}
use Prim.Native.Nat.{◌∣◌}
use Rattle.std.specs.Int.{IsGcd}
use Rattle.std.proofs.Math.Nat.{one-dvd, dvd_of_mul-dvd-mul_left, mul-dvd-mul_left}
use Rattle.std.proofs.lemmas.Int.{ints, unsigned_abs-mul}
use Rattle.std.proofs.lemmas.Nat.Gcd.{dvd_antisymm, dvd_trans, le_of_dvd}
use Rattle.std.proofs.lemmas.List.{take_more, length-take}
use Rattle.std.proofs.Math.ListN.{get_or, take, drop, drop_of_length-le}
use Rattle.std.proofs.Math.Seq.{drop-cons}
use Rattle.std.proofs.Math.IntN.{ℤ, pos, ◌*ℤ◌, *ℤ_comm}
use Rattle.wide_int.specs.Whole.{FitsWhole}
use Rattle.wide_int.proofs.Signed.{abs_positive, factor_fits}
use Rattle.wide_int.proofs.CommonDivisors.{gcd_above}
use Rattle.wide_int.proofs.Order.{sign_cases, mul_pos_neg_ℤ}
use Rattle.wide_int.proofs.Ring.{mul_assoc_ℤ, mul_zero_ℤ}
use Rattle.lex_height.specs.declared.part.TheConstants.{PARTS}
use Rattle.lex_height.specs.declared.part.LexPart.{LexPart}
use Rattle.lex_height.specs.Entries.{entry}
use Rattle.lex_height.specs.Divisors.{DividesEach, HaveNoDivisor, IsCommonGcd, AreQuotients}
use Rattle.lex_height.specs.Values.{Value, AreParts, IsAccepted, IsLowest, HasValue}
use Rattle.lex_height.proofs.Ranks.{three, entry_here, entry_other}

-- ---- the parts from a place on
next_part : (parts : List LexPart) (i : ℕ) (d : LexPart) → i < length parts → drop i parts ≡ get_or parts i d ∷ drop (i + 1) parts
next_part parts i d lt = let e : suc i ≡ i + 1 = omega arith in drop-cons parts i d lt ∙ ap (λ k. get_or parts i d ∷ drop k parts) e

pub first_number : (parts : List LexPart) (i n : ℕ) (d : LexPart) → i < length parts → AreParts n (drop i parts) → ((get_or parts i d).num ≢ pos 0) × FitsWhole (get_or parts i d).num
first_number parts i n d lt h = let k = subst (AreParts n) (next_part parts i d lt) h in (k.1, k.2)

pub later_parts : (parts : List LexPart) (i n : ℕ) (d : LexPart) → i < length parts → AreParts n (drop i parts) → (m : ℕ) × AreParts m (drop (i + 1) parts)
later_parts parts i n d lt h = let k = subst (AreParts n) (next_part parts i d lt) h in ((get_or parts i d).rank + 1, k.3)

pub first_divided : (parts : List LexPart) (i n : ℕ) (d : LexPart) → i < length parts → DividesEach n (drop i parts) → (n ∣ unsigned_abs (get_or parts i d).num) × DividesEach n (drop (i + 1) parts)
first_divided parts i n d lt h = subst (DividesEach n) (next_part parts i d lt) h

-- ---- the divisor, by Euclid's steps
module _ (parts : List LexPart) (i n : ℕ) (d : LexPart) (lt : i < length parts) (h : AreParts n (drop i parts)) (x g : ℤ) (gcd : IsGcd (unsigned_abs x) (unsigned_abs (get_or parts i d).num) (unsigned_abs g)) where
  pub step_positive : pos 0 ≤ℤ g → pos 0 <ℤ g
  step_positive s = gcd_above x (get_or parts i d).num g (first_number parts i n d lt h).0 gcd s

  pub step_fits : pos 0 <ℤ x → FitsWhole x → FitsWhole g
  step_fits p f = let l = le_of_dvd (abs_positive x p) gcd.0 in omega (arith, l, f)

  pub step_same : (A : Type 0) (k : ℕ) → A ↔ ((k ∣ unsigned_abs x) × DividesEach k (drop i parts)) → A ↔ ((k ∣ unsigned_abs g) × DividesEach k (drop (i + 1) parts))
  step_same A k s = (
    (λ a. let b = s.0 a in let c = first_divided parts i k d lt b.1 in (gcd.2 k b.0 c.0, c.1)),
    (λ b. s.1 (dvd_trans k b.0 gcd.0, subst (DividesEach k) (sym (next_part parts i d lt)) (dvd_trans k b.0 gcd.1, b.1))),
  )

pub no_more : (A : Type 0) (parts : List LexPart) (i k : ℕ) (x : ℤ) → length parts ≤ i → A ↔ ((k ∣ unsigned_abs x) × DividesEach k (drop i parts)) → A ↔ (k ∣ unsigned_abs x)
no_more A parts i k x le s = ((λ a. (s.0 a).0), (λ b. s.1 (b, subst (DividesEach k) (sym (drop_of_length-le parts le)) tt)))

-- ---- the quotients
pub quotients_more : (g : ℤ) (qs ps : List LexPart) (q p : LexPart) → AreQuotients g qs ps → q.rank ≡ p.rank → g *ℤ q.num ≡ p.num → AreQuotients g (qs ++ q ∷ []) (ps ++ p ∷ [])
quotients_more g [] [] q p h e f = (e, f, tt)
quotients_more g [] (p₁ ∷ ps) q p h e f = absurd h
quotients_more g (q₁ ∷ qs) [] q p h e f = absurd h
quotients_more g (q₁ ∷ qs) (p₁ ∷ ps) q p h e f = (h.0, h.1, quotients_more g qs ps q p h.2 e f)

pub quotients_length : (g : ℤ) (qs ps : List LexPart) → AreQuotients g qs ps → length qs ≡ length ps
quotients_length g [] [] h = refl
quotients_length g [] (p ∷ ps) h = absurd h
quotients_length g (q ∷ qs) [] h = absurd h
quotients_length g (q ∷ qs) (p ∷ ps) h = ap suc (quotients_length g qs ps h.2)

-- one part more
pub quotients_next : (g : ℤ) (qs parts : List LexPart) (i : ℕ) (d q : LexPart) → i < length parts → AreQuotients g qs (take i parts) → q.rank ≡ (get_or parts i d).rank → g *ℤ q.num ≡ (get_or parts i d).num
    → AreQuotients g (qs ++ q ∷ []) (take (i + 1) parts)
quotients_next g qs parts i d q lt h e f = subst (AreQuotients g (qs ++ q ∷ [])) (sym (take_more parts i d lt)) (quotients_more g qs (take i parts) q (get_or parts i d) h e f)

pub quotients_room : (g : ℤ) (qs parts : List LexPart) (i : ℕ) → i < length parts → length parts ≤ PARTS → AreQuotients g qs (take i parts) → length qs < PARTS
quotients_room g qs parts i lt le h = let a = quotients_length g qs (take i parts) h in let b = length-take i parts in omega (arith, a, b, lt, le)

some_quotient : (g q p : ℤ) → g *ℤ q ≡ p → p ≢ pos 0 → q ≢ pos 0
some_quotient g q p e n z = n (sym e ∙ rw z (mul_zero_ℤ g))

quotients_parts : (g : ℤ) (n : ℕ) (qs ps : List LexPart) → pos 0 <ℤ g → AreQuotients g qs ps → AreParts n ps → AreParts n qs
quotients_parts g n [] [] pg h k = tt
quotients_parts g n [] (p ∷ ps) pg h k = absurd h
quotients_parts g n (q ∷ qs) [] pg h k = absurd h
quotients_parts g n (q ∷ qs) (p ∷ ps) pg h k = (
  let a = k.0 in let e = h.0 in omega (arith, a, e),
  some_quotient g q.num p.num h.1 k.1,
  factor_fits g q.num p.num pg h.1 k.2,
  quotients_parts g (q.rank + 1) qs ps pg h.2 (subst (λ m. AreParts (m + 1) ps) (sym h.0) k.3),
)

quotients_entry : (g : ℤ) (qs ps : List LexPart) → AreQuotients g qs ps → (k : ℕ) → g *ℤ entry qs k ≡ entry ps k
quotients_entry g [] [] h k = mul_zero_ℤ g
quotients_entry g [] (p ∷ ps) h k = absurd h
quotients_entry g (q ∷ qs) [] h k = absurd h
quotients_entry g (q ∷ qs) (p ∷ ps) h k = by_rank (quotients_entry g qs ps h.2 k) (three k q.rank)
  where
    other : g *ℤ entry qs k ≡ entry ps k → ¬ (k ≡ q.rank) → g *ℤ entry (q ∷ qs) k ≡ entry (p ∷ ps) k
    other r n = rw (entry_other q qs k n, entry_other p ps k (λ e. n (e ∙ sym h.0))) r

    by_rank : g *ℤ entry qs k ≡ entry ps k → (k < q.rank) ⊎ ((k ≡ q.rank) ⊎ (q.rank < k)) → g *ℤ entry (q ∷ qs) k ≡ entry (p ∷ ps) k
    by_rank r (inl l) = other r (λ e. omega (arith, l, e))
    by_rank r (inr (inl e)) = rw (entry_here q qs k e, entry_here p ps k (e ∙ h.0)) h.1
    by_rank r (inr (inr l)) = other r (λ e. omega (arith, l, e))

-- a divisor of a quotient, times g, divides the number
times_divides : (g q p : ℤ) (d : ℕ) → g *ℤ q ≡ p → d ∣ unsigned_abs q → (unsigned_abs g * d) ∣ unsigned_abs p
times_divides g q p d e h = subst (λ n. unsigned_abs g * d ∣ n) (sym (unsigned_abs-mul g q) ∙ ap unsigned_abs e) (mul-dvd-mul_left d (unsigned_abs g) h)

-- what divides the quotients divides, times g, the numbers
quotients_divide : (g : ℤ) (d : ℕ) (qs ps : List LexPart) → AreQuotients g qs ps → DividesEach d qs → DividesEach (unsigned_abs g * d) ps
quotients_divide g d [] [] h k = tt
quotients_divide g d [] (p ∷ ps) h k = absurd h
quotients_divide g d (q ∷ qs) [] h k = absurd h
quotients_divide g d (q ∷ qs) (p ∷ ps) h k = (times_divides g q.num p.num d h.1 k.0, quotients_divide g d qs ps h.2 k.1)

module _ (g den over : ℤ) (qs ps : List LexPart) (pg : pos 0 <ℤ g) (pd : pos 0 <ℤ den) (gcd : IsCommonGcd ps den g) (h : AreQuotients g qs ps) (e : g *ℤ over ≡ den) where
  no_divisor : HaveNoDivisor qs over
  no_divisor d k m =
      let x : (unsigned_abs g * d) ∣ unsigned_abs g = (gcd (unsigned_abs g * d)).0 (times_divides g over den d e k, quotients_divide g d qs ps h m) in
      let i : unsigned_abs g ≡ unsigned_abs g * 1 = omega arith in
      dvd_antisymm (dvd_of_mul-dvd-mul_left d (abs_positive g pg) (subst (λ n. unsigned_abs g * d ∣ n) i x)) (one-dvd d)

  pub quotients_lowest : IsAccepted ps den → IsLowest (record { parts = qs; den = over })
  quotients_lowest a = (
    (let l = quotients_length g qs ps h in let b = a.0 in omega (arith, l, b), quotients_parts g 0 qs ps pg h a.1, positive over e, factor_fits g over den pg e a.3),
    no_divisor,
  )
    where
      positive : (over : ℤ) → g *ℤ over ≡ den → pos 0 <ℤ over
      positive over e =
          sign_cases over
          (λ n. let m = mul_pos_neg_ℤ g over pg n in absurd (omega (arith, ints, m, e, pd)))
          (λ z. let m : g *ℤ over ≡ pos 0 = rw z (mul_zero_ℤ g) in absurd (omega (arith, ints, m, e, pd)))
          (λ p. p)

  pub quotients_value : HasValue (record { parts = qs; den = over }) ps den
  quotients_value k = ap (λ z. entry qs k *ℤ z) (sym e) ∙ turn (entry qs k) g over ∙ ap (λ z. z *ℤ over) (quotients_entry g qs ps h k)
    where
      turn : (a g o : ℤ) → a *ℤ (g *ℤ o) ≡ (g *ℤ a) *ℤ o
      turn a g o = sym (mul_assoc_ℤ a g o) ∙ ap (λ z. z *ℤ o) (*ℤ_comm a g)
