-- one value has one form in lowest terms
use Rattle.std.proofs.Common.{◌≡◌, ◌≢◌, ◌⊎◌, inl, inr, ℕ, ◌+◌, ◌*◌, ◌/◌, ◌<◌, List, [], ◌∷◌, unsigned_abs, arith, refl, sym, ap, ap₂, subst, ◌∙◌, ◌<ℤ◌, Ordering, Less, Equal, Greater}
use Prim.Native.Nat.{◌∣◌}
use Rattle.std.specs.Int.{IsGcd}
use Rattle.std.specs.Ordering.{MatchOrdering}
use Rattle.std.proofs.Math.Nat.{one-dvd, dvd_of_mul-dvd-mul_left, mul-dvd-mul_left, dvd-mul_left, dvd-mul_right, mul-div_cancel}
use Rattle.std.proofs.lemmas.Int.{ints, unsigned_abs-mul}
use Rattle.std.proofs.lemmas.Nat.Gcd.{dvd_antisymm}
use Rattle.std.proofs.Math.IntN.{ℤ, pos, ◌*ℤ◌, ◌-ℤ◌}
use Rattle.wide_int.specs.Divisors.{gcd_of}
use Rattle.wide_int.proofs.CommonDivisors.{gcd_is, gcd_positive, quotient_times, euclid_lemma}
use Rattle.wide_int.proofs.Ring.{zero_mul_ℤ}
use Rattle.wide_int.proofs.Order.{mul_cancel, sign_cases}
use Rattle.wide_int.proofs.Signed.{abs_positive, as_pos, some_abs}
use Rattle.lex_height.specs.declared.part.LexPart.{LexPart}
use Rattle.lex_height.specs.Entries.{entry}
use Rattle.lex_height.specs.Order.{IsLess, IsSame}
use Rattle.lex_height.specs.Divisors.{DividesEach, HaveNoDivisor}
use Rattle.lex_height.specs.Values.{Value, AreParts, IsLowest, IsBelow, HasValue, OneForm, ValuesAreOrdered}
use Rattle.lex_height.proofs.Ranks.{entry_here, entry_other, entry_below, entry_up, three}
use Rattle.lex_height.proofs.Comparing.{not_below_itself, less_less}
use Rattle.lex_height.proofs.Heads.{first_alone, heads_less, rest_less, rest_same}

-- the same ranks, and the same quotients over p and q
AreMates : ℤ → ℤ → List LexPart → List LexPart → Type 0
AreMates p q [] [] = Unit {0}
AreMates p q [] (b ∷ others) = ⊥
AreMates p q (a ∷ more) [] = ⊥
AreMates p q (a ∷ more) (b ∷ others) = (a.rank ≡ b.rank) × (a.num *ℤ q ≡ b.num *ℤ p) × AreMates p q more others

-- a number other than zero isn't nothing
not_nothing : (a b p q : ℤ) → a ≢ pos 0 → b ≡ pos 0 → pos 0 <ℤ q → ¬ (a *ℤ q ≡ b *ℤ p)
not_nothing a b p q n z pq e = n (mul_cancel a (pos 0) q (λ k. omega (arith, ints, k, pq)) (e ∙ ap (λ x. x *ℤ p) z ∙ zero_mul_ℤ p ∙ sym (zero_mul_ℤ q)))

module _ (p q : ℤ) (pp : pos 0 <ℤ p) (pq : pos 0 <ℤ q) where
  mates : (n m : ℕ) (xs ys : List LexPart) → AreParts n xs → AreParts m ys → IsSame (entry xs) p (entry ys) q → AreMates p q xs ys
  unfolding AreMates
  mates n m [] [] hx hy s = tt
  mates n m [] (b ∷ others) hx hy s = not_nothing b.num (pos 0) q p hy.1 refl pp (sym (s b.rank ∙ ap (λ z. z *ℤ p) (entry_here b others b.rank refl)))
  mates n m (a ∷ more) [] hx hy s = not_nothing a.num (pos 0) p q hx.1 refl pq (sym (ap (λ z. z *ℤ q) (entry_here a more a.rank refl)) ∙ s a.rank)
  mates n m (a ∷ more) (b ∷ others) hx hy s =
      let e = by_rank (three a.rank b.rank) in
      let h = sym (ap (λ z. z *ℤ q) (entry_here a more a.rank refl)) ∙ s a.rank ∙ ap (λ z. z *ℤ p) (entry_here b others a.rank e) in
      (e, h, mates (a.rank + 1) (b.rank + 1) more others hx.3 hy.3 (λ k. rest e k (three k a.rank)))
    where
      by_rank : (a.rank < b.rank) ⊎ ((a.rank ≡ b.rank) ⊎ (b.rank < a.rank)) → a.rank ≡ b.rank
      by_rank (inl l) = absurd (not_nothing a.num (entry (b ∷ others) a.rank) p q hx.1 (entry_up m b others hy a.rank l) pq (sym (ap (λ z. z *ℤ q) (entry_here a more a.rank refl)) ∙ s a.rank))
      by_rank (inr (inl e)) = e
      by_rank (inr (inr l)) = absurd (not_nothing b.num (entry (a ∷ more) b.rank) q p hy.1 (entry_up n a more hx b.rank l) pp (sym (s b.rank ∙ ap (λ z. z *ℤ p) (entry_here b others b.rank refl))))

      both : (k : ℕ) → entry more k ≡ pos 0 → entry others k ≡ pos 0 → entry more k *ℤ q ≡ entry others k *ℤ p
      both k x y = rw (x, y) (zero_mul_ℤ q ∙ sym (zero_mul_ℤ p))

      rest : a.rank ≡ b.rank → (k : ℕ) → (k < a.rank) ⊎ ((k ≡ a.rank) ⊎ (a.rank < k)) → entry more k *ℤ q ≡ entry others k *ℤ p
      rest e k (inl l) = both k (entry_below (a.rank + 1) more hx.3 k (omega (arith, l))) (entry_below (b.rank + 1) others hy.3 k (omega (arith, l, e)))
      rest e k (inr (inl f)) = both k (entry_below (a.rank + 1) more hx.3 k (omega (arith, f))) (entry_below (b.rank + 1) others hy.3 k (omega (arith, f, e)))
      rest e k (inr (inr l)) = ap (λ z. z *ℤ q) (sym (entry_other a more k (λ f. omega (arith, l, f)))) ∙ s k ∙ ap (λ z. z *ℤ p) (entry_other b others k (λ f. omega (arith, l, e, f)))

  mates_back : (xs ys : List LexPart) → AreMates p q xs ys → AreMates q p ys xs
  unfolding AreMates
  mates_back [] [] h = tt
  mates_back [] (b ∷ others) h = h
  mates_back (a ∷ more) [] h = h
  mates_back (a ∷ more) (b ∷ others) h = (sym h.0, sym h.1, mates_back more others h.2)

same_mates : (p q : ℤ) → p ≡ q → p ≢ pos 0 → (xs ys : List LexPart) → AreMates p q xs ys → xs ≡ ys
unfolding AreMates
same_mates p q e n [] [] h = refl
same_mates p q e n [] (b ∷ others) h = absurd h
same_mates p q e n (a ∷ more) [] h = absurd h
same_mates p q e n (a ∷ more) (b ∷ others) h =
    let k : a.num ≡ b.num = mul_cancel a.num b.num p n (ap (λ z. a.num *ℤ z) e ∙ h.1) in
    ap₂ (λ (x : LexPart) (xs : List LexPart). x ∷ xs) (ap₂ (λ (r : ℕ) (z : ℤ). record { rank = r; num = z }) h.0 k) (same_mates p q e n more others h.2)

-- ---- the denominators
module _ (p q : ℤ) (pp : pos 0 <ℤ p) where
  abbrev P : ℕ
  P = unsigned_abs p

  abbrev Q : ℕ
  Q = unsigned_abs q

  abbrev g : ℕ
  g = gcd_of P Q

  above : 0 < g
  above = gcd_positive P Q g (abs_positive p pp) (gcd_is P Q).0

  share : (P / g) * g ≡ P
  share = quotient_times P g (gcd_is P Q).0

  other_share : (Q / g) * g ≡ Q
  other_share = quotient_times Q g (gcd_is P Q).1

  shares_apart : IsGcd (Q / g) (P / g) 1
  shares_apart = (
    one-dvd (Q / g),
    one-dvd (P / g),
    λ d h k.
        let i : g ≡ g * 1 = omega arith in
        let x = subst (λ n. (g * d) ∣ n) (turn g (P / g) ∙ share) (mul-dvd-mul_left d g k) in
        let y = subst (λ n. (g * d) ∣ n) (turn g (Q / g) ∙ other_share) (mul-dvd-mul_left d g h) in
        dvd_of_mul-dvd-mul_left d above (subst (λ n. (g * d) ∣ n) i ((gcd_is P Q).2 (g * d) x y)),
  )
    where
      turn : (a b : ℕ) → a * b ≡ b * a
      turn a b = omega arith

  -- what is left of p divides each number
  share_divides : (n : ℕ) (xs ys : List LexPart) → AreParts n xs → AreMates p q xs ys → DividesEach (P / g) xs
  unfolding AreMates
  share_divides n [] ys h m = tt
  share_divides n (a ∷ more) [] h m = absurd m
  share_divides n (a ∷ more) (b ∷ others) h m = (euclid_lemma (Q / g) (P / g) (unsigned_abs a.num) (some_abs a.num h.1) shares_apart divides, share_divides (a.rank + 1) more others h.3 m.2)
    where
      whole : unsigned_abs a.num * Q ≡ unsigned_abs b.num * P
      whole = sym (unsigned_abs-mul a.num q) ∙ ap unsigned_abs m.1 ∙ unsigned_abs-mul b.num p

      left : (x s g : ℕ) → x * s * g ≡ x * (s * g)
      left x s g = omega arith

      cancel : (x y g s t : ℕ) → 0 < g → x * (s * g) ≡ y * (t * g) → x * s ≡ y * t
      cancel x y g s t h e = sym (mul-div_cancel (x * s) h) ∙ ap (λ n. n / g) (left x s g ∙ e ∙ sym (left y t g)) ∙ mul-div_cancel (y * t) h

      divides : (P / g) ∣ (unsigned_abs a.num * (Q / g))
      divides = subst (λ n. (P / g) ∣ n) (sym (cancel (unsigned_abs a.num) (unsigned_abs b.num) g (Q / g) (P / g) above (ap (λ n. unsigned_abs a.num * n) other_share ∙ whole ∙ ap (λ n. unsigned_abs b.num * n) (sym share)))) (dvd-mul_left (P / g) (unsigned_abs b.num))

  den_divides : (n : ℕ) (xs ys : List LexPart) → AreParts n xs → HaveNoDivisor xs p → AreMates p q xs ys → P ∣ Q
  den_divides n xs ys h low m =
      let one : P / g ≡ 1 = low (P / g) (subst (λ k. (P / g) ∣ k) share (dvd-mul_right (P / g) g)) (share_divides n xs ys h m) in
      let e : g ≡ P = sym (times_one g) ∙ ap (λ k. k * g) (sym one) ∙ share in
      subst (λ k. k ∣ Q) e (gcd_is P Q).1
    where
      times_one : (g : ℕ) → 1 * g ≡ g
      times_one g = omega arith

pub one_form_is : OneForm
one_form_is v w h k s =
    let m = mates v.den w.den h.0.2 k.0.2 0 0 v.parts w.parts h.0.1 k.0.1 s in
    let n = mates_back v.den w.den h.0.2 k.0.2 v.parts w.parts m in
    let pv = h.0.2 in
    let pw = k.0.2 in
    let same = dvd_antisymm (den_divides v.den w.den pv 0 v.parts w.parts h.0.1 h.1 m) (den_divides w.den v.den pw 0 w.parts v.parts k.0.1 k.1 n) in
    let e = as_pos v.den (omega (arith, ints, pv)) ∙ ap pos same ∙ sym (as_pos w.den (omega (arith, ints, pw))) in
    ap₂ (λ (ps : List LexPart) (d : ℤ). record { parts = ps; den = d }) (same_mates v.den w.den e (λ z. let a = h.0.2 in omega (arith, ints, a, z)) v.parts w.parts m) e

-- ---- the order
by_sign : (z : ℤ) → (o : Ordering) × MatchOrdering o (z <ℤ pos 0) (z ≡ pos 0) (pos 0 <ℤ z)
by_sign z = sign_cases z (λ n. (Less, n)) (λ e. (Equal, e)) (λ p. (Greater, p))

module _ (p q : ℤ) (pp : pos 0 <ℤ p) (pq : pos 0 <ℤ q) where
  abbrev pub Either : List LexPart → List LexPart → Type 0
  Either xs ys = IsLess (entry xs) p (entry ys) q ⊎ (IsSame (entry xs) p (entry ys) q ⊎ IsLess (entry ys) q (entry xs) p)

  alone : (o : Ordering) (xs ys : List LexPart) → MatchOrdering o (IsLess (entry xs) p (entry ys) q) ⊥ (IsLess (entry ys) q (entry xs) p) → Either xs ys
  alone Less xs ys h = inl h
  alone Equal xs ys h = absurd h
  alone Greater xs ys h = inr (inr h)

  turned : (o : Ordering) (xs ys : List LexPart) → MatchOrdering o (IsLess (entry ys) q (entry xs) p) ⊥ (IsLess (entry xs) p (entry ys) q) → Either xs ys
  turned Less xs ys h = inr (inr h)
  turned Equal xs ys h = absurd h
  turned Greater xs ys h = inl h

  -- one of two values is less, or they are the same
  pub either : (n m : ℕ) (xs ys : List LexPart) → AreParts n xs → AreParts m ys → Either xs ys
  either n m [] [] hx hy = inr (inl (λ k. zero_mul_ℤ q ∙ sym (zero_mul_ℤ p)))
  either n m [] (b ∷ others) hx hy = let o = by_sign b.num in turned o.0 [] (b ∷ others) (first_alone q p pq pp o.0 m (b.rank + 1) b others [] hy tt (omega arith) o.1)
  either n m (a ∷ more) [] hx hy = let o = by_sign a.num in alone o.0 (a ∷ more) [] (first_alone p q pp pq o.0 n (a.rank + 1) a more [] hx tt (omega arith) o.1)
  either n m (a ∷ more) (b ∷ others) hx hy = by_rank (either (a.rank + 1) (b.rank + 1) more others hx.3 hy.3) (three a.rank b.rank)
    where
      even : Either more others → a.rank ≡ b.rank → Either (a ∷ more) (b ∷ others)
      even r e =
          sign_cases (b.num *ℤ p -ℤ a.num *ℤ q)
          (λ l. inr (inr (heads_less q p pq pp m n b a others more hy hx (sym e) (omega (arith, ints, l)))))
          (λ z. let s : a.num *ℤ q ≡ b.num *ℤ p = omega (arith, ints, z) in elim r [
            | inl l ↦ inl (rest_less p q pp pq n m a b more others hx hy e s l)
            | inr t ↦ inr (elim t [
              | inl i ↦ inl (rest_same p q pp pq n m a b more others hx hy e s i)
              | inr l ↦ inr (rest_less q p pq pp m n b a others more hy hx (sym e) (sym s) l)
            ])
          ])
          (λ l. inl (heads_less p q pp pq n m a b more others hx hy e (omega (arith, ints, l))))

      by_rank : Either more others → (a.rank < b.rank) ⊎ ((a.rank ≡ b.rank) ⊎ (b.rank < a.rank)) → Either (a ∷ more) (b ∷ others)
      by_rank r (inl l) = let o = by_sign a.num in alone o.0 (a ∷ more) (b ∷ others) (first_alone p q pp pq o.0 n b.rank a more (b ∷ others) hx (omega arith, hy.1, hy.2, hy.3) l o.1)
      by_rank r (inr (inl e)) = even r e
      by_rank r (inr (inr l)) = let o = by_sign b.num in turned o.0 (a ∷ more) (b ∷ others) (first_alone q p pq pp o.0 m a.rank b others (a ∷ more) hy (omega arith, hx.1, hx.2, hx.3) l o.1)

pub ordered_is : ValuesAreOrdered
ordered_is = record {
  apart = λ v. not_below_itself (entry v.parts) v.den;
  transitive = λ v w x hv hw hx a b. less_less (entry v.parts) v.den (entry w.parts) w.den (entry x.parts) x.den hv.0.2 hw.0.2 hx.0.2 a b;
  total = λ v w hv hw a b. elim (either v.den w.den hv.0.2 hw.0.2 0 0 v.parts w.parts hv.0.1 hw.0.1) [
    | inl l ↦ absurd (a l)
    | inr t ↦ elim t [ inl s ↦ one_form_is v w hv hw s | inr l ↦ absurd (b l) ]
  ];
}

-- the order of the values is that of their parts
pub order_is : (o : Ordering) (v w : Value) → IsLowest v → IsLowest w → MatchOrdering o (IsBelow v w) (HasValue v w.parts w.den) (IsBelow w v) → MatchOrdering o (IsBelow v w) (v ≡ w) (IsBelow w v)
order_is Less v w hv hw h = h
order_is Equal v w hv hw h = one_form_is v w hv hw h
order_is Greater v w hv hw h = h
