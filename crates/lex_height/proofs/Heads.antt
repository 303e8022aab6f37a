-- the order of two lists of parts by their first parts
use Rattle.std.proofs.Common.{◌≡◌, ◌≢◌, ◌⊎◌, inl, inr, ℕ, ◌+◌, ◌-◌, ◌<◌, ◌≤◌, List, [], ◌∷◌, arith, refl, sym, ap, subst, ◌∙◌, ◌<ℤ◌, Ordering, Less, Equal, Greater}
use Rattle.std.proofs.lemmas.Int.{ints}
use Rattle.std.proofs.Math.IntN.{ℤ, pos, ◌*ℤ◌}
use Rattle.std.proofs.Math.ListN.{get_or, take, drop, length}
use Rattle.std.specs.Ordering.{MatchOrdering, int_cmp}
use Rattle.std.proofs.lemmas.Cmp.{int_ranked}
use Rattle.wide_int.proofs.Ring.{zero_mul_ℤ}
use Rattle.wide_int.proofs.Order.{mul_lt_ℤ, mul_pos_ℤ}
use Rattle.lex_height.specs.declared.part.LexPart.{LexPart}
use Rattle.lex_height.specs.Entries.{entry}
use Rattle.lex_height.specs.Order.{IsLess, IsSame}
use Rattle.lex_height.specs.Values.{AreParts}
use Rattle.lex_height.proofs.Ranks.{entry_here, entry_other, entry_below, entry_up, three}

both_zero : (a b p q : ℤ) → a ≡ pos 0 → b ≡ pos 0 → a *ℤ q ≡ b *ℤ p
both_zero a b p q e f = rw (e, f) (zero_mul_ℤ q ∙ sym (zero_mul_ℤ p))

-- a number other than zero against nothing at its rank
above_nothing : (a b p q : ℤ) → b ≡ pos 0 → pos 0 <ℤ q → pos 0 <ℤ a → (b *ℤ p) <ℤ (a *ℤ q)
above_nothing a b p q e h k = let m = mul_pos_ℤ a q k h in let z = zero_mul_ℤ p in rw e (omega (arith, ints, m, z))

below_nothing : (a b p q : ℤ) → b ≡ pos 0 → pos 0 <ℤ q → a <ℤ pos 0 → (a *ℤ q) <ℤ (b *ℤ p)
below_nothing a b p q e h k = let m = mul_lt_ℤ a (pos 0) q k h in let z = zero_mul_ℤ p in let y = zero_mul_ℤ q in rw e (omega (arith, ints, m, z, y))

-- the order of x and 0
abbrev pub BySign : Ordering → ℤ → Type 0
BySign o x = MatchOrdering o (x <ℤ pos 0) (x ≡ pos 0) (pos 0 <ℤ x)

module _ (p q : ℤ) (pp : pos 0 <ℤ p) (pq : pos 0 <ℤ q) where
  -- a list that begins before all of the other
  pub first_alone : (o : Ordering) (n m : ℕ) (a : LexPart) (more others : List LexPart) → AreParts n (a ∷ more) → AreParts m others → a.rank < m → BySign o a.num
      → MatchOrdering o (IsLess (entry (a ∷ more)) p (entry others) q) ⊥ (IsLess (entry others) q (entry (a ∷ more)) p)
  first_alone Less n m a more others ha hb lt s = (
    a.rank,
    rw (entry_here a more a.rank refl) (below_nothing a.num (entry others a.rank) p q (entry_below m others hb a.rank lt) pq s),
    λ k l. both_zero (entry (a ∷ more) k) (entry others k) p q (entry_up n a more ha k l) (entry_below m others hb k (omega (arith, l, lt))),
  )
  first_alone Equal n m a more others ha hb lt s = ha.1 s
  first_alone Greater n m a more others ha hb lt s = (
    a.rank,
    rw (entry_here a more a.rank refl) (above_nothing a.num (entry others a.rank) p q (entry_below m others hb a.rank lt) pq s),
    λ k l. both_zero (entry others k) (entry (a ∷ more) k) q p (entry_below m others hb k (omega (arith, l, lt))) (entry_up n a more ha k l),
  )

  -- two lists that begin at one rank
  pub heads_less : (n m : ℕ) (a b : LexPart) (more others : List LexPart) → AreParts n (a ∷ more) → AreParts m (b ∷ others) → a.rank ≡ b.rank → (a.num *ℤ q) <ℤ (b.num *ℤ p)
      → IsLess (entry (a ∷ more)) p (entry (b ∷ others)) q
  heads_less n m a b more others ha hb e h = (
    a.rank,
    rw (entry_here a more a.rank refl, entry_here b others a.rank e) h,
    λ k l. both_zero (entry (a ∷ more) k) (entry (b ∷ others) k) p q (entry_up n a more ha k l) (entry_up m b others hb k (omega (arith, l, e))),
  )

  pub rest_less : (n m : ℕ) (a b : LexPart) (more others : List LexPart) → AreParts n (a ∷ more) → AreParts m (b ∷ others) → a.rank ≡ b.rank → a.num *ℤ q ≡ b.num *ℤ p
      → IsLess (entry more) p (entry others) q → IsLess (entry (a ∷ more)) p (entry (b ∷ others)) q
  rest_less n m a b more others ha hb e h l = by_rank (three l.0 (a.rank + 1))
    where
      behind : a.rank + 1 ≤ l.0 → IsLess (entry (a ∷ more)) p (entry (b ∷ others)) q
      behind le = (
        l.0,
        rw (entry_other a more l.0 (λ f. omega (arith, le, f)), entry_other b others l.0 (λ f. omega (arith, le, e, f))) l.1,
        λ k lt. elim (three k a.rank) [
          | inl s ↦ both_zero (entry (a ∷ more) k) (entry (b ∷ others) k) p q (entry_up n a more ha k s) (entry_up m b others hb k (omega (arith, s, e)))
          | inr r ↦ elim r [
            | inl f ↦ rw (entry_here a more k f, entry_here b others k (f ∙ e)) h
            | inr g ↦ rw (entry_other a more k (λ f. omega (arith, g, f)), entry_other b others k (λ f. omega (arith, g, e, f))) (l.2 k lt)
          ]
        ],
      )

      by_rank : (l.0 < a.rank + 1) ⊎ ((l.0 ≡ a.rank + 1) ⊎ (a.rank + 1 < l.0)) → IsLess (entry (a ∷ more)) p (entry (b ∷ others)) q
      by_rank (inl s) =
          let x = entry_below (a.rank + 1) more ha.3 l.0 s in
          let y = entry_below (b.rank + 1) others hb.3 l.0 (omega (arith, s, e)) in
          let z = both_zero (entry more l.0) (entry others l.0) p q x y in
          let w = l.1 in
          absurd (omega (arith, ints, z, w))
      by_rank (inr (inl f)) = behind (omega (arith, f))
      by_rank (inr (inr g)) = behind (omega (arith, g))

  pub rest_same : (n m : ℕ) (a b : LexPart) (more others : List LexPart) → AreParts n (a ∷ more) → AreParts m (b ∷ others) → a.rank ≡ b.rank → a.num *ℤ q ≡ b.num *ℤ p
      → IsSame (entry more) p (entry others) q → IsSame (entry (a ∷ more)) p (entry (b ∷ others)) q
  rest_same n m a b more others ha hb e h l k = elim (three k a.rank) [
    | inl s ↦ both_zero (entry (a ∷ more) k) (entry (b ∷ others) k) p q (entry_up n a more ha k s) (entry_up m b others hb k (omega (arith, s, e)))
    | inr r ↦ elim r [
      | inl f ↦ rw (entry_here a more k f, entry_here b others k (f ∙ e)) h
      | inr g ↦ rw (entry_other a more k (λ f. omega (arith, g, f)), entry_other b others k (λ f. omega (arith, g, e, f))) (l k)
    ]
  ]

whole_rest : (a : LexPart) (more : List LexPart) → take (length (a ∷ more) - 1) more ≡ more
whole_rest a more = let e : length (a ∷ more) - 1 ≡ length more = omega arith in ap (λ n. take n more) e ∙ all more
  where
    all : (more : List LexPart) → take (length more) more ≡ more
    all [] = refl
    all (a ∷ more) = ap (λ l. a ∷ l) (all more)

pub no_tie : (P Q R : Type 0) (o : Ordering) → MatchOrdering o P ⊥ R → MatchOrdering o P Q R
no_tie P Q R Less h = h
no_tie P Q R Equal h = absurd h
no_tie P Q R Greater h = h

module _ (p q : ℤ) (pp : pos 0 <ℤ p) (pq : pos 0 <ℤ q) where
  pub second_alone : (o : Ordering) (n m : ℕ) (b : LexPart) (more others : List LexPart) → AreParts n more → AreParts m (b ∷ others) → b.rank < n → MatchOrdering o (pos 0 <ℤ b.num) (pos 0 ≡ b.num) (b.num <ℤ pos 0)
      → MatchOrdering o (IsLess (entry more) p (entry (b ∷ others)) q) ⊥ (IsLess (entry (b ∷ others)) q (entry more) p)
  second_alone Less n m b more others ha hb lt s = first_alone q p pq pp Greater m n b others more hb ha lt s
  second_alone Equal n m b more others ha hb lt s = hb.1 (sym s)
  second_alone Greater n m b more others ha hb lt s = first_alone q p pq pp Less m n b others more hb ha lt s

  -- the order of two lists whose first parts are at one rank
  heads_even : (o : Ordering) (n m : ℕ) (a b : LexPart) (more others : List LexPart) → AreParts n (a ∷ more) → AreParts m (b ∷ others) → a.rank ≡ b.rank
      → MatchOrdering o ((a.num *ℤ q) <ℤ (b.num *ℤ p)) (a.num *ℤ q ≡ b.num *ℤ p) ((b.num *ℤ p) <ℤ (a.num *ℤ q))
      → MatchOrdering o (IsLess (entry (a ∷ more)) p (entry (b ∷ others)) q) ((a.rank ≡ b.rank) × (a.num *ℤ q ≡ b.num *ℤ p)) (IsLess (entry (b ∷ others)) q (entry (a ∷ more)) p)
  heads_even Less n m a b more others ha hb e h = heads_less p q pp pq n m a b more others ha hb e h
  heads_even Equal n m a b more others ha hb e h = (e, h)
  heads_even Greater n m a b more others ha hb e h = heads_less q p pq pp m n b a others more hb ha (sym e) h

  -- ---- the arms of the comparison
  pub arm_even : (o : Ordering) (a b : LexPart) → a.rank ≡ b.rank → MatchOrdering o ((a.num *ℤ q) <ℤ (b.num *ℤ p)) (a.num *ℤ q ≡ b.num *ℤ p) ((b.num *ℤ p) <ℤ (a.num *ℤ q))
      → (more others : List LexPart) → AreParts 0 (a ∷ more) → AreParts 0 (b ∷ others)
      → MatchOrdering o (IsLess (entry (a ∷ more)) p (entry (b ∷ others)) q) ((a.rank ≡ b.rank) × (a.num *ℤ q ≡ b.num *ℤ p)) (IsLess (entry (b ∷ others)) q (entry (a ∷ more)) p)
  arm_even o a b e h more others ha hb = heads_even o 0 0 a b more others ha hb e h

  pub arm_less : (o : Ordering) (a b : LexPart) → a.rank < b.rank → o ≡ int_cmp a.num (pos 0)
      → (more others : List LexPart) → AreParts 0 (a ∷ more) → AreParts 0 (b ∷ others)
      → MatchOrdering o (IsLess (entry (a ∷ more)) p (entry (b ∷ others)) q) ((a.rank ≡ b.rank) × (a.num *ℤ q ≡ b.num *ℤ p)) (IsLess (entry (b ∷ others)) q (entry (a ∷ more)) p)
  arm_less o a b lt e more others ha hb = no_tie _ _ _ o (first_alone p q pp pq o 0 b.rank a more (b ∷ others) ha (omega arith, hb.1, hb.2, hb.3) lt (int_ranked a.num (pos 0) o e))

  pub arm_greater : (o : Ordering) (a b : LexPart) → b.rank < a.rank → o ≡ int_cmp (pos 0) b.num
      → (more others : List LexPart) → AreParts 0 (a ∷ more) → AreParts 0 (b ∷ others)
      → MatchOrdering o (IsLess (entry (a ∷ more)) p (entry (b ∷ others)) q) ((a.rank ≡ b.rank) × (a.num *ℤ q ≡ b.num *ℤ p)) (IsLess (entry (b ∷ others)) q (entry (a ∷ more)) p)
  arm_greater o a b lt e more others ha hb = no_tie _ _ _ o (second_alone o a.rank 0 b (a ∷ more) others (omega arith, ha.1, ha.2, ha.3) hb lt (int_ranked (pos 0) b.num o e))

  pub against_none : (o : Ordering) (xs ys : List LexPart) (d : LexPart) → 1 ≤ length xs → length ys ≡ 0 → AreParts 0 xs → o ≡ int_cmp (get_or xs 0 d).num (pos 0)
      → MatchOrdering o (IsLess (entry xs) p (entry ys) q) (IsSame (entry xs) p (entry ys) q) (IsLess (entry ys) q (entry xs) p)
  against_none o [] ys d le z h e = absurd (omega (arith, le))
  against_none o (a ∷ more) (b ∷ others) d le z h e = absurd (omega (arith, z))
  against_none o (a ∷ more) [] d le z h e = no_tie _ _ _ o (first_alone p q pp pq o 0 (a.rank + 1) a more [] h tt (omega arith) (int_ranked a.num (pos 0) o e))

  pub none_against : (o : Ordering) (xs ys : List LexPart) (d : LexPart) → length xs ≡ 0 → 1 ≤ length ys → AreParts 0 ys → o ≡ int_cmp (pos 0) (get_or ys 0 d).num
      → MatchOrdering o (IsLess (entry xs) p (entry ys) q) (IsSame (entry xs) p (entry ys) q) (IsLess (entry ys) q (entry xs) p)
  none_against o xs [] d z le h e = absurd (omega (arith, le))
  none_against o (a ∷ more) (b ∷ others) d z le h e = absurd (omega (arith, z))
  none_against o [] (b ∷ others) d z le h e = no_tie _ _ _ o (second_alone o (b.rank + 1) 0 b [] others tt h (omega arith) (int_ranked (pos 0) b.num o e))

  -- what the first parts tell, of any lists
  abbrev pub Told : Ordering → LexPart → LexPart → Type 0
  Told o a b = (more others : List LexPart) → AreParts 0 (a ∷ more) → AreParts 0 (b ∷ others)
      → MatchOrdering o (IsLess (entry (a ∷ more)) p (entry (b ∷ others)) q) ((a.rank ≡ b.rank) × (a.num *ℤ q ≡ b.num *ℤ p)) (IsLess (entry (b ∷ others)) q (entry (a ∷ more)) p)

  behind_even : (o : Ordering) (a b : LexPart) (more others : List LexPart) → AreParts 0 (a ∷ more) → AreParts 0 (b ∷ others) → (a.rank ≡ b.rank) × (a.num *ℤ q ≡ b.num *ℤ p)
      → MatchOrdering o (IsLess (entry more) p (entry others) q) (IsSame (entry more) p (entry others) q) (IsLess (entry others) q (entry more) p)
      → MatchOrdering o (IsLess (entry (a ∷ more)) p (entry (b ∷ others)) q) (IsSame (entry (a ∷ more)) p (entry (b ∷ others)) q) (IsLess (entry (b ∷ others)) q (entry (a ∷ more)) p)
  behind_even Less a b more others ha hb t m = rest_less p q pp pq 0 0 a b more others ha hb t.0 t.1 m
  behind_even Equal a b more others ha hb t m = rest_same p q pp pq 0 0 a b more others ha hb t.0 t.1 m
  behind_even Greater a b more others ha hb t m = rest_less q p pq pp 0 0 b a others more hb ha (sym t.0) (sym t.1) m

  pub by_rest : (o : Ordering) (xs ys : List LexPart) (d e : LexPart) → 1 ≤ length xs → 1 ≤ length ys → AreParts 0 xs → AreParts 0 ys → Told Equal (get_or xs 0 d) (get_or ys 0 e)
      → MatchOrdering o (IsLess (entry (take (length xs - 1) (drop 1 xs))) p (entry (take (length ys - 1) (drop 1 ys))) q) (IsSame (entry (take (length xs - 1) (drop 1 xs))) p (entry (take (length ys - 1) (drop 1 ys))) q)
      (IsLess (entry (take (length ys - 1) (drop 1 ys))) q (entry (take (length xs - 1) (drop 1 xs))) p)
      → MatchOrdering o (IsLess (entry xs) p (entry ys) q) (IsSame (entry xs) p (entry ys) q) (IsLess (entry ys) q (entry xs) p)
  by_rest o [] ys d e lx ly hx hy t m = absurd (omega (arith, lx))
  by_rest o (a ∷ more) [] d e lx ly hx hy t m = absurd (omega (arith, ly))
  by_rest o (a ∷ more) (b ∷ others) d e lx ly hx hy t m =
      behind_even o a b more others hx hy (t more others hx hy)
      (subst (λ l. MatchOrdering o (IsLess (entry more) p (entry l) q) (IsSame (entry more) p (entry l) q) (IsLess (entry l) q (entry more) p)) (whole_rest b others)
      (subst (λ l. MatchOrdering o (IsLess (entry l) p (entry (take (length (b ∷ others) - 1) others)) q) (IsSame (entry l) p (entry (take (length (b ∷ others) - 1) others)) q) (IsLess (entry (take (length (b ∷ others) - 1) others)) q (entry l) p)) (whole_rest a more) m))

  pub by_heads : (o : Ordering) (xs ys : List LexPart) (d e : LexPart) → 1 ≤ length xs → 1 ≤ length ys → AreParts 0 xs → AreParts 0 ys → o ≢ Equal → Told o (get_or xs 0 d) (get_or ys 0 e)
      → MatchOrdering o (IsLess (entry xs) p (entry ys) q) (IsSame (entry xs) p (entry ys) q) (IsLess (entry ys) q (entry xs) p)
  by_heads o [] ys d e lx ly hx hy n t = absurd (omega (arith, lx))
  by_heads o (a ∷ more) [] d e lx ly hx hy n t = absurd (omega (arith, ly))
  by_heads o (a ∷ more) (b ∷ others) d e lx ly hx hy n t = decided _ _ _ _ o n (t more others hx hy)
    where
      decided : (P Q R S : Type 0) (o : Ordering) → o ≢ Equal → MatchOrdering o P Q R → MatchOrdering o P S R
      decided P Q R S Less n h = h
      decided P Q R S Equal n h = absurd (n refl)
      decided P Q R S Greater n h = h
