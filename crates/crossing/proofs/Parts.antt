-- the entries of a line and of its zero, by the parts
use Rattle.std.proofs.Common.{◌≡◌, ◌≢◌, ◌↔◌, inl, inr, ℕ, zero, suc, ◌+◌, ◌-◌, ◌==◌, ◌<◌, ◌≤◌, Bool, true, false, cond, List, [], ◌∷◌, ◌++◌, length, map, take, slice_index_or, ℤ, pos, negsuc, neg_ℤ, ◌+ℤ◌, ◌*ℤ◌, ◌<ℤ◌, IsTrue, rules, FitsSigned, to_z, of_z, to_z-of_z, Ordering, Less, Equal, Greater, refl, sym, ap, subst, ◌∙◌, arith}
use Rattle.std.specs.Int.{w128}
use Rattle.std.specs.Int.Signed.{lt_z}
use Rattle.std.proofs.lemmas.Int.{ints, fits_signed_from_abs}
use Rattle.std.proofs.Math.ListN.{replicate}
use Rattle.std.specs.Ordering.{MatchOrdering}
use Rattle.wide_int.specs.Whole.{FitsWhole}
use Rattle.wide_int.proofs.Signed.{neg_fits}
use Rattle.int_vectors.specs.Vectors.{IsZero, IsPositive, at}
use Rattle.int_vectors.proofs.Entries.{at-zero}
use Rattle.lex_height.specs.declared.part.LexPart.{LexPart}
use Rattle.lex_height.specs.Entries.{entry, entries_from, entries, at_rank}
use Rattle.lex_height.specs.Order.{IsLess, IsSame}
use Rattle.lex_height.specs.Room.{blank}
use Rattle.lex_height.specs.Values as lex
use Rattle.lex_height.proofs.Ranks.{entries_is, entry_other, entry_below, weaker}
use Rattle.lex_height.proofs.Comparing.{less_as, same_as, same_turned}
use Rattle.crossing.specs.declared.line.WallLine.{WallLine}
use Rattle.crossing.specs.declared.leaders.Way.{Way}
use Rattle.crossing.specs.declared.leaders.Way.TheVariants.{Falling, Rising}
use Rattle.crossing.specs.Lines.{FitsLine, value, IsFlat, IsZeroAt}
use Rattle.crossing.specs.Leading.{steep, start, Goes, IsBefore, IsEven}
use Rattle.crossing.specs.Found.{RisesFirst, RisesWith, FallsFirst}
use Rattle.crossing.specs.Zeros.{turned_by, turned_part, first_part, zero_numbers}
use Rattle.crossing.proofs.Values.{value_at, ratio_zero}

-- ---- the entries past rank 0
one_less : (r : ℕ) (x : ℤ) (rest : List ℤ) (k : ℕ) → 1 ≤ r → at (replicate (r - 1) (pos 0) ++ x ∷ rest) k ≡ at (replicate (r - 0) (pos 0) ++ x ∷ rest) (suc k)
one_less zero x rest k le = absurd (omega (arith, le))
one_less (suc r) x rest k le =
    let e : suc r - 1 ≡ r = omega arith in
    let f : suc r ≡ suc r - 0 = omega arith in
    ap (λ n. at (replicate n (pos 0) ++ x ∷ rest) k) e ∙ ap (λ n. at (replicate n (pos 0) ++ x ∷ rest) (suc k)) f

later_is : (fine : List LexPart) → lex.AreParts 1 fine → (k : ℕ) → at (entries_from 1 fine) k ≡ entry fine (suc k)
later_is [] h k = refl
later_is (part ∷ parts) h k = one_less part.rank part.num (entries_from (part.rank + 1) parts) k h.0 ∙ entries_is (part ∷ parts) (weaker 1 0 (part ∷ parts) (omega arith) h) (suc k)

pub start_later : (line : WallLine) → FitsLine line → (k : ℕ) → start line (suc k) ≡ entry line.fine (suc k)
start_later line h k = later_is line.fine h.3 k

none_first : (line : WallLine) → FitsLine line → entry line.fine 0 ≡ pos 0
none_first line h = entry_below 1 line.fine h.3 0 (omega arith)

-- ---- the order of two lines of one way
module _ (way : Way) (x y : WallLine) (fx : FitsLine x) (fy : FitsLine y) where
  -- where the first entries agree, the fine parts decide
  less_fine : x.alpha *ℤ steep way y ≡ y.alpha *ℤ steep way x → IsLess (entry x.fine) (steep way x) (entry y.fine) (steep way y) → IsBefore way x y
  less_fine e h = by_rank h.0 h.1 h.2
    where
      as_entry : (k : ℕ) → entry x.fine (suc k) *ℤ steep way y ≡ entry y.fine (suc k) *ℤ steep way x → start x (suc k) *ℤ steep way y ≡ start y (suc k) *ℤ steep way x
      as_entry k d = rw (start_later x fx k, start_later y fy k) d

      below : (r : ℕ) → ((k : ℕ) → k < suc r → entry x.fine k *ℤ steep way y ≡ entry y.fine k *ℤ steep way x) → (k : ℕ) → k < suc r → start x k *ℤ steep way y ≡ start y k *ℤ steep way x
      below r b zero lt = e
      below r b (suc k) lt = as_entry k (b (suc k) lt)

      by_rank : (r : ℕ) → (entry x.fine r *ℤ steep way y) <ℤ (entry y.fine r *ℤ steep way x) → ((k : ℕ) → k < r → entry x.fine k *ℤ steep way y ≡ entry y.fine k *ℤ steep way x) → IsBefore way x y
      by_rank zero l b = absurd (nothing (entry x.fine 0) (entry y.fine 0) (steep way y) (steep way x) (none_first x fx) (none_first y fy) l)
        where
          nothing : (a b p q : ℤ) → a ≡ pos 0 → b ≡ pos 0 → ¬ ((a *ℤ p) <ℤ (b *ℤ q))
          nothing a b p q ea eb l =
              let m : a *ℤ p ≡ pos 0 = rw ea (omega (arith, ints)) in
              let n : b *ℤ q ≡ pos 0 = rw eb (omega (arith, ints)) in
              omega (arith, ints, m, n, l)
      by_rank (suc r) l b = (suc r, rw (start_later x fx r, start_later y fy r) l, below r b)

  same_fine : x.alpha *ℤ steep way y ≡ y.alpha *ℤ steep way x → IsSame (entry x.fine) (steep way x) (entry y.fine) (steep way y) → IsEven way x y
  same_fine e h zero = e
  same_fine e h (suc k) = rw (start_later x fx k, start_later y fy k) (h (suc k))

pub order_fine : (way : Way) (x y : WallLine) (o : Ordering) → FitsLine x → FitsLine y → x.alpha *ℤ steep way y ≡ y.alpha *ℤ steep way x
    → MatchOrdering o (IsLess (entry x.fine) (steep way x) (entry y.fine) (steep way y)) (IsSame (entry x.fine) (steep way x) (entry y.fine) (steep way y)) (IsLess (entry y.fine) (steep way y) (entry x.fine) (steep way x))
    → MatchOrdering o (IsBefore way x y) (IsEven way x y) (IsBefore way y x)
order_fine way x y Less fx fy e m = less_fine way x y fx fy e m
order_fine way x y Equal fx fy e m = same_fine way x y fx fy e m
order_fine way x y Greater fx fy e m = less_fine way y x fy fx (sym e) m

pub order_first : (way : Way) (x y : WallLine) (o : Ordering) → o ≢ Equal
    → MatchOrdering o ((x.alpha *ℤ steep way y) <ℤ (y.alpha *ℤ steep way x)) (x.alpha *ℤ steep way y ≡ y.alpha *ℤ steep way x) ((y.alpha *ℤ steep way x) <ℤ (x.alpha *ℤ steep way y))
    → MatchOrdering o (IsBefore way x y) (IsEven way x y) (IsBefore way y x)
order_first way x y Less n m = (0, m, λ k lt. absurd (omega (arith, lt)))
order_first way x y Equal n m = absurd (n refl)
order_first way x y Greater n m = (0, m, λ k lt. absurd (omega (arith, lt)))

-- ---- the sign at time 0
after_zeros : (n : ℕ) (x : ℤ) (rest : List ℤ) → pos 0 <ℤ x → IsPositive (replicate n (pos 0) ++ x ∷ rest)
after_zeros zero x rest p = inl p
after_zeros (suc n) x rest p = inr (refl, after_zeros n x rest p)

zeros_before : (n : ℕ) (x : ℤ) (rest : List ℤ) → x ≢ pos 0 → IsPositive (replicate n (pos 0) ++ x ∷ rest) → pos 0 <ℤ x
zeros_before zero x rest s (inl p) = p
zeros_before zero x rest s (inr p) = absurd (s p.0)
zeros_before (suc n) x rest s (inl p) = absurd (omega (arith, ints, p))
zeros_before (suc n) x rest s (inr p) = zeros_before n x rest s p.1

pub first_sign : (alpha : ℤ) (fine : List LexPart) (d : LexPart) → lex.AreParts 1 fine → alpha ≡ pos 0 → 1 ≤ length fine → (pos 0 <ℤ (slice_index_or fine 0 d).num) ↔ IsPositive (alpha ∷ entries_from 1 fine)
first_sign alpha [] d h e le = absurd (omega (arith, le))
first_sign alpha (part ∷ parts) d h e le = (λ p. inr (e, after_zeros (part.rank - 1) part.num (entries_from (part.rank + 1) parts) p), back)
  where
    back : IsPositive (alpha ∷ entries_from 1 (part ∷ parts)) → pos 0 <ℤ part.num
    back (inl p) = absurd (omega (arith, ints, e, p))
    back (inr p) = zeros_before (part.rank - 1) part.num (entries_from (part.rank + 1) parts) h.1 p.1

-- ---- lines that are zero at all times
pub flat_from : (line : WallLine) → line.alpha ≡ pos 0 → line.beta ≡ pos 0 → line.fine ≡ [] → IsFlat line
flat_from line e f g t q pq = zero_list (value line t q) (λ k. value_at line t q k ∙ step q (start line k) line.beta (at t k) (start_none k) f)
  where
    zero_list : (u : List ℤ) → ((k : ℕ) → at u k ≡ pos 0) → IsZero u
    zero_list [] e = tt
    zero_list (x ∷ u) e = (e 0, zero_list u (λ k. e (suc k)))

    step : (q a b p : ℤ) → a ≡ pos 0 → b ≡ pos 0 → q *ℤ a +ℤ b *ℤ p ≡ pos 0
    step q a b p e f = rw (e, f) (omega (arith, ints))

    start_none : (k : ℕ) → start line k ≡ pos 0
    start_none zero = e
    start_none (suc k) = ap (λ l. at (entries_from 1 l) k) g

pub flat_parts : (line : WallLine) → lex.AreParts 1 line.fine → IsFlat line → (line.alpha ≡ pos 0) × (line.beta ≡ pos 0) × (line.fine ≡ [])
flat_parts line h f = (first, second, none line.fine h (λ k. zeros (suc k)))
  where
    here : (a b : ℤ) → pos 1 *ℤ a +ℤ b *ℤ pos 0 ≡ pos 0 → a ≡ pos 0
    here a b e = omega (arith, ints, e)

    zeros : (k : ℕ) → start line k ≡ pos 0
    zeros k = here (start line k) line.beta (sym (value_at line [] (pos 1) k) ∙ at-zero (value line [] (pos 1)) k (f [] (pos 1) (omega (arith, ints))))

    first : line.alpha ≡ pos 0
    first = zeros 0

    there : (a b : ℤ) → a ≡ pos 0 → pos 1 *ℤ a +ℤ b *ℤ pos 1 ≡ pos 0 → b ≡ pos 0
    there a b z e = omega (arith, ints, z, e)

    second : line.beta ≡ pos 0
    second = there line.alpha line.beta first (sym (value_at line (pos 1 ∷ []) (pos 1) 0) ∙ at-zero (value line (pos 1 ∷ []) (pos 1)) 0 (f (pos 1 ∷ []) (pos 1) (omega (arith, ints))))

    past : (n : ℕ) (x : ℤ) (rest : List ℤ) → at (replicate n (pos 0) ++ x ∷ rest) n ≡ x
    past zero x rest = refl
    past (suc n) x rest = past n x rest

    none : (fine : List LexPart) → lex.AreParts 1 fine → ((k : ℕ) → at (entries_from 1 fine) k ≡ pos 0) → fine ≡ []
    none [] h z = refl
    none (part ∷ parts) h z = absurd (h.1 (sym (past (part.rank - 1) part.num (entries_from (part.rank + 1) parts)) ∙ z (part.rank - 1)))

-- ---- the parts of a zero
fits_turned : (way : Way) (x : ℤ) → FitsWhole x → FitsWhole (turned_by way x)
fits_turned Falling x h = h
fits_turned Rising x h = neg_fits x h

some_turned : (way : Way) (x : ℤ) → x ≢ pos 0 → turned_by way x ≢ pos 0
some_turned Falling x n = n
some_turned Rising x n = λ e. n (omega (arith, ints, e))

turned_are : (way : Way) (n : ℕ) (parts : List LexPart) → lex.AreParts n parts → lex.AreParts n (map (turned_part way) parts)
turned_are way n [] h = tt
turned_are way n (part ∷ parts) h = (h.0, some_turned way part.num h.1, fits_turned way part.num h.2, turned_are way (part.rank + 1) parts h.3)

whole_are : (alpha : ℤ) (fine : List LexPart) → FitsWhole alpha → lex.AreParts 1 fine → lex.AreParts 0 (first_part alpha ++ fine)
whole_are (pos zero) fine f h = weaker 1 0 fine (omega arith) h
whole_are (pos (suc n)) fine f h = (omega arith, (λ e. omega (arith, ints, e)), f, h)
whole_are (negsuc n) fine f h = (omega arith, (λ e. omega (arith, ints, e)), f, h)

pub zero_are : (way : Way) (line : WallLine) → FitsLine line → lex.AreParts 0 (zero_numbers way line)
zero_are way line h = turned_are way 0 (first_part line.alpha ++ line.fine) (whole_are line.alpha line.fine h.0 h.3)

count_is : (way : Way) (parts : List LexPart) → length (map (turned_part way) parts) ≡ length parts
count_is way [] = refl
count_is way (part ∷ parts) = ap suc (count_is way parts)

at_most : (alpha : ℤ) (fine : List LexPart) → length (first_part alpha ++ fine) ≤ length fine + 1
at_most (pos zero) fine = omega arith
at_most (pos (suc n)) fine = omega arith
at_most (negsuc n) fine = omega arith

pub zero_room : (way : Way) (alpha : ℤ) (fine : List LexPart) → length (map (turned_part way) (first_part alpha ++ fine)) ≤ length fine + 1
zero_room way alpha fine = let e = count_is way (first_part alpha ++ fine) in let a = at_most alpha fine in omega (arith, e, a)

either_way : (way : Way) (c : Bool) (x y : ℤ) → cond c (turned_by way x) (turned_by way y) ≡ turned_by way (cond c x y)
either_way way true x y = refl
either_way way false x y = refl

turned_none : (way : Way) → pos 0 ≡ turned_by way (pos 0)
turned_none Falling = refl
turned_none Rising = refl

entry_turned : (way : Way) (parts : List LexPart) (k : ℕ) → entry (map (turned_part way) parts) k ≡ turned_by way (entry parts k)
entry_turned way [] k = turned_none way
entry_turned way (part ∷ parts) k = ap (λ z. cond (part.rank == k) (turned_by way part.num) z) (entry_turned way parts k) ∙ either_way way (part.rank == k) part.num (entry parts k)

entry_whole : (alpha : ℤ) (fine : List LexPart) → lex.AreParts 1 fine → (k : ℕ) → entry (first_part alpha ++ fine) k ≡ at (alpha ∷ entries_from 1 fine) k
entry_whole (pos zero) fine h zero = entry_below 1 fine h 0 (omega arith)
entry_whole (pos (suc n)) fine h zero = refl
entry_whole (negsuc n) fine h zero = refl
entry_whole (pos zero) fine h (suc k) = sym (later_is fine h k)
entry_whole (pos (suc n)) fine h (suc k) = entry_other (record { rank = 0; num = pos (suc n) }) fine (suc k) (λ e. omega (arith, e)) ∙ sym (later_is fine h k)
entry_whole (negsuc n) fine h (suc k) = entry_other (record { rank = 0; num = negsuc n }) fine (suc k) (λ e. omega (arith, e)) ∙ sym (later_is fine h k)

pub zero_entry : (way : Way) (line : WallLine) → FitsLine line → (k : ℕ) → entry (zero_numbers way line) k ≡ turned_by way (start line k)
zero_entry way line h k = entry_turned way (first_part line.alpha ++ line.fine) k ∙ ap (turned_by way) (entry_whole line.alpha line.fine h.3 k)

-- ---- a value with the zero's parts
pub zero_value : (way : Way) (line : WallLine) (u : lex.Value) → FitsLine line → lex.IsLowest u → lex.HasValue u (zero_numbers way line) (steep way line) → IsZeroAt line u
zero_value Falling line u h low s =
    ratio_zero Falling line (entries u.parts) u.den (same_as (entry u.parts) (at_rank (entries u.parts)) (entry (zero_numbers Falling line)) (start line) u.den (steep Falling line) (λ k. sym (entries_is u.parts low.0.1 k)) (zero_entry Falling line h) s)
zero_value Rising line u h low s =
    ratio_zero Rising line (entries u.parts) u.den
    (same_as (λ k. neg_ℤ (entry u.parts k)) (λ k. neg_ℤ (at_rank (entries u.parts) k)) (λ k. neg_ℤ (entry (zero_numbers Rising line) k)) (start line) u.den line.beta
    (λ k. ap neg_ℤ (sym (entries_is u.parts low.0.1 k))) (λ k. ap neg_ℤ (zero_entry Rising line h k) ∙ twice (start line k))
    (same_turned (entry u.parts) u.den (entry (zero_numbers Rising line)) line.beta s))
  where
    twice : (x : ℤ) → neg_ℤ (neg_ℤ x) ≡ x
    twice x = omega (arith, ints)

pub first_fits : (fine : List LexPart) (d : LexPart) → lex.AreParts 1 fine → 1 ≤ length fine → FitsWhole (slice_index_or fine 0 d).num
first_fits [] d h le = absurd (omega (arith, le))
first_fits (part ∷ parts) d h le = h.2

-- the test of the first fine part's number
pub first_test : (l fine : List LexPart) (alpha : ℤ) → l ≡ fine → lex.AreParts 1 fine → alpha ≡ pos 0 → 1 ≤ length l
    → IsTrue (lt_z (pos 0) (to_z w128 (of_z w128 (slice_index_or l 0 blank).num))) ↔ IsPositive (alpha ∷ entries_from 1 fine)
first_test l fine alpha e h z le = subst (λ (m : List LexPart). IsTrue (lt_z (pos 0) (to_z w128 (of_z w128 (slice_index_or m 0 blank).num))) ↔ IsPositive (alpha ∷ entries_from 1 fine)) (sym e) here
  where
    here : IsTrue (lt_z (pos 0) (to_z w128 (of_z w128 (slice_index_or fine 0 blank).num))) ↔ IsPositive (alpha ∷ entries_from 1 fine)
    here =
        let lf = subst (λ (m : List LexPart). 1 ≤ length m) e le in
        let ff : FitsSigned w128 (slice_index_or fine 0 blank).num = fits_signed_from_abs w128 _ (first_fits fine blank h lf) in
        let s = first_sign alpha fine blank h z lf in
        let t : IsTrue (lt_z (pos 0) (slice_index_or fine 0 blank).num) ↔ (pos 0 <ℤ (slice_index_or fine 0 blank).num) = search rules in
        simp to_z-of_z (λ i. s.0 (t.0 i), λ p. t.1 (s.1 p))

pub no_length : (l : List LexPart) → length l ≡ 0 → l ≡ []
no_length [] e = refl
no_length (part ∷ parts) e = absurd (omega (arith, e))

-- ---- one part after the other
pub each_fits : (n : ℕ) (fine : List LexPart) (i : ℕ) (d : LexPart) → lex.AreParts n fine → i < length fine → FitsWhole (slice_index_or fine i d).num
each_fits n [] i d h lt = absurd (omega (arith, lt))
each_fits n (part ∷ parts) zero d h lt = h.2
each_fits n (part ∷ parts) (suc i) d h lt = each_fits (part.rank + 1) parts i d h.3 (omega (arith, lt))

module _ (f : LexPart → LexPart) where
  one_more : (fine : List LexPart) (i : ℕ) (d : LexPart) → i < length fine → map f (take i fine) ++ f (slice_index_or fine i d) ∷ [] ≡ map f (take (suc i) fine)
  one_more [] i d lt = absurd (omega (arith, lt))
  one_more (part ∷ parts) zero d lt = refl
  one_more (part ∷ parts) (suc i) d lt = ap (λ (l : List LexPart). f part ∷ l) (one_more parts i d (omega (arith, lt)))

  pub parts_next : (before fine : List LexPart) (i : ℕ) (d : LexPart) → i < length fine → map f (before ++ take i fine) ++ f (slice_index_or fine i d) ∷ [] ≡ map f (before ++ take (i + 1) fine)
  parts_next [] fine i d lt = let e : suc i ≡ i + 1 = omega arith in one_more fine i d lt ∙ ap (λ n. map f (take n fine)) e
  parts_next (part ∷ before) fine i d lt = ap (λ (l : List LexPart). f part ∷ l) (parts_next before fine i d lt)

-- ---- the zero as a value
pub zero_accepted : (way : Way) (line : WallLine) → FitsLine line → Goes way line → FitsWhole (steep way line) → lex.IsAccepted (zero_numbers way line) (steep way line)
zero_accepted way line h g f = (
  (let a = zero_room way line.alpha line.fine in let b = h.2 in omega (arith, a, b)),
  zero_are way line h,
  g,
  f,
)

-- ---- the order of the zeros of a rising and a falling line
pub zeros_order : (x y : WallLine) (o : Ordering) → FitsLine x → FitsLine y
    → MatchOrdering o (IsLess (entry (zero_numbers Rising x)) x.beta (entry (zero_numbers Falling y)) (neg_ℤ y.beta)) (IsSame (entry (zero_numbers Rising x)) x.beta (entry (zero_numbers Falling y)) (neg_ℤ y.beta))
    (IsLess (entry (zero_numbers Falling y)) (neg_ℤ y.beta) (entry (zero_numbers Rising x)) x.beta)
    → MatchOrdering o (RisesFirst x y) (RisesWith x y) (FallsFirst x y)
zeros_order x y Less fx fy m = less_as (entry (zero_numbers Rising x)) (λ k. neg_ℤ (start x k)) (entry (zero_numbers Falling y)) (start y) x.beta (neg_ℤ y.beta) (zero_entry Rising x fx) (zero_entry Falling y fy) m
zeros_order x y Equal fx fy m = same_as (entry (zero_numbers Rising x)) (λ k. neg_ℤ (start x k)) (entry (zero_numbers Falling y)) (start y) x.beta (neg_ℤ y.beta) (zero_entry Rising x fx) (zero_entry Falling y fy) m
zeros_order x y Greater fx fy m = less_as (entry (zero_numbers Falling y)) (start y) (entry (zero_numbers Rising x)) (λ k. neg_ℤ (start x k)) (neg_ℤ y.beta) x.beta (zero_entry Falling y fy) (zero_entry Rising x fx) m

pub firsts_order : (x y : WallLine) (o : Ordering) → o ≢ Equal
    → MatchOrdering o ((neg_ℤ x.alpha *ℤ neg_ℤ y.beta) <ℤ (y.alpha *ℤ x.beta)) (neg_ℤ x.alpha *ℤ neg_ℤ y.beta ≡ y.alpha *ℤ x.beta) ((y.alpha *ℤ x.beta) <ℤ (neg_ℤ x.alpha *ℤ neg_ℤ y.beta))
    → MatchOrdering o (RisesFirst x y) (RisesWith x y) (FallsFirst x y)
firsts_order x y Less n m = (0, m, λ k lt. absurd (omega (arith, lt)))
firsts_order x y Equal n m = absurd (n refl)
firsts_order x y Greater n m = (0, m, λ k lt. absurd (omega (arith, lt)))
