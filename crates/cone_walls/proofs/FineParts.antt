-- the parts of a line, point by point, are the sums by rank
use Rattle.std.proofs.Common.{rules, ◌≡◌, ◌≢◌, ℕ, zero, suc, ◌+◌, ◌*◌, ◌-◌, ◌<◌, ◌≤◌, ◌==◌, Bool, true, false, if◌then◌else◌, List, [], ◌∷◌, ◌++◌, length, arith, refl, ap, ap₂, subst, ◌∙◌}
use Rattle.std.proofs.lemmas.Int.{ints}
use Rattle.std.proofs.lemmas.Bool.{ne_eqb, eq-eqb, eqb-true}
use Rattle.std.proofs.lemmas.List.{length-append}
use native.Mathlib.Decide.{ℕ_discrete}
use Rattle.std.specs.Prelude.{nat_lt}
use Rattle.std.proofs.Math.IntN.{ℤ, pos, negsuc, ◌+ℤ◌, ◌*ℤ◌, *ℤ-zero}
use Rattle.wide_int.specs.Whole.{FitsWhole}
use Rattle.int_vectors.specs.Vectors.{Each, at, at_place}
use Rattle.lex_height.specs.declared.part.LexPart.{LexPart}
use Rattle.lex_height.specs.Entries.{entry}
use Rattle.lex_height.specs.Values.{AreParts}
use Rattle.lex_height.proofs.Ranks.{entry_here, entry_other, entry_below, weaker}
use Rattle.cayley.specs.Problems.{Point, Problem, point_at}
use Rattle.cayley.specs.Cells.{Cell, EachPair, IsFurther}
use Rattle.cayley.specs.Dependencies.{Numbers, pair_at, total, nth_support}
use Rattle.cayley.specs.Normals.{mark}
use Rattle.cayley.proofs.OneCell.CellRows.{InRange}
use Rattle.inner_normal.specs.RankedNumbers.{Ranked, ranked}
use Rattle.cone_walls.specs.Fines.{has_rank, sum_of_rank}
use Rattle.cone_walls.specs.Parts.{part_of, parts_of, two_points, three_points, points_in, all_points}
use Rattle.cone_walls.proofs.RisingRanks.{rank_at, AllFrom, Rise, AllRise, from_one}

-- ---- the sum of the numbers of one rank
abbrev weighed : ℕ → List Ranked → ℤ
weighed r [] = pos 0
weighed r (x ∷ xs) = x.1 *ℤ at (mark (pos 1) x.0) r +ℤ weighed r xs

place_here : (k : ℕ) → at (at_place k (pos 1)) k ≡ pos 1
place_here zero = refl
place_here (suc k) = place_here k

place_other : (k r : ℕ) → r ≢ k → at (at_place k (pos 1)) r ≡ pos 0
place_other zero zero n = absurd (n refl)
place_other zero (suc r) n = refl
place_other (suc k) zero n = refl
place_other (suc k) (suc r) n = place_other k r (λ e. n (ap suc e))

-- a part before others of greater ranks
one_part : (n k : ℕ) (number : ℤ) (rest : List LexPart) (r : ℕ) → AreParts n (record { rank = suc k; num = number } ∷ rest)
    → entry (record { rank = suc k; num = number } ∷ rest) r ≡ number *ℤ at (mark (pos 1) (suc k)) r +ℤ entry rest r
one_part n k number rest r h = elim (ℕ_discrete r (suc k)) [
  | yes e ↦
      let a : at (at_place (suc k) (pos 1)) r ≡ pos 1 = ap (at (at_place (suc k) (pos 1))) e ∙ place_here (suc k) in
      let b = entry_below (suc k + 1) rest h.3 r (omega (arith, e)) in
      entry_here (record { rank = suc k; num = number }) rest r e ∙ rw (a, b) (one number)
  | no d ↦
      let a : at (at_place (suc k) (pos 1)) r ≡ pos 0 = place_other (suc k) r d in
      entry_other (record { rank = suc k; num = number }) rest r d ∙ rw a (none number (entry rest r))
]
  where
    one : (x : ℤ) → x ≡ x *ℤ pos 1 +ℤ pos 0
    one x = omega (arith, ints)

    none : (x y : ℤ) → y ≡ x *ℤ pos 0 +ℤ y
    none x y = rw (*ℤ-zero x) (omega (arith, ints))

entry_on : (n rank : ℕ) (number : ℤ) (rest : List LexPart) (r : ℕ) (w : ℤ) → AreParts n (part_of rank number ++ rest) → ((m : ℕ) → AreParts m rest → entry rest r ≡ w)
    → entry (part_of rank number ++ rest) r ≡ number *ℤ at (mark (pos 1) rank) r +ℤ w
entry_on n zero number rest r w h f = f n h ∙ none number w
  where
    none : (x y : ℤ) → y ≡ x *ℤ pos 0 +ℤ y
    none x y = rw (*ℤ-zero x) (omega (arith, ints))
entry_on n (suc k) (pos zero) rest r w h f = f n h ∙ none (at (mark (pos 1) (suc k)) r) w
  where
    none : (x y : ℤ) → y ≡ pos 0 *ℤ x +ℤ y
    none x y = omega (arith, ints)
entry_on n (suc k) (pos (suc i)) rest r w h f = one_part n k (pos (suc i)) rest r h ∙ ap (λ z. pos (suc i) *ℤ at (mark (pos 1) (suc k)) r +ℤ z) (f (suc k + 1) h.3)
entry_on n (suc k) (negsuc i) rest r w h f = one_part n k (negsuc i) rest r h ∙ ap (λ z. negsuc i *ℤ at (mark (pos 1) (suc k)) r +ℤ z) (f (suc k + 1) h.3)

entry_weighed : (xs : List Ranked) (r n : ℕ) → AreParts n (parts_of xs) → entry (parts_of xs) r ≡ weighed r xs
entry_weighed [] r n h = refl
entry_weighed (x ∷ xs) r n h = entry_on n x.0 x.1 (parts_of xs) r (weighed r xs) h (λ m k. entry_weighed xs r m k)

weighed_append : (r : ℕ) (xs ys : List Ranked) → weighed r (xs ++ ys) ≡ weighed r xs +ℤ weighed r ys
weighed_append r [] ys = omega (arith, ints)
weighed_append r (x ∷ xs) ys = let e = weighed_append r xs ys in omega (arith, ints, e)

by_test : (P : List Ranked → Type 0) (test : Bool) (xs ys : List Ranked) → (test ≡ true → P xs) → (test ≡ false → P ys) → P (if test then xs else ys)
by_test P true xs ys f g = f refl
by_test P false xs ys f g = g refl

-- two points, three points
module _ (r : ℕ) (s : List Point) (x : ℕ × ℕ) (m : ℤ × ℤ) where
  abbrev pair_sum : ℤ
  pair_sum = m.0 *ℤ has_rank r (point_at s x.0) +ℤ m.1 *ℤ has_rank r (point_at s x.1)

  two_weighed : weighed r (two_points s x m) ≡ pair_sum
  two_weighed = plus (m.0 *ℤ has_rank r (point_at s x.0)) (m.1 *ℤ has_rank r (point_at s x.1))
    where
      plus : (a b : ℤ) → a +ℤ (b +ℤ pos 0) ≡ a +ℤ b
      plus a b = omega (arith, ints)

  three_weighed : (c : ℕ) (last : ℤ) → weighed r (three_points s x m c last) ≡ pair_sum +ℤ last *ℤ has_rank r (point_at s c)
  three_weighed c last =
      let a = m.0 *ℤ has_rank r (point_at s x.0) in
      let b = m.1 *ℤ has_rank r (point_at s x.1) in
      let d = last *ℤ has_rank r (point_at s c) in
      by_test (λ xs. weighed r xs ≡ pair_sum +ℤ last *ℤ has_rank r (point_at s c)) (nat_lt c x.0) (ranked s c last ∷ ranked s x.0 m.0 ∷ ranked s x.1 m.1 ∷ []) _
      (λ t. first a b d)
      (λ t. by_test (λ xs. weighed r xs ≡ pair_sum +ℤ last *ℤ has_rank r (point_at s c)) (nat_lt c x.1) (ranked s x.0 m.0 ∷ ranked s c last ∷ ranked s x.1 m.1 ∷ []) (ranked s x.0 m.0 ∷ ranked s x.1 m.1 ∷ ranked s c last ∷ [])
      (λ u. second a b d)
      (λ u. third a b d))
    where
      first : (a b d : ℤ) → d +ℤ (a +ℤ (b +ℤ pos 0)) ≡ a +ℤ b +ℤ d
      first a b d = omega (arith, ints)

      second : (a b d : ℤ) → a +ℤ (d +ℤ (b +ℤ pos 0)) ≡ a +ℤ b +ℤ d
      second a b d = omega (arith, ints)

      third : (a b d : ℤ) → a +ℤ (b +ℤ (d +ℤ pos 0)) ≡ a +ℤ b +ℤ d
      third a b d = omega (arith, ints)

-- behind the support of the further point
behind_weighed : (r i j c : ℕ) (last : ℤ) (ms : List (ℤ × ℤ)) (supports : List (List Point)) (cell : Cell) → j < i → weighed r (all_points i j c last ms supports cell) ≡ total ms supports cell (has_rank r)
behind_weighed r i j c last [] supports cell l = refl
behind_weighed r i j c last (m ∷ ms) [] cell l = refl
behind_weighed r i j c last (m ∷ ms) (s ∷ supports) [] l = refl
behind_weighed r i j c last (m ∷ ms) (s ∷ supports) (x ∷ cell) l =
    let rest = all_points (suc i) j c last ms supports cell in
    let t : (i == j) ≡ false = ne_eqb i j (λ e. omega (arith, e, l)) in
    ap (λ b. weighed r ((if b then three_points s x m c last else two_points s x m) ++ rest)) t
    ∙ weighed_append r (two_points s x m) rest
    ∙ ap₂ ◌+ℤ◌ (two_weighed r s x m) (behind_weighed r (suc i) j c last ms supports cell (omega (arith, l)))

-- from some support before it on
all_weighed : (r i j k c : ℕ) (last : ℤ) (ms : List (ℤ × ℤ)) (supports : List (List Point)) (cell : Cell) → j ≡ i + k → k < length ms → k < length supports → k < length cell
    → weighed r (all_points i j c last ms supports cell) ≡ total ms supports cell (has_rank r) +ℤ last *ℤ has_rank r (point_at (nth_support supports k) c)
all_weighed r i j k c last [] supports cell e lm ls lc = absurd (omega (arith, lm))
all_weighed r i j k c last (m ∷ ms) [] cell e lm ls lc = absurd (omega (arith, ls))
all_weighed r i j k c last (m ∷ ms) (s ∷ supports) [] e lm ls lc = absurd (omega (arith, lc))
all_weighed r i j zero c last (m ∷ ms) (s ∷ supports) (x ∷ cell) e lm ls lc =
    let rest = all_points (suc i) j c last ms supports cell in
    let t : (i == j) ≡ true = eq-eqb i j (omega (arith, e)) in
    ap (λ b. weighed r ((if b then three_points s x m c last else two_points s x m) ++ rest)) t
    ∙ weighed_append r (three_points s x m c last) rest
    ∙ ap₂ ◌+ℤ◌ (three_weighed r s x m c last) (behind_weighed r (suc i) j c last ms supports cell (omega (arith, e)))
    ∙ swap (pair_sum r s x m) (last *ℤ has_rank r (point_at s c)) (total ms supports cell (has_rank r))
  where
    swap : (a b d : ℤ) → a +ℤ b +ℤ d ≡ a +ℤ d +ℤ b
    swap a b d = omega (arith, ints)
all_weighed r i j (suc k) c last (m ∷ ms) (s ∷ supports) (x ∷ cell) e lm ls lc =
    let rest = all_points (suc i) j c last ms supports cell in
    let t : (i == j) ≡ false = ne_eqb i j (λ d. omega (arith, d, e)) in
    ap (λ b. weighed r ((if b then three_points s x m c last else two_points s x m) ++ rest)) t
    ∙ weighed_append r (two_points s x m) rest
    ∙ ap₂ ◌+ℤ◌ (two_weighed r s x m) (all_weighed r (suc i) j k c last ms supports cell (omega (arith, e)) (omega (arith, lm)) (omega (arith, ls)) (omega (arith, lc)))
    ∙ assoc (pair_sum r s x m) (total ms supports cell (has_rank r)) (last *ℤ has_rank r (point_at (nth_support supports k) c))
  where
    assoc : (a b d : ℤ) → a +ℤ (b +ℤ d) ≡ a +ℤ b +ℤ d
    assoc a b d = omega (arith, ints)

-- ---- the ranks rise
-- from n on
abbrev Rises : ℕ → List Ranked → Type 0
Rises n [] = Unit {0}
Rises n (x ∷ xs) = (x.0 ≢ 0 → n ≤ x.0) × (x.0 ≡ 0 → Rises n xs) × (x.0 ≢ 0 → Rises (x.0 + 1) xs)

part_on : (n rank : ℕ) (number : ℤ) (rest : List LexPart) → (rank ≢ 0 → n ≤ rank) → FitsWhole number → (rank ≡ 0 → AreParts n rest) → (rank ≢ 0 → AreParts (rank + 1) rest) → AreParts n (part_of rank number ++ rest)
part_on n zero number rest l fits f g = f refl
part_on n (suc k) (pos zero) rest l fits f g = let h = l (λ e. omega (arith, e)) in weaker (suc k + 1) n rest (omega (arith, h)) (g (λ e. omega (arith, e)))
part_on n (suc k) (pos (suc i)) rest l fits f g = (l (λ e. omega (arith, e)), (λ e. omega (arith, ints, e)), fits, g (λ e. omega (arith, e)))
part_on n (suc k) (negsuc i) rest l fits f g = (l (λ e. omega (arith, e)), (λ e. omega (arith, ints, e)), fits, g (λ e. omega (arith, e)))

are_parts : (n : ℕ) (xs : List Ranked) → Rises n xs → Each xs (λ x. FitsWhole x.1) → AreParts n (parts_of xs)
are_parts n [] h fits = tt
are_parts n (x ∷ xs) h fits = part_on n x.0 x.1 (parts_of xs) h.0 fits.0 (λ e. are_parts n xs (h.1 e) fits.1) (λ e. are_parts (x.0 + 1) xs (h.2 e) fits.1)

-- every rank from an index on, and of the supports behind, is at least n
abbrev From : ℕ → ℕ → List Point → List (List Point) → Type 0
From n y s supports = ((k : ℕ) → y ≤ k → rank_at s k ≢ 0 → n ≤ rank_at s k) × AllFrom n supports

module _ (s : List Point) (supports : List (List Point)) (up : Rise s) (behind : (k : ℕ) → rank_at s k ≢ 0 → AllFrom (rank_at s k + 1) supports) where
  from_later : (n y z : ℕ) → y ≤ z → From n y s supports → From n z s supports
  from_later n y z l h = ((λ k a e. h.0 k (omega (arith, l, a)) e), h.1)

  point_on : (n y z w : ℕ) (number : ℤ) (rest : List Ranked) → y ≤ z → z < w → From n y s supports → ((m : ℕ) → From m w s supports → Rises m rest) → Rises n ((rank_at s z, number) ∷ rest)
  point_on n y z w number rest l g h f = (
    (λ e. h.0 z l e),
    (λ e. f n (from_later n y w (omega (arith, l, g)) h)),
    (λ e. f (rank_at s z + 1) ((λ k a d. let b = up z k (omega (arith, a, g)) e d in omega (arith, b)), behind z e)),
  )

  two_rise : (n : ℕ) (x : ℕ × ℕ) (m : ℤ × ℤ) (rest : List Ranked) → 1 ≤ x.0 → x.0 < x.1 → From n 0 s supports → ((k : ℕ) → AllFrom k supports → Rises k rest) → Rises n (two_points s x m ++ rest)
  two_rise n x m rest o l h f =
      point_on n 0 (x.0 - 1) (x.1 - 1) m.0 (ranked s x.1 m.1 ∷ rest) (omega arith) (omega (arith, o, l)) h
      (λ k g. point_on k (x.1 - 1) (x.1 - 1) (suc x.1) m.1 rest (omega arith) (omega arith) g (λ j e. f j e.1))

  three_rise : (n : ℕ) (x : ℕ × ℕ) (m : ℤ × ℤ) (c : ℕ) (last : ℤ) (rest : List Ranked) → 1 ≤ x.0 → x.0 < x.1 → 1 ≤ c → c ≢ x.0 → c ≢ x.1 → From n 0 s supports → ((k : ℕ) → AllFrom k supports → Rises k rest)
      → Rises n (three_points s x m c last ++ rest)
  three_rise n x m c last rest o l u da db h f =
      by_test (λ xs. Rises n (xs ++ rest)) (nat_lt c x.0) (ranked s c last ∷ ranked s x.0 m.0 ∷ ranked s x.1 m.1 ∷ []) _
      (λ t.
      let a : c < x.0 = less c x.0 t in
      point_on n 0 (c - 1) (x.0 - 1) last (ranked s x.0 m.0 ∷ ranked s x.1 m.1 ∷ rest) (omega arith) (omega (arith, u, a)) h
      (λ k g. point_on k (x.0 - 1) (x.0 - 1) (x.1 - 1) m.0 (ranked s x.1 m.1 ∷ rest) (omega arith) (omega (arith, o, l)) g
      (λ i e. point_on i (x.1 - 1) (x.1 - 1) (suc x.1) m.1 rest (omega arith) (omega arith) e (λ j d. f j d.1))))
      (λ t. by_test (λ xs. Rises n (xs ++ rest)) (nat_lt c x.1) (ranked s x.0 m.0 ∷ ranked s c last ∷ ranked s x.1 m.1 ∷ []) (ranked s x.0 m.0 ∷ ranked s x.1 m.1 ∷ ranked s c last ∷ [])
      (λ v.
      let b : c < x.1 = less c x.1 v in
      let a : x.0 < c = not_less c x.0 t da in
      point_on n 0 (x.0 - 1) (c - 1) m.0 (ranked s c last ∷ ranked s x.1 m.1 ∷ rest) (omega arith) (omega (arith, o, a)) h
      (λ k g. point_on k (c - 1) (c - 1) (x.1 - 1) last (ranked s x.1 m.1 ∷ rest) (omega arith) (omega (arith, u, b)) g
      (λ i e. point_on i (x.1 - 1) (x.1 - 1) (suc x.1) m.1 rest (omega arith) (omega arith) e (λ j d. f j d.1))))
      (λ v.
      let b : x.1 < c = not_less c x.1 v db in
      point_on n 0 (x.0 - 1) (x.1 - 1) m.0 (ranked s x.1 m.1 ∷ ranked s c last ∷ rest) (omega arith) (omega (arith, o, l)) h
      (λ k g. point_on k (x.1 - 1) (x.1 - 1) (c - 1) m.1 (ranked s c last ∷ rest) (omega arith) (omega (arith, l, b)) g
      (λ i e. point_on i (c - 1) (c - 1) (suc c) last rest (omega arith) (omega arith) e (λ j d. f j d.1)))))
    where
      less : (a b : ℕ) → nat_lt a b ≡ true → a < b
      less a b e = search (rules, e)

      not_less : (a b : ℕ) → nat_lt a b ≡ false → a ≢ b → b < a
      not_less a b e d = let n : ¬ (a < b) = search (rules, e) in omega (arith, n, d)

all_rises : (i j c : ℕ) (last : ℤ) (ms : List (ℤ × ℤ)) (supports : List (List Point)) (cell : Cell) (n : ℕ) → AllFrom n supports → AllRise supports → EachPair supports cell InRange
    → ((k : ℕ) → j ≡ i + k → IsFurther (nth_support supports k) (pair_at cell k).0 (pair_at cell k).1 c) → Rises n (all_points i j c last ms supports cell)
all_rises i j c last [] supports cell n from rise of h = tt
all_rises i j c last (m ∷ ms) [] cell n from rise of h = tt
all_rises i j c last (m ∷ ms) (s ∷ supports) [] n from rise of h = tt
all_rises i j c last (m ∷ ms) (s ∷ supports) (x ∷ cell) n from rise of h =
    let rest = all_points (suc i) j c last ms supports cell in
    let later = λ (k : ℕ) (f : AllFrom k supports). all_rises (suc i) j c last ms supports cell k f rise.2 of.1 (λ k e. h (suc k) (omega (arith, e))) in
    by_test (λ xs. Rises n (xs ++ rest)) (i == j) (three_points s x m c last) (two_points s x m)
    (λ t.
    let f = h 0 (let e = eqb-true i j t in omega (arith, e)) in
    three_rise s supports rise.0 rise.1 n x m c last rest of.0.0 of.0.1 f.0 f.2 f.3 ((λ k l. from.0 k), from.1) later)
    (λ t. two_rise s supports rise.0 rise.1 n x m rest of.0.0 of.0.1 ((λ k l. from.0 k), from.1) later)

-- ---- how many they are, and that they fit
length_part : (rank : ℕ) (number : ℤ) → length (part_of rank number) ≤ 1
length_part zero number = omega arith
length_part (suc k) (pos zero) = omega arith
length_part (suc k) (pos (suc i)) = omega arith
length_part (suc k) (negsuc i) = omega arith

length_parts : (xs : List Ranked) → length (parts_of xs) ≤ length xs
length_parts [] = omega arith
length_parts (x ∷ xs) =
    let a = length-append (part_of x.0 x.1) (parts_of xs) in
    let b = length_part x.0 x.1 in
    let c = length_parts xs in
    omega (arith, a, b, c)

length_three : (s : List Point) (x : ℕ × ℕ) (m : ℤ × ℤ) (c : ℕ) (last : ℤ) → length (three_points s x m c last) ≡ 3
length_three s x m c last =
    by_test (λ xs. length xs ≡ 3) (nat_lt c x.0) (ranked s c last ∷ ranked s x.0 m.0 ∷ ranked s x.1 m.1 ∷ []) _ (λ t. refl)
    (λ t. by_test (λ xs. length xs ≡ 3) (nat_lt c x.1) (ranked s x.0 m.0 ∷ ranked s c last ∷ ranked s x.1 m.1 ∷ []) (ranked s x.0 m.0 ∷ ranked s x.1 m.1 ∷ ranked s c last ∷ []) (λ v. refl) (λ v. refl))

length_behind : (i j c : ℕ) (last : ℤ) (ms : List (ℤ × ℤ)) (supports : List (List Point)) (cell : Cell) → j < i → length (all_points i j c last ms supports cell) ≤ 2 * length cell
length_behind i j c last [] supports cell l = omega arith
length_behind i j c last (m ∷ ms) [] cell l = omega arith
length_behind i j c last (m ∷ ms) (s ∷ supports) [] l = omega arith
length_behind i j c last (m ∷ ms) (s ∷ supports) (x ∷ cell) l =
    let rest = all_points (suc i) j c last ms supports cell in
    let t : (i == j) ≡ false = ne_eqb i j (λ e. omega (arith, e, l)) in
    let e : length (points_in i j c last s x m ++ rest) ≡ suc (suc (length rest)) = ap (λ b. length ((if b then three_points s x m c last else two_points s x m) ++ rest)) t in
    let h = length_behind (suc i) j c last ms supports cell (omega (arith, l)) in
    omega (arith, e, h)

length_all : (i j c : ℕ) (last : ℤ) (ms : List (ℤ × ℤ)) (supports : List (List Point)) (cell : Cell) → length (all_points i j c last ms supports cell) ≤ 2 * length cell + 1
length_all i j c last [] supports cell = omega arith
length_all i j c last (m ∷ ms) [] cell = omega arith
length_all i j c last (m ∷ ms) (s ∷ supports) [] = omega arith
length_all i j c last (m ∷ ms) (s ∷ supports) (x ∷ cell) =
    let rest = all_points (suc i) j c last ms supports cell in
    by_test (λ xs. length (xs ++ rest) ≤ 2 * suc (length cell) + 1) (i == j) (three_points s x m c last) (two_points s x m)
    (λ t.
    let a = length-append (three_points s x m c last) rest in
    let b = length_three s x m c last in
    let d = length_behind (suc i) j c last ms supports cell (let e = eqb-true i j t in omega (arith, e)) in
    omega (arith, a, b, d))
    (λ t. let d = length_all (suc i) j c last ms supports cell in omega (arith, d))

abbrev Fitting : List Ranked → Type 0
Fitting xs = Each xs (λ x. FitsWhole x.1)

fits_all : (i j c : ℕ) (last : ℤ) (ms : List (ℤ × ℤ)) (supports : List (List Point)) (cell : Cell) → FitsWhole last → Each ms (λ m. FitsWhole m.0 × FitsWhole m.1) → Fitting (all_points i j c last ms supports cell)
fits_all i j c last [] supports cell l h = tt
fits_all i j c last (m ∷ ms) [] cell l h = tt
fits_all i j c last (m ∷ ms) (s ∷ supports) [] l h = tt
fits_all i j c last (m ∷ ms) (s ∷ supports) (x ∷ cell) l h =
    let rest = all_points (suc i) j c last ms supports cell in
    let r = fits_all (suc i) j c last ms supports cell l h.1 in
    let a = h.0.0 in
    let b = h.0.1 in
    by_test (λ xs. Fitting (xs ++ rest)) (i == j) (three_points s x m c last) (two_points s x m)
    (λ t. by_test (λ xs. Fitting (xs ++ rest)) (nat_lt c x.0) (ranked s c last ∷ ranked s x.0 m.0 ∷ ranked s x.1 m.1 ∷ []) _ (λ u. (l, (a, (b, r))))
    (λ u. by_test (λ xs. Fitting (xs ++ rest)) (nat_lt c x.1) (ranked s x.0 m.0 ∷ ranked s c last ∷ ranked s x.1 m.1 ∷ []) (ranked s x.0 m.0 ∷ ranked s x.1 m.1 ∷ ranked s c last ∷ []) (λ v. (a, (l, (b, r)))) (λ v. (a, (b, (l, r))))))
    (λ t. (a, (b, r)))

-- ---- the parts of a line
pub parts_fit : (p : Problem) (cell : Cell) (j c : ℕ) (numbers : Numbers) → AllRise p.supports → EachPair p.supports cell InRange → IsFurther (nth_support p.supports j) (pair_at cell j).0 (pair_at cell j).1 c
    → FitsWhole numbers.last → Each numbers.pairs (λ m. FitsWhole m.0 × FitsWhole m.1) → AreParts 1 (parts_of (all_points 0 j c numbers.last numbers.pairs p.supports cell))
parts_fit p cell j c numbers rise of further l fits =
    are_parts 1 (all_points 0 j c numbers.last numbers.pairs p.supports cell)
    (all_rises 0 j c numbers.last numbers.pairs p.supports cell 1 (from_one p.supports) rise of
    (λ k e. let w : j ≡ k = omega (arith, e) in subst (λ z. IsFurther (nth_support p.supports z) (pair_at cell z).0 (pair_at cell z).1 c) w further))
    (fits_all 0 j c numbers.last numbers.pairs p.supports cell l fits)

pub parts_few : (p : Problem) (cell : Cell) (j c : ℕ) (numbers : Numbers) → length cell ≤ 16 → length (parts_of (all_points 0 j c numbers.last numbers.pairs p.supports cell)) ≤ 33
parts_few p cell j c numbers l =
    let a = length_parts (all_points 0 j c numbers.last numbers.pairs p.supports cell) in
    let b = length_all 0 j c numbers.last numbers.pairs p.supports cell in
    omega (arith, a, b, l)

pub parts_sum : (p : Problem) (cell : Cell) (j c : ℕ) (numbers : Numbers) → j < length numbers.pairs → j < length p.supports → j < length cell → AreParts 1 (parts_of (all_points 0 j c numbers.last numbers.pairs p.supports cell))
    → (rank : ℕ) → entry (parts_of (all_points 0 j c numbers.last numbers.pairs p.supports cell)) rank ≡ sum_of_rank numbers p cell (point_at (nth_support p.supports j) c) rank
parts_sum p cell j c numbers lm ls lc h rank =
    entry_weighed (all_points 0 j c numbers.last numbers.pairs p.supports cell) rank 1 h
    ∙ all_weighed rank 0 j j c numbers.last numbers.pairs p.supports cell (omega arith) lm ls lc
