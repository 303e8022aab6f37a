-- where the ranks of the points rise in order of support and position, the first number other than zero tells the sign of the sum of heights
use Rattle.std.proofs.Common.{◌≡◌, ◌≢◌, ◌↔◌, ℕ, zero, suc, ◌+◌, ◌-◌, ◌<◌, ◌≤◌, ◌==◌, ◌++◌, Bool, true, false, if◌then◌else◌, List, [], ◌∷◌, length, map, arith, refl, sym, ap, ap₂, ◌∙◌, inl, inr}
use Rattle.std.specs.Prelude.{nat_lt}
use Rattle.std.proofs.lemmas.Bool.{ne_eqb, eq-eqb, ltb-true, ltb-false}
use Rattle.std.proofs.lemmas.List.{map-append}
use Rattle.std.proofs.lemmas.Int.{ints}
use Rattle.std.proofs.Math.IntN.{ℤ, pos, ◌+ℤ◌, ◌*ℤ◌, *ℤ-zero}
use Rattle.int_vectors.specs.Vectors.{IsPositive, at}
use Rattle.cayley.specs.Problems.{Point, point_at}
use Rattle.cayley.specs.Cells.{Cell, EachPair, IsFurther}
use Rattle.cayley.specs.Dependencies.{total, pair_at, nth_support}
use Rattle.cayley.specs.Normals.{mark}
use Rattle.cayley.proofs.OneCell.RaisedRanks.{after_zeros}
use Rattle.cayley.proofs.Order.Lexicographic.{positive-same}
use Rattle.inner_normal.specs.Orders.{two, three, in_order}
use native.Mathlib.Decide.{dec_le}
use Rattle.wide_int.proofs.Bools.{by_test}
use Rattle.int_vectors.proofs.Entries.{at_own, at_other}
use Rattle.inner_normal.specs.RankedNumbers.{Ranked, ranked}

-- the ranks rise from b on
abbrev pub Rise : ℕ → List Ranked → Type 0
Rise b [] = Unit {0}
Rise b (x ∷ xs) = (b ≤ x.0) × Rise (suc x.0) xs

-- the sum of the numbers of rank e
abbrev pub sum_in : ℕ → List Ranked → ℤ
sum_in e [] = pos 0
sum_in e (x ∷ xs) = x.1 *ℤ at (mark (pos 1) x.0) e +ℤ sum_in e xs

abbrev pub numbers_in : List Ranked → List ℤ
numbers_in xs = map (λ (x : Ranked). x.1) xs

rise_weaker : (b d : ℕ) (xs : List Ranked) → b ≤ d → Rise d xs → Rise b xs
rise_weaker b d [] l r = tt
rise_weaker b d (x ∷ xs) l r = (let h = r.0 in omega (arith, l, h), r.1)

-- the entries from place b on
spread : ℕ → List Ranked → List ℤ
spread b [] = []
spread b (x ∷ xs) = after_zeros (x.0 - b) (x.1 ∷ spread (suc x.0) xs)

behind_zeros : (d : ℕ) (u : List ℤ) → IsPositive (after_zeros d u) ↔ IsPositive u
behind_zeros zero u = ((λ p. p), (λ p. p))
behind_zeros (suc d) u =
    let r = behind_zeros d u in (
      (λ p. elim p [ inl q ↦ absurd (omega (arith, ints, q)) | inr q ↦ r.0 q.1 ]),
      (λ p. inr (refl, r.1 p)),
    )

spread_positive : (b : ℕ) (xs : List Ranked) → IsPositive (spread b xs) ↔ IsPositive (numbers_in xs)
unfolding spread
spread_positive b [] = ((λ p. p), (λ p. p))
spread_positive b (x ∷ xs) =
    let z = behind_zeros (x.0 - b) (x.1 ∷ spread (suc x.0) xs) in
    let r = spread_positive (suc x.0) xs in (
      (λ p. elim (z.0 p) [ inl q ↦ inl q | inr q ↦ inr (q.0, r.0 q.1) ]),
      (λ p. z.1 (elim p [ inl q ↦ inl q | inr q ↦ inr (q.0, r.1 q.1) ])),
    )

within_zeros : (d k : ℕ) (u : List ℤ) → k < d → at (after_zeros d u) k ≡ pos 0
within_zeros zero k u l = absurd (omega (arith, l))
within_zeros (suc d) zero u l = refl
within_zeros (suc d) (suc k) u l = within_zeros d k u (omega (arith, l))

past_zeros : (d m k : ℕ) (u : List ℤ) → k ≡ d + m → at (after_zeros d u) k ≡ at u m
past_zeros zero m k u e = ap (at u) (let h : k ≡ m = omega (arith, e) in h)
past_zeros (suc d) m zero u e = absurd (omega (arith, e))
past_zeros (suc d) m (suc k) u e = past_zeros d m k u (omega (arith, e))

own_mark : (r : ℕ) (q : ℤ) → 1 ≤ r → at (mark q r) r ≡ q
own_mark zero q l = absurd (omega (arith, l))
own_mark (suc r) q l = at_own r q

other_mark : (r e : ℕ) (q : ℤ) → e ≢ r → at (mark q r) e ≡ pos 0
other_mark zero e q n = refl
other_mark (suc r) e q n = at_other (suc r) e q n

-- nothing stands before the first rank
none_before : (b e : ℕ) (xs : List Ranked) → Rise b xs → e < b → sum_in e xs ≡ pos 0
none_before b e [] r l = refl
none_before b e (x ∷ xs) r l =
    let h = r.0 in
    let m = ap (λ y. x.1 *ℤ y) (other_mark x.0 e (pos 1) (λ i. omega (arith, i, h, l))) ∙ *ℤ-zero x.1 in
    let n = none_before (suc x.0) e xs r.1 (omega (arith, h, l)) in
    omega (arith, ints, m, n)

one_times : (x : ℤ) → x *ℤ pos 1 ≡ x
one_times x = omega (arith, ints)

spread_at : (b k e : ℕ) (xs : List Ranked) → 1 ≤ b → Rise b xs → e ≡ b + k → at (spread b xs) k ≡ sum_in e xs
unfolding spread
spread_at b k e [] l r h = refl
spread_at b k e (x ∷ xs) l r h =
    let first = r.0 in
    elim (dec_le (x.0 - b) k) [
      | yes m ↦ elim (dec_le k (x.0 - b)) [
        | yes n ↦
            let same : e ≡ x.0 = omega (arith, h, m, n, first) in
            let place : k ≡ (x.0 - b) + 0 = omega (arith, m, n) in
            let a = past_zeros (x.0 - b) 0 k (x.1 ∷ spread (suc x.0) xs) place in
            let o = ap (λ y. x.1 *ℤ at (mark (pos 1) x.0) y) same ∙ ap (λ y. x.1 *ℤ y) (own_mark x.0 (pos 1) (omega (arith, l, first))) ∙ one_times x.1 in
            let z = none_before (suc x.0) e xs r.1 (omega (arith, same)) in
            omega (arith, ints, a, o, z)
        | no n ↦
            let d = k - (x.0 - b) - 1 in
            let place : k ≡ (x.0 - b) + suc d = omega (arith, m, n) in
            let a = past_zeros (x.0 - b) (suc d) k (x.1 ∷ spread (suc x.0) xs) place in
            let o = ap (λ y. x.1 *ℤ y) (other_mark x.0 e (pos 1) (λ i. omega (arith, i, h, m, n, first))) ∙ *ℤ-zero x.1 in
            let s = spread_at (suc x.0) d e xs (omega arith) r.1 (omega (arith, h, m, n, first, place)) in
            omega (arith, ints, a, o, s)
      ]
      | no m ↦
          let a = within_zeros (x.0 - b) k (x.1 ∷ spread (suc x.0) xs) (omega (arith, m)) in
          let z = none_before (suc e) e (x ∷ xs) (omega (arith, h, m, first), r.1) (omega arith) in
          omega (arith, ints, a, z)
    ]

-- a list of values whose first entry is 0, and whose others are the sums by rank
pub sign_in : (u : List ℤ) (xs : List Ranked) → Rise 1 xs → at u 0 ≡ pos 0 → ((e : ℕ) → at u (suc e) ≡ sum_in (suc e) xs) → IsPositive u ↔ IsPositive (numbers_in xs)
sign_in u xs r z h =
    let v = pos 0 ∷ spread 1 xs in
    let s = spread_positive 1 xs in
    let same = λ (e : ℕ). entry e in (
      (λ p. elim (positive-same u v same p) [ inl q ↦ absurd (omega (arith, ints, q)) | inr q ↦ s.0 q.1 ]),
      (λ p. positive-same v u (λ e. sym (same e)) (inr (refl, s.1 p))),
    )
  where
    entry : (e : ℕ) → at u e ≡ at (pos 0 ∷ spread 1 xs) e
    entry zero = z
    entry (suc e) = h e ∙ sym (spread_at 1 e (suc e) xs (omega arith) r (omega arith))

-- ---- the list of a dependency
abbrev pub ranked_pairs : List (ℤ × ℤ) → List (List Point) → Cell → List (Ranked × Ranked)
ranked_pairs [] supports cell = []
ranked_pairs (m ∷ ms) [] cell = []
ranked_pairs (m ∷ ms) (s ∷ supports) [] = []
ranked_pairs (m ∷ ms) (s ∷ supports) (x ∷ cell) = (ranked s x.0 m.0, ranked s x.1 m.1) ∷ ranked_pairs ms supports cell

numbers_three : (pair : ℕ × ℕ) (m : Ranked × Ranked) (c : ℕ) (g : Ranked) → numbers_in (three pair m c g) ≡ three pair (m.0.1, m.1.1) c g.1
numbers_three pair m c g = by (nat_lt c pair.0) (nat_lt c pair.1)
  where
    by : (a b : Bool) → numbers_in (if a then g ∷ m.0 ∷ m.1 ∷ [] else if b then m.0 ∷ g ∷ m.1 ∷ [] else m.0 ∷ m.1 ∷ g ∷ [])
        ≡ (if a then g.1 ∷ m.0.1 ∷ m.1.1 ∷ [] else if b then m.0.1 ∷ g.1 ∷ m.1.1 ∷ [] else m.0.1 ∷ m.1.1 ∷ g.1 ∷ [])
    by true b = refl
    by false true = refl
    by false false = refl

pub numbers_are : (i j c : ℕ) (g : Ranked) (ms : List (ℤ × ℤ)) (supports : List (List Point)) (cell : Cell) → length ms ≡ length cell → length supports ≡ length cell
    → numbers_in (in_order i j c g (ranked_pairs ms supports cell) cell) ≡ in_order i j c g.1 ms cell
numbers_are i j c g [] supports cell l n = refl
numbers_are i j c g (m ∷ ms) [] [] l n = absurd (omega (arith, l))
numbers_are i j c g (m ∷ ms) [] (x ∷ cell) l n = absurd (omega (arith, n))
numbers_are i j c g (m ∷ ms) (s ∷ supports) [] l n = absurd (omega (arith, l))
numbers_are i j c g (m ∷ ms) (s ∷ supports) (x ∷ cell) l n =
    let a : Ranked × Ranked = (ranked s x.0 m.0, ranked s x.1 m.1) in
    map-append (λ (y : Ranked). y.1) (if i == j then three x a c g else two a) (in_order (suc i) j c g (ranked_pairs ms supports cell) cell)
    ∙ ap₂ ◌++◌ (by (i == j)) (numbers_are (suc i) j c g ms supports cell (omega (arith, l)) (omega (arith, n)))
  where
    by : (b : Bool) → numbers_in (if b then three x (ranked s x.0 m.0, ranked s x.1 m.1) c g else two (ranked s x.0 m.0, ranked s x.1 m.1)) ≡ (if b then three x m c g.1 else two m)
    by true = numbers_three x (ranked s x.0 m.0, ranked s x.1 m.1) c g
    by false = refl

-- its sum at a rank
sum_append : (e : ℕ) (xs ys : List Ranked) → sum_in e (xs ++ ys) ≡ sum_in e xs +ℤ sum_in e ys
sum_append e [] ys = omega (arith, ints)
sum_append e (x ∷ xs) ys = let h = sum_append e xs ys in omega (arith, ints, h)

sum_three : (e : ℕ) (pair : ℕ × ℕ) (m : Ranked × Ranked) (c : ℕ) (g : Ranked) → sum_in e (three pair m c g) ≡ sum_in e (two m) +ℤ g.1 *ℤ at (mark (pos 1) g.0) e
sum_three e pair m c g = by (nat_lt c pair.0) (nat_lt c pair.1)
  where
    by : (a b : Bool) → sum_in e (if a then g ∷ m.0 ∷ m.1 ∷ [] else if b then m.0 ∷ g ∷ m.1 ∷ [] else m.0 ∷ m.1 ∷ g ∷ []) ≡ sum_in e (two m) +ℤ g.1 *ℤ at (mark (pos 1) g.0) e
    by true b = omega (arith, ints)
    by false true = omega (arith, ints)
    by false false = omega (arith, ints)

-- 1 in the place of the point's rank
abbrev pub marked : ℕ → Point → ℤ
marked e q = at (mark (pos 1) q.rank) e

sum_after : (e i j c : ℕ) (g : Ranked) (ms : List (ℤ × ℤ)) (supports : List (List Point)) (cell : Cell) → j < i → length ms ≡ length cell → length supports ≡ length cell
    → sum_in e (in_order i j c g (ranked_pairs ms supports cell) cell) ≡ total ms supports cell (marked e)
sum_after e i j c g [] supports cell b l n = refl
sum_after e i j c g (m ∷ ms) [] [] b l n = absurd (omega (arith, l))
sum_after e i j c g (m ∷ ms) [] (x ∷ cell) b l n = absurd (omega (arith, n))
sum_after e i j c g (m ∷ ms) (s ∷ supports) [] b l n = absurd (omega (arith, l))
sum_after e i j c g (m ∷ ms) (s ∷ supports) (x ∷ cell) b l n =
    let a : Ranked × Ranked = (ranked s x.0 m.0, ranked s x.1 m.1) in
    let f = ne_eqb i j (λ h. omega (arith, h, b)) in
    let h = sum_after e (suc i) j c g ms supports cell (omega (arith, b)) (omega (arith, l)) (omega (arith, n)) in
    let t = sum_append e (two a) (in_order (suc i) j c g (ranked_pairs ms supports cell) cell) in
    rw f (omega (arith, ints, h, t))

pub sum_is : (e i j c : ℕ) (g : Ranked) (ms : List (ℤ × ℤ)) (supports : List (List Point)) (cell : Cell) → i ≤ j → j < i + length cell → length ms ≡ length cell → length supports ≡ length cell
    → sum_in e (in_order i j c g (ranked_pairs ms supports cell) cell) ≡ total ms supports cell (marked e) +ℤ g.1 *ℤ at (mark (pos 1) g.0) e
sum_is e i j c g ms supports [] b d l n = absurd (omega (arith, b, d))
sum_is e i j c g [] supports (x ∷ cell) b d l n = absurd (omega (arith, l))
sum_is e i j c g (m ∷ ms) [] (x ∷ cell) b d l n = absurd (omega (arith, n))
sum_is e i j c g (m ∷ ms) (s ∷ supports) (x ∷ cell) b d l n =
    let a : Ranked × Ranked = (ranked s x.0 m.0, ranked s x.1 m.1) in
    let rest = in_order (suc i) j c g (ranked_pairs ms supports cell) cell in
    elim (dec_le j i) [
      | yes k ↦
          let f = eq-eqb i j (omega (arith, b, k)) in
          let h = sum_after e (suc i) j c g ms supports cell (omega (arith, k)) (omega (arith, l)) (omega (arith, n)) in
          let t = sum_append e (three x a c g) rest in
          let u = sum_three e x a c g in
          rw f (omega (arith, ints, h, t, u))
      | no k ↦
          let f = ne_eqb i j (λ h. omega (arith, h, k)) in
          let h = sum_is e (suc i) j c g ms supports cell (omega (arith, k)) (omega (arith, d)) (omega (arith, l)) (omega (arith, n)) in
          let t = sum_append e (two a) rest in
          rw f (omega (arith, ints, h, t))
    ]

-- ---- the ranks rise
-- the points of each support have the ranks from b on, in order of support and position
abbrev pub HaveRanksFrom : ℕ → List (List Point) → Type 0
HaveRanksFrom b [] = Unit {0}
HaveRanksFrom b (s ∷ supports) = ((q : ℕ) → 1 ≤ q → q ≤ length s → (point_at s q).rank ≡ b + (q - 1)) × HaveRanksFrom (b + length s) supports

abbrev InRange : List Point → ℕ → ℕ → Type 0
InRange s a b = (1 ≤ a) × (a < b) × (b ≤ length s)

chain_two : (b n : ℕ) (x y : Ranked) (rest : List Ranked) → b ≤ x.0 → x.0 < y.0 → y.0 < b + n → Rise (b + n) rest → Rise b (x ∷ y ∷ rest)
chain_two b n x y rest p q r h = (p, (q, rise_weaker (suc y.0) (b + n) rest r h))

chain_three : (b n : ℕ) (x y z : Ranked) (rest : List Ranked) → b ≤ x.0 → x.0 < y.0 → y.0 < z.0 → z.0 < b + n → Rise (b + n) rest → Rise b (x ∷ y ∷ z ∷ rest)
chain_three b n x y z rest p q r s h = (p, (q, (r, rise_weaker (suc z.0) (b + n) rest s h)))

module _ (b : ℕ) (s : List Point) (ranks : (q : ℕ) → 1 ≤ q → q ≤ length s → (point_at s q).rank ≡ b + (q - 1)) (x : ℕ × ℕ) (m : ℤ × ℤ) (range : InRange s x.0 x.1) (rest : List Ranked) (r : Rise (b + length s) rest) where
  rise_two : Rise b (two (ranked s x.0 m.0, ranked s x.1 m.1) ++ rest)
  rise_two =
      let l = range.0 in
      let k = range.1 in
      let n = range.2 in
      let e = ranks x.0 l (omega (arith, k, n)) in
      let f = ranks x.1 (omega (arith, l, k)) n in
      chain_two b (length s) (ranked s x.0 m.0) (ranked s x.1 m.1) rest (omega (arith, e)) (omega (arith, e, f, l, k)) (omega (arith, f, l, k, n)) r

  rise_three : (c : ℕ) (g : ℤ) → IsFurther s x.0 x.1 c → Rise b (three x (ranked s x.0 m.0, ranked s x.1 m.1) c (ranked s c g) ++ rest)
  rise_three c g further =
      let l = range.0 in
      let k = range.1 in
      let n = range.2 in
      let u = further.0 in
      let v = further.1 in
      let o = further.2 in
      let q = further.3 in
      let e = ranks x.0 l (omega (arith, k, n)) in
      let f = ranks x.1 (omega (arith, l, k)) n in
      let h = ranks c u v in
      by_test (nat_lt c x.0)
      (λ t. let i = ltb-true c x.0 t in
      rw t (chain_three b (length s) (ranked s c g) (ranked s x.0 m.0) (ranked s x.1 m.1) rest (omega (arith, h)) (omega (arith, h, e, u, i)) (omega (arith, e, f, l, k)) (omega (arith, f, l, k, n)) r))
      (λ t. let i = ltb-false c x.0 t in
      by_test (nat_lt c x.1)
      (λ w. let d = ltb-true c x.1 w in
      rw (t, w) (chain_three b (length s) (ranked s x.0 m.0) (ranked s c g) (ranked s x.1 m.1) rest (omega (arith, e)) (omega (arith, h, e, l, u, i, o)) (omega (arith, h, f, u, d)) (omega (arith, f, l, k, n)) r))
      (λ w. let d = ltb-false c x.1 w in
      rw (t, w) (chain_three b (length s) (ranked s x.0 m.0) (ranked s x.1 m.1) (ranked s c g) rest (omega (arith, e)) (omega (arith, e, f, l, k)) (omega (arith, f, h, l, k, d, q)) (omega (arith, h, u, v)) r)))

rise_after : (b i j c : ℕ) (g : Ranked) (ms : List (ℤ × ℤ)) (supports : List (List Point)) (cell : Cell) → j < i → HaveRanksFrom b supports → EachPair supports cell InRange
    → Rise b (in_order i j c g (ranked_pairs ms supports cell) cell)
rise_after b i j c g [] supports cell l h e = tt
rise_after b i j c g (m ∷ ms) [] cell l h e = tt
rise_after b i j c g (m ∷ ms) (s ∷ supports) [] l h e = tt
rise_after b i j c g (m ∷ ms) (s ∷ supports) (x ∷ cell) l h e =
    let f = ne_eqb i j (λ k. omega (arith, k, l)) in
    rw f (rise_two b s h.0 x m e.0 (in_order (suc i) j c g (ranked_pairs ms supports cell) cell) (rise_after (b + length s) (suc i) j c g ms supports cell (omega (arith, l)) h.1 e.1))

pub rise_is : (b i d j c : ℕ) (g : ℤ) (ms : List (ℤ × ℤ)) (supports : List (List Point)) (cell : Cell) → j ≡ i + d → HaveRanksFrom b supports → EachPair supports cell InRange
    → IsFurther (nth_support supports d) (pair_at cell d).0 (pair_at cell d).1 c
    → Rise b (in_order i j c (ranked (nth_support supports d) c g) (ranked_pairs ms supports cell) cell)
rise_is b i d j c g [] supports cell k h e u = tt
rise_is b i d j c g (m ∷ ms) [] cell k h e u = tt
rise_is b i d j c g (m ∷ ms) (s ∷ supports) [] k h e u = tt
rise_is b i zero j c g (m ∷ ms) (s ∷ supports) (x ∷ cell) k h e u =
    let f = eq-eqb i j (omega (arith, k)) in
    rw f (rise_three b s h.0 x m e.0 (in_order (suc i) j c (ranked s c g) (ranked_pairs ms supports cell) cell)
    (rise_after (b + length s) (suc i) j c (ranked s c g) ms supports cell (omega (arith, k)) h.1 e.1) c g u)
rise_is b i (suc d) j c g (m ∷ ms) (s ∷ supports) (x ∷ cell) k h e u =
    let f = ne_eqb i j (λ n. omega (arith, k, n)) in
    rw f (rise_two b s h.0 x m e.0 (in_order (suc i) j c (ranked (nth_support supports d) c g) (ranked_pairs ms supports cell) cell)
    (rise_is (b + length s) (suc i) d j c g ms supports cell (omega (arith, k)) h.1 e.1 u))
