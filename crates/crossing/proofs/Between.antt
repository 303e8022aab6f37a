-- the lines are positive exactly between their entry and their exit
use Rattle.std.proofs.Common.{◌≡◌, inl, inr, ℕ, ◌+◌, ◌-◌, ◌<◌, ◌∙◌, List, length, ℤ, pos, neg_ℤ, ◌*ℤ◌, ◌<ℤ◌, refl, ap, subst, arith}
use Rattle.std.proofs.lemmas.Int.{ints}
use Rattle.std.proofs.lemmas.List.{get_or_default}
use Rattle.wide_int.proofs.Order.{sign_cases}
use Rattle.int_vectors.specs.Vectors.{IsZero, IsPositive, scale, at}
use Rattle.int_vectors.proofs.Entries.{not_zero, at-scale}
use Rattle.lex_height.specs.Entries.{entries}
use Rattle.lex_height.specs.Values as lex
use Rattle.lex_height.specs.Order.{IsLess}
use Rattle.lex_height.proofs.Comparing.{less_less, same_less, same_itself, less_as}
use Rattle.crossing.specs.declared.line.WallLine.{WallLine}
use Rattle.crossing.specs.declared.entry.Entry.{Entry}
use Rattle.crossing.specs.declared.entry.Entry.TheVariants as entry
use Rattle.crossing.specs.declared.exit.Exit.{Exit}
use Rattle.crossing.specs.declared.exit.Exit.TheVariants as exit
use Rattle.crossing.specs.declared.leaders.Way.TheVariants.{Falling, Rising}
use Rattle.crossing.specs.Lines.{constant, value, IsEarlier, ArePositive}
use Rattle.crossing.specs.Places.{HasAt, origin}
use Rattle.crossing.specs.Leading.{start, nth}
use Rattle.crossing.specs.Entries.{RisesAt, IsGreatestRise, LiveSometime, IsEntry}
use Rattle.crossing.specs.Exits.{FallsAt, IsLeastFall, IsExit}
use Rattle.crossing.specs.Between.{IsAfterEntry, IsBeforeExit, PositiveBetween}
use Rattle.crossing.proofs.Lists.{earlier_less, less_earlier, either}
use Rattle.crossing.proofs.Values.{turn, ratio_zero, ratio_positive, zero_later, less_level, turned_less, less_turn, level_start, level_value}
use Rattle.crossing.proofs.Once.{has_at}

-- ---- the zero of a line
pub falling_zero : (y : WallLine) → IsZero (value y (constant y) (neg_ℤ y.beta))
falling_zero y = ratio_zero Falling y (constant y) (neg_ℤ y.beta) (same_itself (start y) (neg_ℤ y.beta))

abbrev pub negative : WallLine → List ℤ
negative y = scale (neg_ℤ (pos 1)) (constant y)

negative_at : (y : WallLine) (k : ℕ) → neg_ℤ (at (negative y) k) ≡ start y k
negative_at y k = ap neg_ℤ (at-scale (neg_ℤ (pos 1)) (constant y) k) ∙ back (start y k)
  where
    back : (x : ℤ) → neg_ℤ (neg_ℤ (pos 1) *ℤ x) ≡ x
    back x = omega (arith, ints)

pub rising_zero : (y : WallLine) → IsZero (value y (negative y) y.beta)
rising_zero y = ratio_zero Rising y (negative y) y.beta (λ k. ap (λ z. z *ℤ y.beta) (negative_at y k))

module _ (lines : List WallLine) (t : List ℤ) (q : ℤ) (pq : pos 0 <ℤ q) where
  -- ---- from positive lines to the two ends
  module _ (h : ArePositive lines t q) where
    rise_before : (u : lex.Value) → lex.IsLowest u → (place : ℕ) → HasAt (RisesAt u) lines place → IsEarlier (entries u.parts) u.den t q
    rise_before u low place at_place =
        let lt : place - 1 < length lines = (let a = at_place.0 in let b = at_place.1 in omega arith) in
        less_earlier (entries u.parts) u.den t q
        (turned_less (at t) q (at (entries u.parts)) u.den (zero_later Rising (nth lines (place - 1)) at_place.2.0 t q pq (h (place - 1) origin lt) (entries u.parts) u.den low.0.2 at_place.2.1))

    fall_after : (u : lex.Value) → lex.IsLowest u → (place : ℕ) → HasAt (FallsAt u) lines place → IsEarlier t q (entries u.parts) u.den
    fall_after u low place at_place =
        let lt : place - 1 < length lines = (let a = at_place.0 in let b = at_place.1 in omega arith) in
        let f = at_place.2.0 in
        less_earlier t q (entries u.parts) u.den
        (zero_later Falling (nth lines (place - 1)) (omega (arith, ints, f)) t q pq (h (place - 1) origin lt) (entries u.parts) u.den low.0.2 at_place.2.1)

    after_entry : (e : Entry) → IsEntry lines e → IsAfterEntry e t q
    after_entry entry.Dead i = absurd (i (t, q, pq, h))
    after_entry entry.Always i = tt
    after_entry (entry.At u which) i = rise_before u i.1 which i.3.0
    after_entry (entry.Tied u first second) i = rise_before u i.1 first i.3.0.0

    before_exit : (x : Exit) → IsExit lines x → IsBeforeExit x t q
    before_exit (exit.Flat which) i =
        let a = i.0 in
        let lt : which - 1 < length lines = (let b = a.0 in let c = a.1 in omega arith) in
        absurd (not_zero (value (nth lines (which - 1)) t q) (h (which - 1) origin lt) (a.2 t q pq))
    before_exit exit.Never i = tt
    before_exit (exit.At u which) i = fall_after u i.1 which i.3.0
    before_exit (exit.Tied u first second) i = fall_after u i.1 first i.3.0.0

  -- ---- and back
  falls_by : (u : lex.Value) → lex.IsLowest u → IsLeastFall lines u → IsEarlier t q (entries u.parts) u.den → (k : ℕ) → k < length lines → (nth lines k).beta <ℤ pos 0 → IsPositive (value (nth lines k) t q)
  falls_by u low least b k lt f =
      let y = nth lines k in
      let g : pos 0 <ℤ neg_ℤ y.beta = omega (arith, ints, f) in
      let n = least (k + 1) (constant y) (neg_ℤ y.beta) g (has_at (λ line. (line.beta <ℤ pos 0) × IsZero (value line (constant y) (neg_ℤ y.beta))) lines k lt (f, falling_zero y)) in
      ratio_positive Falling y t q (less_level (at t) q (entries u.parts) u.den (constant y) (neg_ℤ y.beta) pq low.0.2 g (earlier_less t q (entries u.parts) u.den b)
      (λ l. n (less_earlier (constant y) (neg_ℤ y.beta) (entries u.parts) u.den l)))

  -- what isn't after u is before t
  before_all : (z : List ℤ) (r : ℤ) → pos 0 <ℤ r → (u : List ℤ) (p : ℤ) → pos 0 <ℤ p → IsLess (at u) p (at t) q → ¬ (IsLess (at u) p (at z) r) → IsLess (at z) r (at t) q
  before_all z r pr u p pp h n = elim (either z r u p) [
    | inl l ↦ less_less (at z) r (at u) p (at t) q pr pp pq l h
    | inr s ↦ elim s [
      | inl e ↦ same_less (at z) r (at u) p (at t) q pr pp pq e h
      | inr l ↦ absurd (n l)
    ]
  ]

  rises_by : (u : lex.Value) → lex.IsLowest u → IsGreatestRise lines u → IsEarlier (entries u.parts) u.den t q → (k : ℕ) → k < length lines → pos 0 <ℤ (nth lines k).beta → IsPositive (value (nth lines k) t q)
  rises_by u low greatest b k lt r =
      let y = nth lines k in
      let n = greatest (k + 1) (negative y) y.beta r (has_at (λ line. (pos 0 <ℤ line.beta) × IsZero (value line (negative y) y.beta)) lines k lt (r, rising_zero y)) in
      let l = before_all (negative y) y.beta r (entries u.parts) u.den low.0.2 (earlier_less (entries u.parts) u.den t q b) (λ l. n (less_earlier (entries u.parts) u.den (negative y) y.beta l)) in
      ratio_positive Rising y t q
      (less_as (turn Rising (at t)) (turn Rising (at t)) (turn Rising (at (negative y))) (start y) q y.beta (λ i. refl) (negative_at y) (less_turn (at t) q (at (negative y)) y.beta l))

  live : (e : Entry) → IsEntry lines e → IsAfterEntry e t q → LiveSometime lines
  live entry.Dead i a = absurd a
  live entry.Always i a = i.0
  live (entry.At u which) i a = i.0
  live (entry.Tied u first second) i a = i.0

  rising : (e : Entry) → IsEntry lines e → IsAfterEntry e t q → (k : ℕ) → k < length lines → pos 0 <ℤ (nth lines k).beta → IsPositive (value (nth lines k) t q)
  rising entry.Dead i a k lt r = absurd a
  rising entry.Always i a k lt r = absurd (i.1 (k + 1) (has_at (λ line. pos 0 <ℤ line.beta) lines k lt r))
  rising (entry.At u which) i a k lt r = rises_by u i.1 i.2 a k lt r
  rising (entry.Tied u first second) i a k lt r = rises_by u i.1 i.2 a k lt r

  falling : (x : Exit) → IsExit lines x → IsBeforeExit x t q → (k : ℕ) → k < length lines → (nth lines k).beta <ℤ pos 0 → IsPositive (value (nth lines k) t q)
  falling (exit.Flat which) i b k lt f = absurd b
  falling exit.Never i b k lt f = absurd (i.1 (k + 1) (has_at (λ line. line.beta <ℤ pos 0) lines k lt f))
  falling (exit.At u which) i b k lt f = falls_by u i.1 i.2 b k lt f
  falling (exit.Tied u first second) i b k lt f = falls_by u i.1 i.2 b k lt f

  level_line : LiveSometime lines → (k : ℕ) → k < length lines → (nth lines k).beta ≡ pos 0 → IsPositive (value (nth lines k) t q)
  level_line l k lt z = level_value (nth lines k) z t q pq (level_start (nth lines k) z l.0 l.1 l.2 (l.3 k origin lt))

  all_positive : (e : Entry) (x : Exit) → IsEntry lines e → IsExit lines x → IsAfterEntry e t q → IsBeforeExit x t q → ArePositive lines t q
  all_positive e x i j a b k d lt =
      subst (λ (line : WallLine). IsPositive (value line t q)) (get_or_default lines k origin d lt)
      (sign_cases (nth lines k).beta (falling x j b k lt) (level_line (live e i a) k lt) (rising e i a k lt))

pub positive_between_is : PositiveBetween
positive_between_is lines e x i j t q pq = (
  λ h. (after_entry lines t q pq h e i, before_exit lines t q pq h x j),
  λ h. all_positive lines t q pq e x i j h.0 h.1,
)
