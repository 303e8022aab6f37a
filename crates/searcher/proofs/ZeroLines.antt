-- lines that are zero before or after a time at which all lines are positive
use Rattle.std.proofs.Common.{◌≡◌, inl, inr, ℕ, ◌<◌, List, length, arith, ℤ, pos, ◌<ℤ◌}
use Rattle.std.proofs.lemmas.Int.{ints}
use Rattle.wide_int.proofs.Order.{sign_cases}
use Rattle.int_vectors.specs.Vectors.{IsZero, at}
use Rattle.int_vectors.proofs.Entries.{not_zero}
use Rattle.lex_height.specs.Order.{IsSame}
use Rattle.lex_height.proofs.Comparing.{same_same, same_back, same_turned, less_not_back}
use Rattle.cayley.specs.Times.{Time, IsBefore, IsSameTime}
use Rattle.cayley.proofs.Order.Times.{before_same, never_before}
use Rattle.crossing.specs.declared.line.WallLine.{WallLine}
use Rattle.crossing.specs.declared.leaders.Way.{Way}
use Rattle.crossing.specs.declared.leaders.Way.TheVariants.{Falling, Rising}
use Rattle.crossing.specs.Leading.{nth, start, steep, Goes}
use Rattle.crossing.specs.Lines.{value, ArePositive}
use Rattle.crossing.specs.Places.{origin}
use Rattle.crossing.proofs.Lists.{either, earlier_less, less_earlier}
use Rattle.crossing.proofs.Values.{turn, zero_ratio, ratio_zero, zero_later, turned_less, level_start, level_value}

-- ---- one line at two times that are the same
same_turn : (way : Way) (t : List ℤ) (q : ℤ) (u : List ℤ) (p : ℤ) → IsSame (at t) q (at u) p → IsSame (turn way (at t)) q (turn way (at u)) p
same_turn Falling t q u p e = e
same_turn Rising t q u p e = same_turned (at t) q (at u) p e

same_at : (t u : Time) → IsSameTime t u → IsSame (at t.entries) t.over (at u.entries) u.over
same_at t u s = elim (either t.entries t.over u.entries u.over) [
  | inl l ↦ absurd (not_zero _ (less_earlier t.entries t.over u.entries u.over l) s)
  | inr r ↦ elim r [
    | inl e ↦ e
    | inr l ↦ absurd (never_before u (before_same u t u s (less_earlier u.entries u.over t.entries t.over l)))
  ]
]

pub zero_moved : (way : Way) (y : WallLine) (t u : Time) → Goes way y → IsSameTime t u → IsZero (value y t.entries t.over) → IsZero (value y u.entries u.over)
zero_moved way y t u g s z =
    ratio_zero way y u.entries u.over
    (same_same (turn way (at u.entries)) u.over (turn way (at t.entries)) t.over (start y) (steep way y) u.positive t.positive g
    (same_back (turn way (at t.entries)) t.over (turn way (at u.entries)) u.over (same_turn way t.entries t.over u.entries u.over (same_at t u s)))
    (zero_ratio way y t.entries t.over z))

-- ---- all lines are positive at r
module _ (lines : List WallLine) (r : Time) (live : ArePositive lines r.entries r.over) (t : Time) (k : ℕ) (lt : k < length lines) (z : IsZero (value (nth lines k) t.entries t.over)) where
  not_level : ¬ ((nth lines k).beta ≡ pos 0)
  not_level e =
      not_zero (value (nth lines k) t.entries t.over)
      (level_value (nth lines k) e t.entries t.over t.positive (level_start (nth lines k) e r.entries r.over r.positive (live k origin lt))) z

  -- zero before: it rises
  pub zero_rises : IsBefore t r → pos 0 <ℤ (nth lines k).beta
  zero_rises b =
      sign_cases (nth lines k).beta
      (λ f.
      let l = zero_later Falling (nth lines k) (omega (arith, ints, f)) r.entries r.over r.positive (live k origin lt) t.entries t.over t.positive z in
      absurd (less_not_back (at r.entries) r.over (at t.entries) t.over r.positive t.positive l (earlier_less t.entries t.over r.entries r.over b)))
      (λ e. absurd (not_level e))
      (λ g. g)

  -- zero behind: it falls
  pub zero_falls : IsBefore r t → (nth lines k).beta <ℤ pos 0
  zero_falls b =
      sign_cases (nth lines k).beta
      (λ f. f)
      (λ e. absurd (not_level e))
      (λ g.
      let l = turned_less (at r.entries) r.over (at t.entries) t.over (zero_later Rising (nth lines k) g r.entries r.over r.positive (live k origin lt) t.entries t.over t.positive z) in
      absurd (less_not_back (at t.entries) t.over (at r.entries) r.over t.positive r.positive l (earlier_less r.entries r.over t.entries t.over b)))
