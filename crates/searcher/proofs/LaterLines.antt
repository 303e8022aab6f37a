-- lines that are positive at one time, at the times from there to their exit
use Rattle.std.proofs.Common.{◌≡◌, ℕ, ◌+◌, ◌-◌, ◌<◌, List, length, arith, subst, pos, neg_ℤ, ◌<ℤ◌}
use Rattle.std.proofs.lemmas.Int.{ints}
use Rattle.std.proofs.lemmas.List.{get_or_default}
use Rattle.wide_int.proofs.Order.{sign_cases}
use Rattle.int_vectors.specs.Vectors.{IsZero, IsPositive, at}
use Rattle.int_vectors.proofs.Entries.{not_zero}
use Rattle.lex_height.specs.Entries.{entries}
use Rattle.lex_height.specs.Values as lex
use Rattle.lex_height.proofs.Comparing.{less_less}
use Rattle.cayley.specs.Times.{Time, IsBefore}
use Rattle.crossing.specs.declared.line.WallLine.{WallLine}
use Rattle.crossing.specs.declared.exit.Exit.{Exit}
use Rattle.crossing.specs.declared.exit.Exit.TheVariants as exit
use Rattle.crossing.specs.declared.leaders.Way.TheVariants.{Falling, Rising}
use Rattle.crossing.specs.Between.{IsBeforeExit}
use Rattle.crossing.specs.Exits.{FallsAt, IsLeastFall, IsExit}
use Rattle.crossing.specs.Leading.{nth, start}
use Rattle.crossing.specs.Lines.{constant, value, IsEarlier, ArePositive}
use Rattle.crossing.specs.Places.{HasAt, origin}
use Rattle.crossing.proofs.Between.{falling_zero}
use Rattle.crossing.proofs.Lists.{earlier_less, less_earlier}
use Rattle.crossing.proofs.Once.{has_at}
use Rattle.crossing.proofs.Values.{turn, positive_ratio, ratio_positive, less_level, less_turn, zero_later, level_start, level_value}

abbrev IsPositiveAt : List WallLine → Time → ℕ → Type 0
IsPositiveAt lines t k = IsPositive (value (nth lines k) t.entries t.over)

module _ (lines : List WallLine) (r : Time) (live : ArePositive lines r.entries r.over) where
  -- what falls to zero does so later
  pub fall_later : (u : lex.Value) (low : lex.IsLowest u) (place : ℕ) → HasAt (FallsAt u) lines place → IsEarlier r.entries r.over (entries u.parts) u.den
  fall_later u low place h =
      let lt : place - 1 < length lines = (let a = h.0 in let b = h.1 in omega (arith, a, b)) in
      let f = h.2.0 in
      less_earlier r.entries r.over (entries u.parts) u.den
      (zero_later Falling (nth lines (place - 1)) (omega (arith, ints, f)) r.entries r.over r.positive (live (place - 1) origin lt) (entries u.parts) u.den low.0.2 h.2.1)

  -- a line that is zero at all times isn't positive
  pub flat_never : (which : ℕ) → IsExit lines (exit.Flat which) → ⊥
  flat_never which ix =
      let lt : which - 1 < length lines = (let a = ix.0.0 in let b = ix.0.1 in omega (arith, a, b)) in
      not_zero (value (nth lines (which - 1)) r.entries r.over) (live (which - 1) origin lt) (ix.0.2 r.entries r.over r.positive)

  module _ (t : Time) (b : IsBefore r t) where
    rises_on : (k : ℕ) → k < length lines → pos 0 <ℤ (nth lines k).beta → IsPositiveAt lines t k
    rises_on k lt g =
        let y = nth lines k in
        ratio_positive Rising y t.entries t.over
        (less_less (turn Rising (at t.entries)) t.over (turn Rising (at r.entries)) r.over (start y) y.beta t.positive r.positive g
        (less_turn (at t.entries) t.over (at r.entries) r.over (earlier_less r.entries r.over t.entries t.over b))
        (positive_ratio Rising y r.entries r.over (live k origin lt)))

    level_on : (k : ℕ) → k < length lines → (nth lines k).beta ≡ pos 0 → IsPositiveAt lines t k
    level_on k lt z = level_value (nth lines k) z t.entries t.over t.positive (level_start (nth lines k) z r.entries r.over r.positive (live k origin lt))

    -- before the least zero of a falling line
    falls_until : (u : lex.Value) → lex.IsLowest u → IsLeastFall lines u → IsEarlier t.entries t.over (entries u.parts) u.den → (k : ℕ) → k < length lines → (nth lines k).beta <ℤ pos 0 → IsPositiveAt lines t k
    falls_until u low least e k lt f =
        let y = nth lines k in
        let g : pos 0 <ℤ neg_ℤ y.beta = omega (arith, ints, f) in
        let n = least (k + 1) (constant y) (neg_ℤ y.beta) g (has_at (λ line. (line.beta <ℤ pos 0) × IsZero (value line (constant y) (neg_ℤ y.beta))) lines k lt (f, falling_zero y)) in
        ratio_positive Falling y t.entries t.over (less_level (at t.entries) t.over (entries u.parts) u.den (constant y) (neg_ℤ y.beta) t.positive low.0.2 g
        (earlier_less t.entries t.over (entries u.parts) u.den e)
        (λ l. n (less_earlier (constant y) (neg_ℤ y.beta) (entries u.parts) u.den l)))

    falls_on : (x : Exit) → IsExit lines x → IsBeforeExit x t.entries t.over → (k : ℕ) → k < length lines → (nth lines k).beta <ℤ pos 0 → IsPositiveAt lines t k
    falls_on (exit.Flat which) ix e k lt f = absurd e
    falls_on exit.Never ix e k lt f = absurd (ix.1 (k + 1) (has_at (λ line. line.beta <ℤ pos 0) lines k lt f))
    falls_on (exit.At u which) ix e k lt f = falls_until u ix.1 ix.2 e k lt f
    falls_on (exit.Tied u first second) ix e k lt f = falls_until u ix.1 ix.2 e k lt f

    pub positive_until : (x : Exit) → IsExit lines x → IsBeforeExit x t.entries t.over → ArePositive lines t.entries t.over
    positive_until x ix e k d lt =
        subst (λ (line : WallLine). IsPositive (value line t.entries t.over)) (get_or_default lines k origin d lt)
        (sign_cases (nth lines k).beta (falls_on x ix e k lt) (level_on k lt) (rises_on k lt))
