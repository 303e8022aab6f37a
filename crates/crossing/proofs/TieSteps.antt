-- the tie of the lines, as it is found step by step
use Rattle.std.proofs.Common.{◌≡◌, ℕ, ◌+◌, ◌<◌, List, length, Option, Some, None, MatchOption, unwrap_or, Bool, false, IsTrue, HoldsAt, true≢false, refl, sym, ap, subst, ◌∙◌}
use Rattle.std.proofs.lemmas.List.{get_or_default}
use Rattle.crossing.specs.declared.line.WallLine.{WallLine}
use Rattle.crossing.specs.declared.leaders.Way.TheVariants.{Falling, Rising}
use Rattle.crossing.specs.declared.ends.End.{End}
use Rattle.crossing.specs.declared.ends.Pair.{Pair}
use Rattle.crossing.specs.declared.ties.Tie.{Tie}
use Rattle.crossing.specs.Lines.{IsFlat}
use Rattle.crossing.specs.Places.{IsNowhere, origin}
use Rattle.crossing.specs.Leading.{nth}
use Rattle.crossing.specs.Ends.{IsEnd, IsSunk, AreCrossed, pair_with, pair_of, IsMeeting}
use Rattle.crossing.specs.Ties.{IsTie, HasNoTie}
use Rattle.crossing.proofs.TieRule.{Meet, meeting_tie, lower_tie, upper_tie, no_tie}

pub none_sunk : (lines : List WallLine) (b : Bool) → ((k : ℕ) × (k < length lines) × HoldsAt IsSunk lines k → IsTrue b) → b ≡ false → (k : ℕ) → k < length lines → ¬ (IsSunk (nth lines k))
none_sunk lines b f e k lt h = true≢false (sym (f (k, lt, λ d. subst IsSunk (get_or_default lines k origin d lt) h)) ∙ e)

-- the tie that a pair of indexes names
abbrev pub tie_from : Pair → Tie
tie_from pair = record { time = pair.time; first = pair.first + 1; second = Some (pair.second + 1) }

nothing_some : (pair : Pair) → None ≡ Some pair → ⊥
nothing_some pair e = subst (λ (o : Option Pair). MatchOption o (Unit {0}) (λ q. ⊥)) e tt

the_pair : (x y : Pair) → Some x ≡ Some y → x ≡ y
the_pair x y e = ap (λ o. unwrap_or o x) e

module _ (lines : List WallLine) (lower upper : Option End) (rise : IsEnd Rising lines lower) (fall : IsEnd Falling lines upper) (floating : (k : ℕ) → k < length lines → ¬ (IsSunk (nth lines k))) (open_ : ¬ (AreCrossed lower upper)) (moving : IsNowhere IsFlat lines) where
  pub met : (pair : Pair) → IsMeeting lower upper (Some pair) → IsTie lines (tie_from pair)
  met pair h = by_ends lower upper refl refl h
    where
      by_ends : (l u : Option End) → lower ≡ l → upper ≡ u → IsMeeting l u (Some pair) → IsTie lines (tie_from pair)
      by_ends None u e f h = absurd (nothing_some pair (sym h))
      by_ends (Some l) None e f h = absurd (nothing_some pair (sym h))
      by_ends (Some l) (Some u) e f h = meeting_tie lines lower upper rise fall floating open_ moving l u e f h.0 pair h.1

  apart : (l u : Option End) → IsMeeting l u None → ¬ (Meet l u)
  apart None u h m = m
  apart (Some l) None h m = m
  apart (Some l) (Some u) h m = h m

  module _ (unmet : IsMeeting lower upper None) where
    pub low : (pair : Pair) → Some pair ≡ pair_of lower → IsTie lines (tie_from pair)
    low pair h = by_end lower refl h
      where
        by_second : (l : End) → lower ≡ Some l → (s : Option ℕ) → l.second ≡ s → Some pair ≡ pair_with l.time l.first s → IsTie lines (tie_from pair)
        by_second l e None f h = absurd (nothing_some pair (sym h))
        by_second l e (Some s) f h =
            subst (λ (z : Pair). IsTie lines (tie_from z)) (the_pair (record { time = l.time; first = l.first; second = s }) pair (sym h)) (lower_tie lines lower upper rise fall floating open_ moving (apart lower upper unmet) l e s f)

        by_end : (l : Option End) → lower ≡ l → Some pair ≡ pair_of l → IsTie lines (tie_from pair)
        by_end None e h = absurd (nothing_some pair (sym h))
        by_end (Some l) e h = by_second l e l.second refl h

    module _ (lone : None ≡ pair_of lower) where
      pub high : (pair : Pair) → Some pair ≡ pair_of upper → IsTie lines (tie_from pair)
      high pair h = by_end upper refl h
        where
          by_second : (u : End) → upper ≡ Some u → (s : Option ℕ) → u.second ≡ s → Some pair ≡ pair_with u.time u.first s → IsTie lines (tie_from pair)
          by_second u e None f h = absurd (nothing_some pair (sym h))
          by_second u e (Some s) f h =
              subst (λ (z : Pair). IsTie lines (tie_from z)) (the_pair (record { time = u.time; first = u.first; second = s }) pair (sym h)) (upper_tie lines lower upper rise fall floating open_ moving (apart lower upper unmet) (sym lone) u e s f)

          by_end : (u : Option End) → upper ≡ u → Some pair ≡ pair_of u → IsTie lines (tie_from pair)
          by_end None e h = absurd (nothing_some pair (sym h))
          by_end (Some u) e h = by_second u e u.second refl h

      pub untied : None ≡ pair_of upper → HasNoTie lines
      untied e = no_tie lines lower upper rise fall floating open_ moving (apart lower upper unmet) (sym lone) (sym e)
