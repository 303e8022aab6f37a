-- places and times are determined
use Rattle.std.proofs.Common.{◌≡◌, ℕ, ◌+◌, ◌-◌, ◌<◌, List, length, sym, subst, arith}
use Rattle.lex_height.specs.Entries.{entry, entries, at_rank}
use Rattle.lex_height.specs.Values as lex
use Rattle.lex_height.proofs.Ranks.{entries_is}
use Rattle.lex_height.proofs.Comparing.{less_as}
use Rattle.lex_height.proofs.Forms.{ordered_is}
use Rattle.crossing.specs.declared.line.WallLine.{WallLine}
use Rattle.crossing.specs.Lines.{IsEarlier}
use Rattle.crossing.specs.Places.{HasAt, IsNowhere, IsFirst, IsOnly, AreFirstTwo}
use Rattle.crossing.specs.Leading.{nth}
use Rattle.crossing.proofs.Leading.{same_by_order}
use Rattle.crossing.proofs.Lists.{less_earlier}

-- neither of two times in lowest terms is before the other
pub time_once : (t u : lex.Value) → lex.IsLowest t → lex.IsLowest u → ¬ (IsEarlier (entries t.parts) t.den (entries u.parts) u.den) → ¬ (IsEarlier (entries u.parts) u.den (entries t.parts) t.den) → t ≡ u
time_once t u lt lu h k = ordered_is.total t u lt lu (λ l. h (seen t u lt lu l)) (λ l. k (seen u t lu lt l))
  where
    seen : (t u : lex.Value) → lex.IsLowest t → lex.IsLowest u → lex.IsBelow t u → IsEarlier (entries t.parts) t.den (entries u.parts) u.den
    seen t u lt lu l =
        less_earlier (entries t.parts) t.den (entries u.parts) u.den
        (less_as (entry t.parts) (at_rank (entries t.parts)) (entry u.parts) (at_rank (entries u.parts)) t.den u.den (λ k. sym (entries_is t.parts lt.0.1 k)) (λ k. sym (entries_is u.parts lu.0.1 k)) l)

module _ (P : WallLine → Type 0) (lines : List WallLine) where
  pub has_at : (k : ℕ) → k < length lines → P (nth lines k) → HasAt P lines (k + 1)
  has_at k h p = let e : k ≡ k + 1 - 1 = omega arith in (omega arith, omega arith, subst (λ j. P (nth lines j)) e p)

  pub first_once : (i j : ℕ) → IsFirst P lines i → IsFirst P lines j → i ≡ j
  first_once i j h k = same_by_order i j (λ l. k.1 i l h.0) (λ l. h.1 j l k.0)

  pub only_once : (i j : ℕ) → IsOnly P lines i → IsOnly P lines j → i ≡ j
  only_once i j h k = k.1 i h.0

  pub one_or_two : {R : Type 0} (i j k : ℕ) → IsOnly P lines i → AreFirstTwo P lines j k → R
  one_or_two i j k h t = absurd (let e = h.1 j t.0.0 in let f = h.1 k t.2 in let l = t.1 in omega (arith, e, f, l))

  pub second_once : (i j k : ℕ) → AreFirstTwo P lines i j → AreFirstTwo P lines i k → j ≡ k
  second_once i j k h t = same_by_order j k (λ l. t.3 j h.1 l h.2) (λ l. h.3 k t.1 l t.2)

  pub only_nowhere : {R : Type 0} (i : ℕ) → IsOnly P lines i → IsNowhere P lines → R
  only_nowhere i h n = absurd (n i h.0)
