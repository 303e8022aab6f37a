-- the rule of the exit
use Rattle.std.proofs.Common.{◌≡◌, ℕ, ◌+◌, ◌-◌, ◌<◌, List, length, refl, ap, ap₂, subst, ◌∙◌, arith}
use Rattle.std.proofs.lemmas.Int.{ints}
use Rattle.lex_height.specs.Entries.{entries}
use Rattle.lex_height.specs.Values as lex
use Rattle.crossing.specs.declared.line.WallLine.{WallLine}
use Rattle.crossing.specs.declared.exit.Exit.{Exit}
use Rattle.crossing.specs.declared.exit.Exit.TheVariants.{Never, At, Tied, Flat}
use Rattle.crossing.specs.declared.leaders.Way.TheVariants.{Falling}
use Rattle.crossing.specs.declared.leaders.Leaders.TheVariants as led
use Rattle.crossing.specs.Lines.{IsFlat, Falls, IsZeroAt}
use Rattle.crossing.specs.Places.{HasAt, IsNowhere, IsOnly, AreFirstTwo}
use Rattle.crossing.specs.Leading.{Goes, IsLed, nth}
use Rattle.crossing.specs.Exits.{FallsAt, IsLeastFall, IsExit}
use Rattle.crossing.proofs.Lists.{earlier_less}
use Rattle.crossing.proofs.Once.{has_at, time_once, first_once, only_once, one_or_two, second_once}
use Rattle.crossing.proofs.Found.{GoesAt, none_goes, zero_first, one_only, two_first, nowhere_as, only_as, two_as}

goes_falls : (line : WallLine) → Goes Falling line → Falls line
goes_falls line g = omega (arith, ints, g)

falls_goes : (line : WallLine) → Falls line → Goes Falling line
falls_goes line f = omega (arith, ints, f)

module _ (lines : List WallLine) where
  pub no_flat : ((k : ℕ) → k < length lines → ¬ (IsFlat (nth lines k))) → IsNowhere IsFlat lines
  no_flat h place at = h (place - 1) (let a = at.0 in let b = at.1 in omega arith) at.2

  pub is_flat : (index : ℕ) → index < length lines → IsFlat (nth lines index) → ((k : ℕ) → k < index → ¬ (IsFlat (nth lines k))) → IsExit lines (Flat (index + 1))
  is_flat index lt f none = (has_at IsFlat lines index lt f, λ other o at. none (other - 1) (let a = at.0 in omega arith) at.2)

  pub is_never : IsNowhere IsFlat lines → IsLed Falling lines (length lines) led.None → IsExit lines Never
  is_never n h = (n, nowhere_as (Goes Falling) Falls goes_falls falls_goes lines (none_goes Falling lines h))

  module _ (n : IsNowhere IsFlat lines) (t : lex.Value) (low : lex.IsLowest t) where
    pub is_at : (a : ℕ) → IsLed Falling lines (length lines) (led.One a) → IsZeroAt (nth lines a) t → IsExit lines (At t (a + 1))
    is_at a h z = (
      n,
      low,
      (λ place p q pq at e. zero_first Falling lines (led.One a) a refl h t low z place p q pq (at.0, at.1, (falls_goes (nth lines (place - 1)) at.2.0, at.2.1)) (earlier_less p q (entries t.parts) t.den e)),
      only_as (GoesAt Falling t) (FallsAt t) (λ line g. (goes_falls line g.0, g.1)) (λ line g. (falls_goes line g.0, g.1)) lines (a + 1) (one_only Falling lines t low a h z),
    )

    pub is_tied : (a b : ℕ) → IsLed Falling lines (length lines) (led.Two a b) → IsZeroAt (nth lines a) t → IsExit lines (Tied t (a + 1) (b + 1))
    is_tied a b h z = (
      n,
      low,
      (λ place p q pq at e. zero_first Falling lines (led.Two a b) a refl h t low z place p q pq (at.0, at.1, (falls_goes (nth lines (place - 1)) at.2.0, at.2.1)) (earlier_less p q (entries t.parts) t.den e)),
      two_as (GoesAt Falling t) (FallsAt t) (λ line g. (goes_falls line g.0, g.1)) (λ line g. (falls_goes line g.0, g.1)) lines (a + 1) (b + 1) (two_first Falling lines t low a b h z),
    )

  -- ---- there is one answer
  there : (t : lex.Value) (i : ℕ) → HasAt (FallsAt t) lines i → HasAt Falls lines i
  there t i h = (h.0, h.1, h.2.0)

  same_time : (t u : lex.Value) (i j : ℕ) → lex.IsLowest t → lex.IsLowest u → IsLeastFall lines t → IsLeastFall lines u → HasAt (FallsAt t) lines i → HasAt (FallsAt u) lines j → t ≡ u
  same_time t u i j lt lu ft fu hi hj = time_once t u lt lu (fu i (entries t.parts) t.den lt.0.2 hi) (ft j (entries u.parts) u.den lu.0.2 hj)

  at_at : (t u : lex.Value) (i j : ℕ) → IsExit lines (At t i) → IsExit lines (At u j) → At t i ≡ At u j
  at_at t u i j h k =
      let e = same_time t u i j h.1 k.1 h.2 k.2 h.3.0 k.3.0 in
      ap₂ At e (only_once (FallsAt u) lines i j (subst (λ (v : lex.Value). IsOnly (FallsAt v) lines i) e h.3) k.3)

  at_tied : {R : Type 0} (t u : lex.Value) (i j k : ℕ) → IsExit lines (At t i) → IsExit lines (Tied u j k) → R
  at_tied t u i j k h m =
      let e = same_time t u i j h.1 m.1 h.2 m.2 h.3.0 m.3.0.0 in
      one_or_two (FallsAt u) lines i j k (subst (λ (v : lex.Value). IsOnly (FallsAt v) lines i) e h.3) m.3

  tied_tied : (t u : lex.Value) (i j k l : ℕ) → IsExit lines (Tied t i j) → IsExit lines (Tied u k l) → Tied t i j ≡ Tied u k l
  tied_tied t u i j k l h m =
      let e = same_time t u i k h.1 m.1 h.2 m.2 h.3.0.0 m.3.0.0 in
      let x = subst (λ (v : lex.Value). AreFirstTwo (FallsAt v) lines i j) e h.3 in
      let f = first_once (FallsAt u) lines i k x.0 m.3.0 in
      let y = subst (λ (n : ℕ). AreFirstTwo (FallsAt u) lines n j) f x in
      ap₂ (λ v n. Tied v n j) e f ∙ ap (λ n. Tied u k n) (second_once (FallsAt u) lines k j l y m.3)

  pub exit_once : (x y : Exit) → IsExit lines x → IsExit lines y → x ≡ y
  exit_once (Flat i) (Flat j) h k = ap Flat (first_once IsFlat lines i j h k)
  exit_once (Flat i) Never h k = absurd (k.0 i h.0)
  exit_once (Flat i) (At u j) h k = absurd (k.0 i h.0)
  exit_once (Flat i) (Tied u j l) h k = absurd (k.0 i h.0)
  exit_once Never (Flat j) h k = absurd (h.0 j k.0)
  exit_once Never Never h k = refl
  exit_once Never (At u j) h k = absurd (h.1 j (there u j k.3.0))
  exit_once Never (Tied u j l) h k = absurd (h.1 j (there u j k.3.0.0))
  exit_once (At t i) (Flat j) h k = absurd (h.0 j k.0)
  exit_once (At t i) Never h k = absurd (k.1 i (there t i h.3.0))
  exit_once (At t i) (At u j) h k = at_at t u i j h k
  exit_once (At t i) (Tied u j l) h k = at_tied t u i j l h k
  exit_once (Tied t i m) (Flat j) h k = absurd (h.0 j k.0)
  exit_once (Tied t i m) Never h k = absurd (k.1 i (there t i h.3.0.0))
  exit_once (Tied t i m) (At u j) h k = at_tied u t j i m k h
  exit_once (Tied t i m) (Tied u j l) h k = tied_tied t u i m j l h k
