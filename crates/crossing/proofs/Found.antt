-- the answers of the leaders as ends
use Rattle.std.proofs.Common.{◌≡◌, ◌≢◌, ℕ, ◌+◌, ◌-◌, ◌<◌, pos, ◌<ℤ◌, List, length, Some, None, is_some, true≢false, ℤ, refl, sym, ap, subst, arith, inl, inr}
use Rattle.wide_int.proofs.Bools.{some_is}
use Rattle.int_vectors.specs.Vectors.{IsZero, IsPositive, at}
use Rattle.lex_height.specs.Entries.{entries}
use Rattle.lex_height.specs.Order.{IsLess}
use Rattle.lex_height.specs.Values as lex
use Rattle.lex_height.proofs.Comparing.{not_below_itself, less_not_back}
use Rattle.crossing.specs.declared.line.WallLine.{WallLine}
use Rattle.crossing.specs.declared.leaders.Way.{Way}
use Rattle.crossing.specs.declared.leaders.Leaders.{Leaders}
use Rattle.crossing.specs.declared.leaders.Leaders.TheVariants as led
use Rattle.crossing.specs.Lines.{value, IsZeroAt}
use Rattle.crossing.specs.Places.{HasAt, IsNowhere, IsFirst, IsOnly, AreFirstTwo}
use Rattle.crossing.specs.Leading.{steep, start, Goes, IsBefore, IsLed, nth, first_of}
use Rattle.crossing.proofs.Leading.{same_or_not}
use Rattle.crossing.proofs.Once.{has_at}
use Rattle.crossing.proofs.Values.{turn, zero_le, apart, even_zero, positive_too}

-- the line goes this way and is zero at the time
abbrev pub GoesAt : Way → lex.Value → WallLine → Type 0
GoesAt way t line = Goes way line × IsZeroAt line t

pub nothing : (a : ℕ) → None ≡ Some a → ⊥
nothing a e = true≢false (sym (ap is_some e))

module _ (way : Way) (lines : List WallLine) where
  pub none_goes : IsLed way lines (length lines) led.None → IsNowhere (Goes way) lines
  none_goes h place p = h (place - 1) (let a = p.0 in let b = p.1 in omega arith) p.2

  pub first_goes : (l : Leaders) (a : ℕ) → first_of l ≡ Some a → IsLed way lines (length lines) l → (a < length lines) × Goes way (nth lines a)
  first_goes led.None a e h = absurd (nothing a e)
  first_goes (led.One b) a e h = subst (λ j. (j < length lines) × Goes way (nth lines j)) (some_is b a e) (h.0, h.1)
  first_goes (led.Two b d) a e h = subst (λ j. (j < length lines) × Goes way (nth lines j)) (some_is b a e) ((let x = h.0 in let y = h.1 in omega arith), h.2)

  -- no line goes before the first leader
  pub none_before : (l : Leaders) (a : ℕ) → first_of l ≡ Some a → IsLed way lines (length lines) l → (k : ℕ) → k < length lines → Goes way (nth lines k) → ¬ (IsBefore way (nth lines k) (nth lines a))
  none_before led.None a e h k lt g = absurd (nothing a e)
  none_before (led.One b) a e h k lt g = subst (λ j. ¬ (IsBefore way (nth lines k) (nth lines j))) (some_is b a e) (
      λ f. elim (same_or_not k b) [
        | inl s ↦ not_below_itself (start (nth lines b)) (steep way (nth lines b)) (subst (λ j. IsBefore way (nth lines j) (nth lines b)) s f)
        | inr o ↦ less_not_back (start (nth lines b)) (steep way (nth lines b)) (start (nth lines k)) (steep way (nth lines k)) h.1 g (h.2 k lt g o) f
      ]
      )
  none_before (led.Two b d) a e h k lt g = subst (λ j. ¬ (IsBefore way (nth lines k) (nth lines j))) (some_is b a e) (h.6 k lt g)

  -- where the first leader is positive, so are all lines of this way
  pub all_positive : (l : Leaders) → IsLed way lines (length lines) l → (p : List ℤ) (q : ℤ) → pos 0 <ℤ q → ((a : ℕ) → first_of l ≡ Some a → IsPositive (value (nth lines a) p q))
      → (k : ℕ) → k < length lines → Goes way (nth lines k) → IsPositive (value (nth lines k) p q)
  all_positive led.None h p q pq f k lt g = absurd (h k lt g)
  all_positive (led.One a) h p q pq f k lt g = positive_too way (nth lines a) (nth lines k) (first_goes (led.One a) a refl h).1 g (none_before (led.One a) a refl h k lt g) p q pq (f a refl)
  all_positive (led.Two a b) h p q pq f k lt g = positive_too way (nth lines a) (nth lines k) (first_goes (led.Two a b) a refl h).1 g (none_before (led.Two a b) a refl h k lt g) p q pq (f a refl)

  -- its zero is the first
  pub zero_first : (l : Leaders) (a : ℕ) → first_of l ≡ Some a → IsLed way lines (length lines) l → (t : lex.Value) → lex.IsLowest t → IsZeroAt (nth lines a) t
      → (place : ℕ) (p : List ℤ) (q : ℤ) → pos 0 <ℤ q → HasAt (λ line. Goes way line × IsZero (value line p q)) lines place → ¬ (IsLess (turn way (at p)) q (turn way (at (entries t.parts))) t.den)
  zero_first l a e h t lt z place p q pq at_place =
      let lt_n : place - 1 < length lines = (let x = at_place.0 in let y = at_place.1 in omega arith) in
      zero_le way (nth lines a) (nth lines (place - 1)) (first_goes l a e h).1 at_place.2.0 (none_before l a e h (place - 1) lt_n at_place.2.0) (entries t.parts) t.den lt.0.2 z p q pq at_place.2.1

  module _ (t : lex.Value) (low : lex.IsLowest t) where
    pub one_only : (a : ℕ) → IsLed way lines (length lines) (led.One a) → IsZeroAt (nth lines a) t → IsOnly (GoesAt way t) lines (a + 1)
    one_only a h z = (
      has_at (GoesAt way t) lines a h.0 (h.1, z),
      λ other at. elim (same_or_not (other - 1) a) [
        | inl s ↦ (let x = at.0 in omega arith)
        | inr o ↦ absurd (
            let lt_n : other - 1 < length lines = (let x = at.0 in let y = at.1 in omega arith) in
            apart way (nth lines a) (nth lines (other - 1)) h.1 at.2.0 (h.2 (other - 1) lt_n at.2.0 o) (entries t.parts) t.den low.0.2 z at.2.1
            )
      ],
    )

    -- no line below the second leader but the first is zero there
    not_between : (a b : ℕ) → IsLed way lines (length lines) (led.Two a b) → IsZeroAt (nth lines a) t → (other : ℕ) → other < b + 1 → other - 1 ≢ a → ¬ (HasAt (GoesAt way t) lines other)
    not_between a b h z other lt o at =
        let lt_b : other - 1 < b = (let x = at.0 in omega arith) in
        apart way (nth lines a) (nth lines (other - 1)) h.2 at.2.0 (h.5 (other - 1) lt_b at.2.0 o) (entries t.parts) t.den low.0.2 z at.2.1

    pub two_first : (a b : ℕ) → IsLed way lines (length lines) (led.Two a b) → IsZeroAt (nth lines a) t → AreFirstTwo (GoesAt way t) lines (a + 1) (b + 1)
    two_first a b h z =
        let ab = h.0 in
        let bn = h.1 in (
          (
            has_at (GoesAt way t) lines a (omega arith) (h.2, z),
            λ other lt at. not_between a b h z other (omega arith) (λ e. let x = at.0 in omega arith) at,
          ),
          omega arith,
          has_at (GoesAt way t) lines b bn (h.3, even_zero way (nth lines a) (nth lines b) h.2 h.3 h.4 (entries t.parts) t.den low.0.2 z),
          λ other lo hi at. not_between a b h z other hi (λ e. omega arith) at,
        )

-- ---- other words for the same lines
module _ (P Q : WallLine → Type 0) (pq : (line : WallLine) → P line → Q line) (qp : (line : WallLine) → Q line → P line) (lines : List WallLine) where
  there : (k : ℕ) → HasAt P lines k → HasAt Q lines k
  there k h = (h.0, h.1, pq _ h.2)

  back : (k : ℕ) → HasAt Q lines k → HasAt P lines k
  back k h = (h.0, h.1, qp _ h.2)

  pub nowhere_as : IsNowhere P lines → IsNowhere Q lines
  nowhere_as h k at = h k (back k at)

  pub only_as : (k : ℕ) → IsOnly P lines k → IsOnly Q lines k
  only_as k h = (there k h.0, λ other at. h.1 other (back other at))

  first_as : (k : ℕ) → IsFirst P lines k → IsFirst Q lines k
  first_as k h = (there k h.0, λ other lt at. h.1 other lt (back other at))

  pub two_as : (i j : ℕ) → AreFirstTwo P lines i j → AreFirstTwo Q lines i j
  two_as i j h = (first_as i h.0, h.1, there j h.2, λ other lo hi at. h.3 other lo hi (back other at))
