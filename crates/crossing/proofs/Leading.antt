-- the leaders among the first lines, one line after the other
use Rattle.std.proofs.Common.{◌≡◌, ◌≢◌, ◌⊎◌, ◌∙◌, ℕ, ◌+◌, ◌<◌, List, length, slice_index_or, Ordering, Less, Equal, Greater, zero, suc, ap, refl, sym, subst, arith, inl, inr}
use Rattle.std.specs.Ordering.{MatchOrdering}
use Rattle.std.proofs.lemmas.List.{get_or_default}
use Rattle.std.proofs.Math.Nat.{eq-or-lt_of_le}
use Rattle.lex_height.proofs.Comparing.{less_less, not_below_itself, less_not_back, less_not_same, same_back}
use Rattle.crossing.specs.declared.line.WallLine.{WallLine}
use Rattle.crossing.specs.declared.leaders.Way.{Way}
use Rattle.crossing.specs.declared.leaders.Leaders.{Leaders}
use Rattle.crossing.specs.declared.leaders.Leaders.TheVariants as led
use Rattle.crossing.specs.Lines.{constant}
use Rattle.crossing.specs.Places.{origin}
use Rattle.crossing.specs.Leading.{steep, start, Goes, IsBefore, IsEven, IsLed, nth}
use Rattle.crossing.proofs.Values.{less_level}

-- a place below n + 1
pub below_next : (k n : ℕ) → k < n + 1 → (k < n) ⊎ (k ≡ n)
below_next k n h = elim (eq-or-lt_of_le {n = k} {m = n} (omega arith)) [ inl e ↦ inr e | inr p ↦ inl p ]

pub same_or_not : (k n : ℕ) → (k ≡ n) ⊎ (k ≢ n)
same_or_not zero zero = inl refl
same_or_not zero (suc n) = inr (λ e. omega (arith, e))
same_or_not (suc k) zero = inr (λ e. omega (arith, e))
same_or_not (suc k) (suc n) = elim (same_or_not k n) [ inl e ↦ inl (ap suc e) | inr o ↦ inr (λ e. o (omega (arith, e))) ]

-- a line as it was read at its place
pub taken : (lines : List WallLine) (k : ℕ) (x : WallLine) → x ≡ slice_index_or lines k x → k < length lines → x ≡ nth lines k
taken lines k x e lt = e ∙ get_or_default lines k x origin lt

abbrev IsEqual : Ordering → Type 0
IsEqual Less = ⊥
IsEqual Equal = Unit {0}
IsEqual Greater = ⊥

pub order_as : (way : Way) (o : Ordering) (x y u v : WallLine) → x ≡ u → y ≡ v → MatchOrdering o (IsBefore way x y) (IsEven way x y) (IsBefore way y x) → MatchOrdering o (IsBefore way u v) (IsEven way u v) (IsBefore way v u)
order_as way o x y u v e f m =
    subst (λ (z : WallLine). MatchOrdering o (IsBefore way u z) (IsEven way u z) (IsBefore way z u)) f (subst (λ (z : WallLine). MatchOrdering o (IsBefore way z y) (IsEven way z y) (IsBefore way y z)) e m)

module _ (way : Way) where
  before_trans : (x y z : WallLine) → Goes way x → Goes way y → Goes way z → IsBefore way x y → IsBefore way y z → IsBefore way x z
  before_trans x y z = less_less (start x) (steep way x) (start y) (steep way y) (start z) (steep way z)

  -- before what isn't later than z
  before_level : (x y z : WallLine) → Goes way x → Goes way y → Goes way z → IsBefore way x y → ¬ (IsBefore way z y) → IsBefore way x z
  before_level x y z = less_level (start x) (steep way x) (constant y) (steep way y) (constant z) (steep way z)

  not_after : (o : Ordering) (x y : WallLine) → Goes way x → Goes way y → o ≢ Greater → MatchOrdering o (IsBefore way x y) (IsEven way x y) (IsBefore way y x) → ¬ (IsBefore way y x)
  not_after Less x y gx gy n h k = less_not_back (start x) (steep way x) (start y) (steep way y) gx gy h k
  not_after Equal x y gx gy n h k = less_not_same (start y) (steep way y) (start x) (steep way x) k (same_back (start x) (steep way x) (start y) (steep way y) h)
  not_after Greater x y gx gy n h k = n refl

  module _ (lines : List WallLine) (n : ℕ) where
    -- the first line still leads alone
    pub one_stay : (a : ℕ) → IsLed way lines n (led.One a) → IsBefore way (nth lines a) (nth lines n) → IsLed way lines (n + 1) (led.One a)
    one_stay a h b = (
      (let p = h.0 in omega arith),
      h.1,
      λ k lt gk ne. elim (below_next k n lt) [ inl p ↦ h.2 k p gk ne | inr e ↦ subst (λ j. IsBefore way (nth lines a) (nth lines j)) (sym e) b ],
    )

    -- the next line leads beside it
    pub one_even : (a : ℕ) → IsLed way lines n (led.One a) → Goes way (nth lines n) → IsEven way (nth lines a) (nth lines n) → IsLed way lines (n + 1) (led.Two a n)
    one_even a h g v = (
      h.0,
      omega arith,
      h.1,
      g,
      v,
      h.2,
      λ k lt gk. elim (below_next k n lt) [
        | inl p ↦ elim (same_or_not k a) [
          | inl e ↦ subst (λ j. ¬ (IsBefore way (nth lines j) (nth lines a))) (sym e) (not_below_itself (start (nth lines a)) (steep way (nth lines a)))
          | inr o ↦ less_not_back (start (nth lines a)) (steep way (nth lines a)) (start (nth lines k)) (steep way (nth lines k)) h.1 gk (h.2 k p gk o)
        ]
        | inr e ↦ subst (λ j. ¬ (IsBefore way (nth lines j) (nth lines a))) (sym e) (not_after Equal (nth lines a) (nth lines n) h.1 g (λ i. differ i) v)
      ],
    )
      where
        differ : Equal ≡ Greater → ⊥
        differ i = subst IsEqual i tt

    -- the next line leads alone
    pub one_after : (a : ℕ) → IsLed way lines n (led.One a) → Goes way (nth lines n) → IsBefore way (nth lines n) (nth lines a) → IsLed way lines (n + 1) (led.One n)
    one_after a h g b = (
      omega arith,
      g,
      λ k lt gk ne. elim (below_next k n lt) [
        | inl p ↦ elim (same_or_not k a) [
          | inl e ↦ subst (λ j. IsBefore way (nth lines n) (nth lines j)) (sym e) b
          | inr o ↦ before_trans (nth lines n) (nth lines a) (nth lines k) g h.1 gk b (h.2 k p gk o)
        ]
        | inr e ↦ absurd (ne e)
      ],
    )

    pub two_after : (a b : ℕ) → IsLed way lines n (led.Two a b) → Goes way (nth lines n) → IsBefore way (nth lines n) (nth lines a) → IsLed way lines (n + 1) (led.One n)
    two_after a b h g f = (
      omega arith,
      g,
      λ k lt gk ne. elim (below_next k n lt) [
        | inl p ↦ before_level (nth lines n) (nth lines a) (nth lines k) g h.2 gk f (h.6 k p gk)
        | inr e ↦ absurd (ne e)
      ],
    )

    -- the leaders stay
    pub two_stay : (o : Ordering) (a b : ℕ) → o ≢ Greater → IsLed way lines n (led.Two a b) → Goes way (nth lines n)
        → MatchOrdering o (IsBefore way (nth lines a) (nth lines n)) (IsEven way (nth lines a) (nth lines n)) (IsBefore way (nth lines n) (nth lines a))
        → IsLed way lines (n + 1) (led.Two a b)
    two_stay o a b ne h g m = (
      h.0,
      (let p = h.1 in omega arith),
      h.2,
      h.3,
      h.4,
      h.5,
      λ k lt gk. elim (below_next k n lt) [
        | inl p ↦ h.6 k p gk
        | inr e ↦ subst (λ j. ¬ (IsBefore way (nth lines j) (nth lines a))) (sym e) (not_after o (nth lines a) (nth lines n) h.2 g ne m)
      ],
    )

    -- a line that doesn't go this way
    pub idle : (l : Leaders) → ¬ (Goes way (nth lines n)) → IsLed way lines n l → IsLed way lines (n + 1) l
    idle led.None g h = λ k lt. elim (below_next k n lt) [ inl p ↦ h k p | inr e ↦ subst (λ j. ¬ (Goes way (nth lines j))) (sym e) g ]
    idle (led.One a) g h = (
      (let p = h.0 in omega arith),
      h.1,
      λ k lt gk ne. elim (below_next k n lt) [ inl p ↦ h.2 k p gk ne | inr e ↦ absurd (g (subst (λ j. Goes way (nth lines j)) e gk)) ],
    )
    idle (led.Two a b) g h = (
      h.0,
      (let p = h.1 in omega arith),
      h.2,
      h.3,
      h.4,
      h.5,
      λ k lt gk. elim (below_next k n lt) [ inl p ↦ h.6 k p gk | inr e ↦ absurd (g (subst (λ j. Goes way (nth lines j)) e gk)) ],
    )

pub same_by_order : (i j : ℕ) → ¬ (i < j) → ¬ (j < i) → i ≡ j
same_by_order i j h k = omega (arith, h, k)
