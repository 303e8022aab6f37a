-- the front of a list of lines, one line after the other
use Rattle.std.proofs.Common.{◌≡◌, ◌≢◌, inl, inr, ℕ, zero, suc, ◌+◌, ◌<◌, List, [], ◌∷◌, ◌++◌, length, ℤ, pos, neg_ℤ, ◌*ℤ◌, ◌<ℤ◌, Ordering, Less, Equal, Greater, arith, refl, sym, subst, ◌∙◌}
use Rattle.std.proofs.lemmas.Int.{ints}
use Rattle.std.specs.Ordering.{MatchOrdering}
use Rattle.crossing.specs.declared.line.WallLine.{WallLine}
use Rattle.crossing.specs.declared.leaders.Way.TheVariants.{Falling}
use Rattle.crossing.specs.declared.leaders.Leaders.{Leaders}
use Rattle.crossing.specs.declared.leaders.Leaders.TheVariants as led
use Rattle.crossing.specs.Lines.{Falls}
use Rattle.crossing.specs.Leading.{Goes, IsBefore, IsEven, IsLed, nth}
use Rattle.crossing.proofs.Leading.{below_next, one_stay, one_even, one_after, two_after, two_stay, idle}
use Rattle.cone_walls.specs.declared.fronts.Fall.{Fall}
use Rattle.cone_walls.specs.declared.fronts.Front.{Front}
use Rattle.cone_walls.specs.declared.fronts.Front.TheVariants.{Empty, One, Two}
use Rattle.cone_walls.specs.Fronts.{line_by, IsFront}

-- ---- the order of two lines without infinitesimals
nothing : (a b p q : ℤ) → a ≡ pos 0 → b ≡ pos 0 → a *ℤ p ≡ b *ℤ q
nothing a b p q e f = rw (e, f) (omega (arith, ints))

even : (f g : Fall) → f.alpha *ℤ neg_ℤ g.beta ≡ g.alpha *ℤ neg_ℤ f.beta → IsEven Falling (line_by f) (line_by g)
even f g e zero = e
even f g e (suc k) = nothing (pos 0) (pos 0) (neg_ℤ g.beta) (neg_ℤ f.beta) refl refl

pub order_by : (f g : Fall) (o : Ordering)
    → MatchOrdering o ((f.alpha *ℤ neg_ℤ g.beta) <ℤ (g.alpha *ℤ neg_ℤ f.beta)) (f.alpha *ℤ neg_ℤ g.beta ≡ g.alpha *ℤ neg_ℤ f.beta) ((g.alpha *ℤ neg_ℤ f.beta) <ℤ (f.alpha *ℤ neg_ℤ g.beta))
    → MatchOrdering o (IsBefore Falling (line_by f) (line_by g)) (IsEven Falling (line_by f) (line_by g)) (IsBefore Falling (line_by g) (line_by f))
order_by f g Less m = (0, m, λ k lt. absurd (omega (arith, lt)))
order_by f g Equal m = even f g m
order_by f g Greater m = (0, m, λ k lt. absurd (omega (arith, lt)))

-- ---- the leaders of a longer list
nth_front : (xs ys : List WallLine) (k : ℕ) → k < length xs → nth (xs ++ ys) k ≡ nth xs k
nth_front [] ys k lt = absurd (omega (arith, lt))
nth_front (x ∷ xs) ys zero lt = refl
nth_front (x ∷ xs) ys (suc k) lt = nth_front xs ys k (omega (arith, lt))

nth_last : (xs : List WallLine) (l : WallLine) → nth (xs ++ l ∷ []) (length xs) ≡ l
nth_last [] l = refl
nth_last (x ∷ xs) l = nth_last xs l

length_more : (xs : List WallLine) (l : WallLine) → length (xs ++ l ∷ []) ≡ length xs + 1
length_more [] l = refl
length_more (x ∷ xs) l = let e = length_more xs l in omega (arith, e)

module _ (xs ys : List WallLine) (n : ℕ) (same : (k : ℕ) → k < n → nth ys k ≡ nth xs k) where
  goes_back : (k : ℕ) → k < n → Goes Falling (nth ys k) → Goes Falling (nth xs k)
  goes_back k lt g = subst (λ (l : WallLine). Goes Falling l) (same k lt) g

  goes_on : (k : ℕ) → k < n → Goes Falling (nth xs k) → Goes Falling (nth ys k)
  goes_on k lt g = subst (λ (l : WallLine). Goes Falling l) (sym (same k lt)) g

  before_on : (a k : ℕ) → a < n → k < n → IsBefore Falling (nth xs a) (nth xs k) → IsBefore Falling (nth ys a) (nth ys k)
  before_on a k la lk h =
      subst (λ (l : WallLine). IsBefore Falling l (nth ys k)) (sym (same a la)) (subst (λ (l : WallLine). IsBefore Falling (nth xs a) l) (sym (same k lk)) h)

  before_back : (a k : ℕ) → a < n → k < n → IsBefore Falling (nth ys a) (nth ys k) → IsBefore Falling (nth xs a) (nth xs k)
  before_back a k la lk h =
      subst (λ (l : WallLine). IsBefore Falling l (nth xs k)) (same a la) (subst (λ (l : WallLine). IsBefore Falling (nth ys a) l) (same k lk) h)

  even_on : (a k : ℕ) → a < n → k < n → IsEven Falling (nth xs a) (nth xs k) → IsEven Falling (nth ys a) (nth ys k)
  even_on a k la lk h =
      subst (λ (l : WallLine). IsEven Falling l (nth ys k)) (sym (same a la)) (subst (λ (l : WallLine). IsEven Falling (nth xs a) l) (sym (same k lk)) h)

  led_on : (x : Leaders) → IsLed Falling xs n x → IsLed Falling ys n x
  led_on led.None h = λ k lt g. h k lt (goes_back k lt g)
  led_on (led.One a) h = (h.0, goes_on a h.0 h.1, λ k lt g ne. before_on a k h.0 lt (h.2 k lt (goes_back k lt g) ne))
  led_on (led.Two a b) h =
      let la : a < n = let p = h.0 in let q = h.1 in omega (arith, p, q) in
      let lb = h.1 in (
        h.0,
        h.1,
        goes_on a la h.2,
        goes_on b h.1 h.3,
        even_on a b la h.1 h.4,
        (λ k lt g ne. let ln : k < n = omega (arith, lt, lb) in before_on a k la ln (h.5 k lt (goes_back k ln g) ne)),
        (λ k lt g f. h.6 k lt (goes_back k lt g) (before_back k a lt la f)),
      )

module _ (lines : List WallLine) (l : WallLine) where
  abbrev n : ℕ
  n = length lines

  abbrev longer : List WallLine
  longer = lines ++ l ∷ []

  old_led : (x : Leaders) → IsLed Falling lines (length lines) x → IsLed Falling (lines ++ l ∷ []) (length lines) x
  old_led x h = led_on lines (lines ++ l ∷ []) (length lines) (λ k lt. nth_front lines (l ∷ []) k lt) x h

  new_led : (x : Leaders) → IsLed Falling (lines ++ l ∷ []) (length lines + 1) x → IsLed Falling (lines ++ l ∷ []) (length (lines ++ l ∷ [])) x
  new_led x h = subst (λ m. IsLed Falling (lines ++ l ∷ []) m x) (sym (length_more lines l)) h

  here : (a : ℕ) → a < length lines → (k : WallLine) → nth lines a ≡ k → nth (lines ++ l ∷ []) a ≡ k
  here a lt k e = nth_front lines (l ∷ []) a lt ∙ e

  last_goes : Goes Falling l → Goes Falling (nth (lines ++ l ∷ []) (length lines))
  last_goes g = subst (λ (k : WallLine). Goes Falling k) (sym (nth_last lines l)) g

  -- a line that doesn't fall
  pub front_idle : (front : Front) → ¬ (Falls l) → IsFront lines front → IsFront (lines ++ l ∷ []) front
  front_idle Empty f h = new_led led.None (idle Falling (lines ++ l ∷ []) (length lines) led.None (rests f) (old_led led.None h))
    where
      rests : ¬ (Falls l) → ¬ (Goes Falling (nth (lines ++ l ∷ []) (length lines)))
      rests f g = f (let k : Goes Falling l = subst (λ (k : WallLine). Goes Falling k) (nth_last lines l) g in omega (arith, ints, k))
  front_idle (One x) f h = (h.0, new_led (led.One h.0) (idle Falling (lines ++ l ∷ []) (length lines) (led.One h.0) (rests f) (old_led (led.One h.0) h.1)), here h.0 h.1.0 (line_by x) h.2)
    where
      rests : ¬ (Falls l) → ¬ (Goes Falling (nth (lines ++ l ∷ []) (length lines)))
      rests f g = f (let k : Goes Falling l = subst (λ (k : WallLine). Goes Falling k) (nth_last lines l) g in omega (arith, ints, k))
  front_idle (Two x y) f h =
      let lt = h.2.0 in
      let lu = h.2.1 in (
        h.0,
        h.1,
        new_led (led.Two h.0 h.1) (idle Falling (lines ++ l ∷ []) (length lines) (led.Two h.0 h.1) (rests f) (old_led (led.Two h.0 h.1) h.2)),
        here h.0 (omega (arith, lt, lu)) (line_by x) h.3,
        here h.1 h.2.1 (line_by y) h.4,
      )
    where
      rests : ¬ (Falls l) → ¬ (Goes Falling (nth (lines ++ l ∷ []) (length lines)))
      rests f g = f (let k : Goes Falling l = subst (λ (k : WallLine). Goes Falling k) (nth_last lines l) g in omega (arith, ints, k))

-- a line that falls
module _ (lines : List WallLine) (g : Fall) (falls : g.beta <ℤ pos 0) where
  abbrev with_line : List WallLine
  with_line = lines ++ line_by g ∷ []

  goes : Goes Falling (line_by g)
  goes = omega (arith, ints, falls)

  at_last : nth (lines ++ line_by g ∷ []) (length lines) ≡ line_by g
  at_last = nth_last lines (line_by g)

  pub front_first : IsFront lines Empty → IsFront (lines ++ line_by g ∷ []) (One g)
  front_first h = (
    length lines,
    new_led lines (line_by g) (led.One (length lines)) (
      omega arith,
      last_goes lines (line_by g) goes,
      λ k lt w ne. elim (below_next k (length lines) lt) [
        | inl p ↦ absurd (old_led lines (line_by g) led.None h k p w)
        | inr e ↦ absurd (ne e)
      ],
    ),
    at_last,
  )

  -- against one that leads alone
  module _ (f : Fall) (h : IsFront lines (One f)) where
    abbrev a : ℕ
    a = h.0

    old : IsLed Falling (lines ++ line_by g ∷ []) (length lines) (led.One h.0)
    old = old_led lines (line_by g) (led.One h.0) h.1

    first : nth (lines ++ line_by g ∷ []) h.0 ≡ line_by f
    first = here lines (line_by g) h.0 h.1.0 (line_by f) h.2

    pub front_stays : IsBefore Falling (line_by f) (line_by g) → IsFront (lines ++ line_by g ∷ []) (One f)
    front_stays b = (
      h.0,
      new_led lines (line_by g) (led.One h.0)
          (one_stay Falling (lines ++ line_by g ∷ []) (length lines) h.0 old
          (subst (λ (l : WallLine). IsBefore Falling l (nth (lines ++ line_by g ∷ []) (length lines))) (sym first) (subst (λ (l : WallLine). IsBefore Falling (line_by f) l) (sym at_last) b))),
      first,
    )

    pub front_joins : IsEven Falling (line_by f) (line_by g) → IsFront (lines ++ line_by g ∷ []) (Two f g)
    front_joins b = (
      h.0,
      length lines,
      new_led lines (line_by g) (led.Two h.0 (length lines))
          (one_even Falling (lines ++ line_by g ∷ []) (length lines) h.0 old (last_goes lines (line_by g) goes)
          (subst (λ (l : WallLine). IsEven Falling l (nth (lines ++ line_by g ∷ []) (length lines))) (sym first) (subst (λ (l : WallLine). IsEven Falling (line_by f) l) (sym at_last) b))),
      first,
      at_last,
    )

    pub front_moves : IsBefore Falling (line_by g) (line_by f) → IsFront (lines ++ line_by g ∷ []) (One g)
    front_moves b = (
      length lines,
      new_led lines (line_by g) (led.One (length lines))
          (one_after Falling (lines ++ line_by g ∷ []) (length lines) h.0 old (last_goes lines (line_by g) goes)
          (subst (λ (l : WallLine). IsBefore Falling l (nth (lines ++ line_by g ∷ []) h.0)) (sym at_last) (subst (λ (l : WallLine). IsBefore Falling (line_by g) l) (sym first) b))),
      at_last,
    )

  -- against two that lead
  module _ (f e : Fall) (h : IsFront lines (Two f e)) where
    old_two : IsLed Falling (lines ++ line_by g ∷ []) (length lines) (led.Two h.0 h.1)
    old_two = old_led lines (line_by g) (led.Two h.0 h.1) h.2

    first_two : nth (lines ++ line_by g ∷ []) h.0 ≡ line_by f
    first_two = let lt = h.2.0 in let lu = h.2.1 in here lines (line_by g) h.0 (omega (arith, lt, lu)) (line_by f) h.3

    pub two_move : IsBefore Falling (line_by g) (line_by f) → IsFront (lines ++ line_by g ∷ []) (One g)
    two_move b = (
      length lines,
      new_led lines (line_by g) (led.One (length lines))
          (two_after Falling (lines ++ line_by g ∷ []) (length lines) h.0 h.1 old_two (last_goes lines (line_by g) goes)
          (subst (λ (l : WallLine). IsBefore Falling l (nth (lines ++ line_by g ∷ []) h.0)) (sym at_last) (subst (λ (l : WallLine). IsBefore Falling (line_by g) l) (sym first_two) b))),
      at_last,
    )

    pub two_remain : (o : Ordering) → o ≢ Greater
        → MatchOrdering o (IsBefore Falling (line_by f) (line_by g)) (IsEven Falling (line_by f) (line_by g)) (IsBefore Falling (line_by g) (line_by f)) → IsFront (lines ++ line_by g ∷ []) (Two f e)
    two_remain o ne m = (
      h.0,
      h.1,
      new_led lines (line_by g) (led.Two h.0 h.1)
          (two_stay Falling (lines ++ line_by g ∷ []) (length lines) o h.0 h.1 ne old_two (last_goes lines (line_by g) goes)
          (subst (λ (l : WallLine). MatchOrdering o (IsBefore Falling l (nth (lines ++ line_by g ∷ []) (length lines))) (IsEven Falling l (nth (lines ++ line_by g ∷ []) (length lines))) (IsBefore Falling (nth (lines ++ line_by g ∷ []) (length lines)) l)) (sym first_two)
          (subst (λ (l : WallLine). MatchOrdering o (IsBefore Falling (line_by f) l) (IsEven Falling (line_by f) l) (IsBefore Falling l (line_by f))) (sym at_last) m))),
      first_two,
      here lines (line_by g) h.1 h.2.1 (line_by e) h.4,
    )
