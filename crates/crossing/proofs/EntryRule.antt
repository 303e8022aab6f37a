-- the rule of the entry
use Rattle.std.proofs.Common.{◌≡◌, inl, ℕ, ◌+◌, ◌<◌, ℤ, pos, neg_ℤ, ◌+ℤ◌, ◌-ℤ◌, ◌*ℤ◌, ◌<ℤ◌, List, [], ◌∷◌, length, Option, Some, None, HoldsAt, Bool, false, IsTrue, true≢false, refl, sym, ap, ap₂, subst, ◌∙◌, arith}
use Rattle.std.proofs.lemmas.Int.{ints}
use Rattle.std.proofs.lemmas.List.{get_or_default}
use Rattle.wide_int.proofs.Order.{sign_cases}
use Rattle.wide_int.proofs.Ring.{as_D, Ds, same_D}
use Rattle.wide_int.proofs.Bools.{some_is}
use Rattle.int_vectors.specs.Vectors.{IsPositive, scale, add, at}
use Rattle.lex_height.specs.Entries.{entries}
use Rattle.lex_height.specs.Values as lex
use Rattle.lex_height.proofs.Comparing.{less_less, less_turned, less_as}
use Rattle.crossing.specs.declared.line.WallLine.{WallLine}
use Rattle.crossing.specs.declared.entry.Entry.{Entry}
use Rattle.crossing.specs.declared.entry.Entry.TheVariants.{Always, At, Tied, Dead}
use Rattle.crossing.specs.declared.leaders.Way.TheVariants.{Falling, Rising}
use Rattle.crossing.specs.declared.leaders.Leaders.{Leaders}
use Rattle.crossing.specs.declared.leaders.Leaders.TheVariants as led
use Rattle.crossing.specs.Lines.{constant, value, Rises, IsZeroAt, ArePositive}
use Rattle.crossing.specs.Places.{HasAt, IsOnly, AreFirstTwo, origin}
use Rattle.crossing.specs.Leading.{start, Goes, IsLed, nth, first_of}
use Rattle.crossing.specs.Entries.{RisesAt, IsGreatestRise, LiveSometime, IsEntry}
use Rattle.crossing.specs.Found.{IsLow, RisesFirst, IsOpenBetween, IsOpen}
use Rattle.crossing.proofs.Lists.{at-sum, positive_from, positive_stable, earlier_less}
use Rattle.crossing.proofs.Values.{turn, value_at, positive_ratio, double_neg, less_turn, level_start, level_value}
use Rattle.crossing.proofs.Once.{time_once, first_once, only_once, one_or_two, second_once}
use Rattle.crossing.proofs.Found.{none_goes, first_goes, all_positive, zero_first, one_only, two_first, nothing}

-- ---- dead
pub low_dead : (lines : List WallLine) (k : ℕ) → k < length lines → IsLow (nth lines k) → ¬ (LiveSometime lines)
low_dead lines k lt h live = h.1 (level_start (nth lines k) h.0 live.0 live.1 live.2 (live.3 k origin lt))

pub none_low : (lines : List WallLine) (b : Bool) → ((k : ℕ) × (k < length lines) × HoldsAt IsLow lines k → IsTrue b) → b ≡ false → (k : ℕ) → k < length lines → ¬ (IsLow (nth lines k))
none_low lines b f e k lt h = true≢false (sym (f (k, lt, λ d. subst IsLow (get_or_default lines k origin d lt) h)) ∙ e)

-- a rising line's zero isn't before a falling line's
shut_dead_at : (x y : WallLine) → Goes Rising x → Goes Falling y → ¬ (RisesFirst x y) → (t : List ℤ) (q : ℤ) → pos 0 <ℤ q → IsPositive (value x t q) → ¬ (IsPositive (value y t q))
shut_dead_at x y gx gy n t q pq hx hy =
    let a = less_turned (turn Rising (at t)) q (start x) x.beta (positive_ratio Rising x t q hx) in
    let b = less_as (λ k. neg_ℤ (start x k)) (λ k. neg_ℤ (start x k)) (λ k. neg_ℤ (neg_ℤ (at t k))) (at t) x.beta q (λ k. refl) (λ k. double_neg (at t k)) a in
    n (less_less (λ k. neg_ℤ (start x k)) x.beta (at t) q (start y) (neg_ℤ y.beta) gx pq gy b (positive_ratio Falling y t q hy))

shut_by : (lines : List WallLine) (r f : Option ℕ) → ((a : ℕ) → r ≡ Some a → (a < length lines) × Goes Rising (nth lines a)) → ((b : ℕ) → f ≡ Some b → (b < length lines) × Goes Falling (nth lines b))
    → ¬ (IsOpenBetween lines r f) → ¬ (LiveSometime lines)
shut_by lines None f gr gf n live = n tt
shut_by lines (Some a) None gr gf n live = n tt
shut_by lines (Some a) (Some b) gr gf n live =
    let x = gr a refl in
    let y = gf b refl in
    shut_dead_at (nth lines a) (nth lines b) x.1 y.1 n live.0 live.1 live.2 (live.3 a origin x.0) (live.3 b origin y.0)

module _ (lines : List WallLine) (rising falling : Leaders) (rise : IsLed Rising lines (length lines) rising) (fall : IsLed Falling lines (length lines) falling) where
  pub shut_dead : ¬ (IsOpen lines rising falling) → ¬ (LiveSometime lines)
  shut_dead = shut_by lines (first_of rising) (first_of falling) (λ a e. first_goes Rising lines rising a e rise) (λ b e. first_goes Falling lines falling b e fall)

  -- ---- alive at some time
  positive_at_all : (t : List ℤ) (q : ℤ) → pos 0 <ℤ q → ((k : ℕ) → k < length lines → ¬ (IsLow (nth lines k))) → ((a : ℕ) → first_of rising ≡ Some a → IsPositive (value (nth lines a) t q))
      → ((b : ℕ) → first_of falling ≡ Some b → IsPositive (value (nth lines b) t q)) → ArePositive lines t q
  positive_at_all t q pq low fr ff k d lt =
      subst (λ (l : WallLine). IsPositive (value l t q)) (get_or_default lines k origin d lt)
      (sign_cases (nth lines k).beta
      (λ n. all_positive Falling lines falling fall t q pq ff k lt (omega (arith, ints, n)))
      (λ z. level_value (nth lines k) z t q pq (positive_stable (constant (nth lines k)) (λ h. low k lt (z, h))))
      (λ r. all_positive Rising lines rising rise t q pq fr k lt r))

  -- one unit after the zero of a rising line
  after_rise : (x : WallLine) → Goes Rising x → IsPositive (value x ((pos 1 -ℤ x.alpha) ∷ []) x.beta)
  after_rise x h = inl (let e = ring x.alpha x.beta (pos 1) in omega (arith, ints, e, h))
    where
      ring : (a b m : ℤ) → b *ℤ a +ℤ b *ℤ (m -ℤ a) ≡ b *ℤ m
      ring a b m = rw (as_D a, as_D b, as_D m) (simp Ds (same_D _ _ _ _ (omega arith)))

  before_fall : (y : WallLine) → Goes Falling y → IsPositive (value y ((y.alpha -ℤ pos 1) ∷ []) (neg_ℤ y.beta))
  before_fall y h = inl (let e = ring y.alpha y.beta (pos 1) in omega (arith, ints, e, h))
    where
      ring : (a b m : ℤ) → neg_ℤ b *ℤ a +ℤ b *ℤ (a -ℤ m) ≡ neg_ℤ (b *ℤ m)
      ring a b m = rw (as_D a, as_D b, as_D m) (simp Ds (same_D _ _ _ _ (omega arith)))

  -- where a rising and a falling line have the same value
  abbrev meeting : WallLine → WallLine → List ℤ
  meeting x y = add (scale (pos 1) (constant y)) (scale (neg_ℤ (pos 1)) (constant x))

  meeting_at : (x y : WallLine) (k : ℕ) → at (meeting x y) k ≡ start y k -ℤ start x k
  meeting_at x y k = at-sum (pos 1) (neg_ℤ (pos 1)) (constant y) (constant x) k ∙ ones (start y k) (start x k)
    where
      ones : (c a : ℤ) → pos 1 *ℤ c +ℤ neg_ℤ (pos 1) *ℤ a ≡ c -ℤ a
      ones c a = omega (arith, ints)

  positive_as : (l : WallLine) (t : List ℤ) (q : ℤ) (x y : WallLine) → ((k : ℕ) → at (value l t q) k ≡ start y k *ℤ x.beta -ℤ neg_ℤ (start x k) *ℤ neg_ℤ y.beta) → RisesFirst x y → IsPositive (value l t q)
  positive_as l t q x y e h = positive_from (value l t q) (
    h.0,
    (let a = h.1 in let v = e h.0 in omega (arith, ints, a, v)),
    λ k lt. let a = h.2 k lt in let v = e k in omega (arith, ints, a, v),
  )

  between_rise : (x y : WallLine) → RisesFirst x y → IsPositive (value x (meeting x y) (x.beta -ℤ y.beta))
  between_rise x y = positive_as x (meeting x y) (x.beta -ℤ y.beta) x y (
      λ k. value_at x (meeting x y) (x.beta -ℤ y.beta) k ∙ ap (λ z. (x.beta -ℤ y.beta) *ℤ start x k +ℤ x.beta *ℤ z) (meeting_at x y k) ∙ ring (start x k) x.beta (start y k) y.beta
      )
    where
      ring : (a b c d : ℤ) → (b -ℤ d) *ℤ a +ℤ b *ℤ (c -ℤ a) ≡ c *ℤ b -ℤ neg_ℤ a *ℤ neg_ℤ d
      ring a b c d = rw (as_D a, as_D b, as_D c, as_D d) (simp Ds (same_D _ _ _ _ (omega arith)))

  between_fall : (x y : WallLine) → RisesFirst x y → IsPositive (value y (meeting x y) (x.beta -ℤ y.beta))
  between_fall x y = positive_as y (meeting x y) (x.beta -ℤ y.beta) x y (
      λ k. value_at y (meeting x y) (x.beta -ℤ y.beta) k ∙ ap (λ z. (x.beta -ℤ y.beta) *ℤ start y k +ℤ y.beta *ℤ z) (meeting_at x y k) ∙ ring (start x k) x.beta (start y k) y.beta
      )
    where
      ring : (a b c d : ℤ) → (b -ℤ d) *ℤ c +ℤ d *ℤ (c -ℤ a) ≡ c *ℤ b -ℤ neg_ℤ a *ℤ neg_ℤ d
      ring a b c d = rw (as_D a, as_D b, as_D c, as_D d) (simp Ds (same_D _ _ _ _ (omega arith)))

  live_by : (r f : Option ℕ) → first_of rising ≡ r → first_of falling ≡ f → ((k : ℕ) → k < length lines → ¬ (IsLow (nth lines k))) → IsOpenBetween lines r f → LiveSometime lines
  live_by None None er ef low open_ = (
    [],
    pos 1,
    omega (arith, ints),
    positive_at_all [] (pos 1) (omega (arith, ints)) low (λ a e. absurd (nothing a (sym er ∙ e))) (λ b e. absurd (nothing b (sym ef ∙ e))),
  )
  live_by (Some a) None er ef low open_ =
      let x = nth lines a in
      let t = (pos 1 -ℤ x.alpha) ∷ [] in
      let g = (first_goes Rising lines rising a er rise).1 in (
        t,
        x.beta,
        g,
        positive_at_all t x.beta g low
            (λ i e. subst (λ j. IsPositive (value (nth lines j) t x.beta)) (some_is a i (sym er ∙ e)) (after_rise x g))
            (λ i e. absurd (nothing i (sym ef ∙ e))),
      )
  live_by None (Some b) er ef low open_ =
      let y = nth lines b in
      let t = (y.alpha -ℤ pos 1) ∷ [] in
      let g = (first_goes Falling lines falling b ef fall).1 in (
        t,
        neg_ℤ y.beta,
        g,
        positive_at_all t (neg_ℤ y.beta) g low
            (λ i e. absurd (nothing i (sym er ∙ e)))
            (λ i e. subst (λ j. IsPositive (value (nth lines j) t (neg_ℤ y.beta))) (some_is b i (sym ef ∙ e)) (before_fall y g)),
      )
  live_by (Some a) (Some b) er ef low open_ =
      let x = nth lines a in
      let y = nth lines b in
      let gx = (first_goes Rising lines rising a er rise).1 in
      let gy = (first_goes Falling lines falling b ef fall).1 in
      let q : pos 0 <ℤ (x.beta -ℤ y.beta) = omega (arith, ints, gx, gy) in (
        meeting x y,
        x.beta -ℤ y.beta,
        q,
        positive_at_all (meeting x y) (x.beta -ℤ y.beta) q low
            (λ i e. subst (λ j. IsPositive (value (nth lines j) (meeting x y) (x.beta -ℤ y.beta))) (some_is a i (sym er ∙ e)) (between_rise x y open_))
            (λ i e. subst (λ j. IsPositive (value (nth lines j) (meeting x y) (x.beta -ℤ y.beta))) (some_is b i (sym ef ∙ e)) (between_fall x y open_)),
      )

  pub live_open : ((k : ℕ) → k < length lines → ¬ (IsLow (nth lines k))) → IsOpen lines rising falling → LiveSometime lines
  live_open = live_by (first_of rising) (first_of falling) refl refl

-- ---- the answers
module _ (lines : List WallLine) where
  module _ (live : LiveSometime lines) where
    pub is_always : IsLed Rising lines (length lines) led.None → IsEntry lines Always
    is_always h = (live, none_goes Rising lines h)

    pub is_at : (t : lex.Value) → lex.IsLowest t → (a : ℕ) → IsLed Rising lines (length lines) (led.One a) → IsZeroAt (nth lines a) t → IsEntry lines (At t (a + 1))
    is_at t low a h z = (
      live,
      low,
      (λ place p q pq at_place e. zero_first Rising lines (led.One a) a refl h t low z place p q pq at_place (less_turn (at p) q (at (entries t.parts)) t.den (earlier_less (entries t.parts) t.den p q e))),
      one_only Rising lines t low a h z,
    )

    pub is_tied : (t : lex.Value) → lex.IsLowest t → (a b : ℕ) → IsLed Rising lines (length lines) (led.Two a b) → IsZeroAt (nth lines a) t → IsEntry lines (Tied t (a + 1) (b + 1))
    is_tied t low a b h z = (
      live,
      low,
      (λ place p q pq at_place e. zero_first Rising lines (led.Two a b) a refl h t low z place p q pq at_place (less_turn (at p) q (at (entries t.parts)) t.den (earlier_less (entries t.parts) t.den p q e))),
      two_first Rising lines t low a b h z,
    )

  -- ---- there is one answer
  there : (t : lex.Value) (i : ℕ) → HasAt (RisesAt t) lines i → HasAt Rises lines i
  there t i h = (h.0, h.1, h.2.0)

  same_time : (t u : lex.Value) (i j : ℕ) → lex.IsLowest t → lex.IsLowest u → IsGreatestRise lines t → IsGreatestRise lines u → HasAt (RisesAt t) lines i → HasAt (RisesAt u) lines j → t ≡ u
  same_time t u i j lt lu ft fu hi hj = time_once t u lt lu (ft j (entries u.parts) u.den lu.0.2 hj) (fu i (entries t.parts) t.den lt.0.2 hi)

  at_at : (t u : lex.Value) (i j : ℕ) → IsEntry lines (At t i) → IsEntry lines (At u j) → At t i ≡ At u j
  at_at t u i j h k =
      let e = same_time t u i j h.1 k.1 h.2 k.2 h.3.0 k.3.0 in
      ap₂ At e (only_once (RisesAt u) lines i j (subst (λ (v : lex.Value). IsOnly (RisesAt v) lines i) e h.3) k.3)

  at_tied : {R : Type 0} (t u : lex.Value) (i j k : ℕ) → IsEntry lines (At t i) → IsEntry lines (Tied u j k) → R
  at_tied t u i j k h m =
      let e = same_time t u i j h.1 m.1 h.2 m.2 h.3.0 m.3.0.0 in
      one_or_two (RisesAt u) lines i j k (subst (λ (v : lex.Value). IsOnly (RisesAt v) lines i) e h.3) m.3

  tied_tied : (t u : lex.Value) (i j k l : ℕ) → IsEntry lines (Tied t i j) → IsEntry lines (Tied u k l) → Tied t i j ≡ Tied u k l
  tied_tied t u i j k l h m =
      let e = same_time t u i k h.1 m.1 h.2 m.2 h.3.0.0 m.3.0.0 in
      let x = subst (λ (v : lex.Value). AreFirstTwo (RisesAt v) lines i j) e h.3 in
      let f = first_once (RisesAt u) lines i k x.0 m.3.0 in
      let y = subst (λ (n : ℕ). AreFirstTwo (RisesAt u) lines n j) f x in
      ap₂ (λ v n. Tied v n j) e f ∙ ap (λ n. Tied u k n) (second_once (RisesAt u) lines k j l y m.3)

  pub entry_once : (x y : Entry) → IsEntry lines x → IsEntry lines y → x ≡ y
  entry_once Dead Dead h k = refl
  entry_once Dead Always h k = absurd (h k.0)
  entry_once Dead (At u j) h k = absurd (h k.0)
  entry_once Dead (Tied u j l) h k = absurd (h k.0)
  entry_once Always Dead h k = absurd (k h.0)
  entry_once Always Always h k = refl
  entry_once Always (At u j) h k = absurd (h.1 j (there u j k.3.0))
  entry_once Always (Tied u j l) h k = absurd (h.1 j (there u j k.3.0.0))
  entry_once (At t i) Dead h k = absurd (k h.0)
  entry_once (At t i) Always h k = absurd (k.1 i (there t i h.3.0))
  entry_once (At t i) (At u j) h k = at_at t u i j h k
  entry_once (At t i) (Tied u j l) h k = at_tied t u i j l h k
  entry_once (Tied t i m) Dead h k = absurd (k h.0)
  entry_once (Tied t i m) Always h k = absurd (k.1 i (there t i h.3.0.0))
  entry_once (Tied t i m) (At u j) h k = at_tied u t j i m k h
  entry_once (Tied t i m) (Tied u j l) h k = tied_tied t u i m j l h k
