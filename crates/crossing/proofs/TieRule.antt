-- the tie that is named for the lines
use Rattle.std.proofs.Common.{◌≡◌, ◌≢◌, ◌⊎◌, inl, inr, ℕ, zero, suc, ◌+◌, ◌-◌, ◌<◌, ◌≤◌, min, List, [], length, Option, Some, None, MatchOption, HoldsAt, ℤ, pos, ◌*ℤ◌, ◌<ℤ◌, refl, sym, subst, ◌∙◌, arith}
use Rattle.std.proofs.lemmas.Int.{ints}
use Rattle.wide_int.proofs.Order.{sign_cases}
use Rattle.wide_int.proofs.Ring.{zero_mul_ℤ}
use Rattle.int_vectors.specs.Vectors.{IsZero, at}
use Rattle.int_vectors.proofs.Entries.{zero_from}
use Rattle.lex_height.specs.Entries.{entry, entries}
use Rattle.lex_height.specs.Values as lex
use Rattle.lex_height.specs.Order.{IsSame}
use Rattle.lex_height.proofs.Ranks.{entries_is}
use Rattle.lex_height.proofs.Comparing.{same_same, same_back, less_not_same}
use Rattle.crossing.specs.declared.line.WallLine.{WallLine}
use Rattle.crossing.specs.declared.leaders.Way.TheVariants.{Falling, Rising}
use Rattle.crossing.specs.declared.ends.End.{End}
use Rattle.crossing.specs.declared.ends.Pair.{Pair}
use Rattle.crossing.specs.Lines.{IsFlat, IsZeroAt}
use Rattle.crossing.specs.Places.{HasAt, IsNowhere, origin}
use Rattle.crossing.specs.Leading.{Goes, IsLed, nth}
use Rattle.crossing.specs.Ends.{led_by, IsEnd, IsSunk, AreCrossed, IsEndTime, pair_with, pair_of, earlier_of, IsFirstPair}
use Rattle.crossing.specs.Ties.{IsZeroThen, InSpan, IsLowerEnd, IsFirstEnd, NoLowerTie, IsTie, HasNoTie}
use Rattle.crossing.proofs.Lists.{earlier_less, less_earlier, either}
use Rattle.crossing.proofs.Values.{turned_less}
use Rattle.crossing.proofs.Once.{time_once}
use Rattle.crossing.proofs.Leading.{same_or_not}
use Rattle.crossing.proofs.Found.{GoesAt, one_only, two_first}
use Rattle.crossing.proofs.ExitRule.{is_flat}
use Rattle.crossing.proofs.OneWay.{level_flat, zero_there, zero_same, turned_same, leader}
use Rattle.crossing.proofs.SpanEnds.{moment, over, NotBefore, NotAfter, sunk_empty, crossed_empty, after_lower, before_upper, in_span, no_lower, no_upper, lower_end, upper_end}

-- ---- the first two of two lists of places
-- the first place, and the only one, or the first two
abbrev Leads : (ℕ → Type 0) → ℕ → Option ℕ → Type 0
Leads A a None = A (a + 1) × ((o : ℕ) → A o → o ≡ a + 1)
Leads A a (Some b) = A (a + 1) × ((o : ℕ) → o < a + 1 → ¬ (A o)) × (a < b) × A (b + 1) × ((o : ℕ) → a + 1 < o → o < b + 1 → ¬ (A o))

abbrev FirstTwo : (ℕ → Type 0) → ℕ → ℕ → Type 0
FirstTwo C i j = (C i × ((o : ℕ) → o < i → ¬ (C o))) × (i < j) × C j × ((o : ℕ) → i < o → o < j → ¬ (C o))

leads_at : (A : ℕ → Type 0) (a : ℕ) (x : Option ℕ) → Leads A a x → A (a + 1)
leads_at A a None h = h.0
leads_at A a (Some b) h = h.0

none_sooner : (A : ℕ → Type 0) (a : ℕ) (x : Option ℕ) → Leads A a x → (o : ℕ) → o < a + 1 → ¬ (A o)
none_sooner A a None h o lt k = let e = h.1 o k in omega (arith, lt, e)
none_sooner A a (Some b) h o lt k = h.1 o lt k

less_or_not : (c b : ℕ) → (c < b) ⊎ (b ≤ c)
less_or_not zero zero = inr (omega arith)
less_or_not zero (suc b) = inl (omega arith)
less_or_not (suc c) zero = inr (omega arith)
less_or_not (suc c) (suc b) = elim (less_or_not c b) [ inl l ↦ inl (omega (arith, l)) | inr l ↦ inr (omega (arith, l)) ]

module _ (A B C : ℕ → Type 0) (a b : ℕ) (y : Option ℕ) (hb : Leads B b y) (which : (o : ℕ) → C o → A o ⊎ B o) (from : (o : ℕ) → A o → C o) (too : (o : ℕ) → B o → C o) (ab : a < b) where
  merged : (x : Option ℕ) → Leads A a x → FirstTwo C (a + 1) (earlier_of x b + 1)
  merged None ha = (
    (from (a + 1) ha.0, λ o lt k. elim (which o k) [ inl i ↦ none_sooner A a None ha o lt i | inr j ↦ none_sooner B b y hb o (omega (arith, lt, ab)) j ]),
    omega (arith, ab),
    too (b + 1) (leads_at B b y hb),
    λ o gt lt k. elim (which o k) [ inl i ↦ (let e = ha.1 o i in omega (arith, gt, e)) | inr j ↦ none_sooner B b y hb o lt j ],
  )
  merged (Some c) ha = elim (less_or_not c b) [
    | inl cb ↦ subst (λ n. FirstTwo C (a + 1) (n + 1)) (sym (min_left c b cb)) (
      (first, λ o lt k. sooner o lt k),
      (let l = ha.2 in omega (arith, l)),
      from (c + 1) ha.3,
      λ o gt lt k. elim (which o k) [ inl i ↦ ha.4 o gt lt i | inr j ↦ none_sooner B b y hb o (omega (arith, lt, cb)) j ],
    )
    | inr bc ↦ subst (λ n. FirstTwo C (a + 1) (n + 1)) (sym (min_right c b bc)) (
      (first, λ o lt k. sooner o lt k),
      omega (arith, ab),
      too (b + 1) (leads_at B b y hb),
      λ o gt lt k. elim (which o k) [ inl i ↦ ha.4 o gt (omega (arith, lt, bc)) i | inr j ↦ none_sooner B b y hb o lt j ],
    )
  ]
    where
      first : C (a + 1)
      first = from (a + 1) ha.0

      sooner : (o : ℕ) → o < a + 1 → ¬ (C o)
      sooner o lt k = elim (which o k) [ inl i ↦ ha.1 o lt i | inr j ↦ none_sooner B b y hb o (omega (arith, lt, ab)) j ]

      min_left : (c b : ℕ) → c < b → min c b ≡ c
      min_left c b l = omega (arith, l)

      min_right : (c b : ℕ) → b ≤ c → min c b ≡ b
      min_right c b l = omega (arith, l)

-- the leaders of an end as places
module _ (lines : List WallLine) where
  leads_rising : (e : End) → IsEnd Rising lines (Some e) → Leads (HasAt (GoesAt Rising e.time) lines) e.first e.second
  leads_rising e h = by_second e.second h.2
    where
      by_second : (s : Option ℕ) → IsLed Rising lines (length lines) (led_by e.first s) → Leads (HasAt (GoesAt Rising e.time) lines) e.first s
      by_second None l = one_only Rising lines e.time h.0 e.first l h.1
      by_second (Some b) l = let k = two_first Rising lines e.time h.0 e.first b l h.1 in (k.0.0, k.0.1, l.0, k.2, k.3)

  leads_falling : (e : End) → IsEnd Falling lines (Some e) → Leads (HasAt (GoesAt Falling e.time) lines) e.first e.second
  leads_falling e h = by_second e.second h.2
    where
      by_second : (s : Option ℕ) → IsLed Falling lines (length lines) (led_by e.first s) → Leads (HasAt (GoesAt Falling e.time) lines) e.first s
      by_second None l = one_only Falling lines e.time h.0 e.first l h.1
      by_second (Some b) l = let k = two_first Falling lines e.time h.0 e.first b l h.1 in (k.0.0, k.0.1, l.0, k.2, k.3)

  -- the first two of all lines with a property, where these are the leaders
  two_leads : (A C : ℕ → Type 0) (a b : ℕ) (x : Option ℕ) → x ≡ Some b → Leads A a x → ((o : ℕ) → C o → A o) → ((o : ℕ) → A o → C o) → FirstTwo C (a + 1) (b + 1)
  two_leads A C a b x e h back there =
      let k = subst (Leads A a) e h in (
        (there (a + 1) k.0, λ o lt c. k.1 o lt (back o c)),
        (let l = k.2 in omega (arith, l)),
        there (b + 1) k.3,
        λ o gt lt c. k.4 o gt lt (back o c),
      )

  only_leads : (A : ℕ → Type 0) (a : ℕ) (x : Option ℕ) → x ≡ None → Leads A a x → (i j : ℕ) → A i → A j → i ≡ j
  only_leads A a x e h i j p q = let k = subst (Leads A a) e h in k.1 i p ∙ sym (k.1 j q)

nothing_there : (p : Pair) → Some p ≡ None → ⊥
nothing_there p e = subst (λ (o : Option Pair). MatchOption o ⊥ (λ q. Unit {0})) e tt

single : (time : lex.Value) (a : ℕ) (x : Option ℕ) → pair_with time a x ≡ None → x ≡ None
single time a None e = refl
single time a (Some b) e = absurd (nothing_there _ e)

-- both ends are there and are one time
abbrev pub Meet : Option End → Option End → Type 0
Meet None upper = ⊥
Meet (Some l) None = ⊥
Meet (Some l) (Some u) = l.time ≡ u.time

same_time : (v w : lex.Value) → lex.IsLowest v → lex.IsLowest w → IsSame (at (entries v.parts)) v.den (at (entries w.parts)) w.den → v ≡ w
same_time v w lv lw s =
    time_once v w lv lw
    (λ e. less_not_same (at (entries v.parts)) v.den (at (entries w.parts)) w.den (earlier_less (entries v.parts) v.den (entries w.parts) w.den e) s)
    (λ e. less_not_same (at (entries w.parts)) w.den (at (entries v.parts)) v.den (earlier_less (entries w.parts) w.den (entries v.parts) v.den e) (same_back (at (entries v.parts)) v.den (at (entries w.parts)) w.den s))

module _ (lines : List WallLine) (lower upper : Option End) (rise : IsEnd Rising lines lower) (fall : IsEnd Falling lines upper) where
  -- ---- no time of the span
  pub sunk_none : ((k : ℕ) × (k < length lines) × HoldsAt IsSunk lines k) → HasNoTie lines
  sunk_none h = λ t q pq s. absurd (sunk_empty lines lower upper rise fall h.0 h.1 (h.2 origin) t q pq s)

  pub crossed_none : AreCrossed lower upper → HasNoTie lines
  crossed_none c = λ t q pq s. absurd (crossed_empty lines lower upper rise fall c t q pq s)

  module _ (floating : (k : ℕ) → k < length lines → ¬ (IsSunk (nth lines k))) (open_ : ¬ (AreCrossed lower upper)) where
    -- ---- a line that is zero at all times
    zero_time : (t : lex.Value) → lex.IsLowest t → lex.HasValue t [] (pos 1) → IsZero (entries t.parts)
    zero_time t low h = zero_from (entries t.parts) (λ k. entries_is t.parts low.0.1 k ∙ one (entry t.parts k) t.den (h k))
      where
        one : (x d : ℤ) → x *ℤ pos 1 ≡ pos 0 *ℤ d → x ≡ pos 0
        one x d e = let z = zero_mul_ℤ d in omega (arith, ints, e, z)

    first_end : (l u : Option End) → lower ≡ l → upper ≡ u → (t : lex.Value) → IsEndTime l u t → lex.IsLowest t × InSpan lines (entries t.parts) t.den × IsFirstEnd lines (entries t.parts) t.den
    first_end (Some l) u e f t h =
        let k = lower_end lines lower upper rise fall floating open_ l e in
        subst (λ (v : lex.Value). lex.IsLowest v × InSpan lines (entries v.parts) v.den × IsFirstEnd lines (entries v.parts) v.den) (sym h) ((subst (IsEnd Rising lines) e rise).0, k.0, inl k)
    first_end None (Some u) e f t h =
        let k = upper_end lines lower upper rise fall floating open_ u f in
        subst (λ (v : lex.Value). lex.IsLowest v × InSpan lines (entries v.parts) v.den × IsFirstEnd lines (entries v.parts) v.den) (sym h)
        ((subst (IsEnd Falling lines) f fall).0, k.0, inr (inl (no_lower lines lower upper rise fall floating e, k)))
    first_end None None e f t h = (
      h.0,
      in_span lines lower upper rise fall floating (entries t.parts) t.den h.0.0.2 (subst (λ o. NotBefore o (entries t.parts) t.den) (sym e) tt) (subst (λ o. NotAfter o (entries t.parts) t.den) (sym f) tt),
      inr (inr (no_lower lines lower upper rise fall floating e, no_upper lines lower upper rise fall floating f, zero_time t h.0 h.1)),
    )

    pub flat_tie : (index : ℕ) → index < length lines → IsFlat (nth lines index) → ((k : ℕ) → k < index → ¬ (IsFlat (nth lines k))) → (t : lex.Value) → IsEndTime lower upper t
        → IsTie lines (record { time = t; first = index + 1; second = None })
    flat_tie index lt f none t h = let k = first_end lower upper refl refl t h in (k.0, (is_flat lines index lt f none, k.1, k.2))

    module _ (moving : IsNowhere IsFlat lines) where
      -- ---- which lines are zero at a time of the span
      abbrev RisesHere : Option End → List ℤ → ℤ → ℕ → Type 0
      RisesHere None t q i = ⊥
      RisesHere (Some e) t q i = HasAt (GoesAt Rising e.time) lines i × IsSame (at t) q (at (moment e)) (over e)

      abbrev FallsHere : Option End → List ℤ → ℤ → ℕ → Type 0
      FallsHere None t q i = ⊥
      FallsHere (Some e) t q i = HasAt (GoesAt Falling e.time) lines i × IsSame (at t) q (at (moment e)) (over e)

      module _ (t : List ℤ) (q : ℤ) (pq : pos 0 <ℤ q) (span : InSpan lines t q) where
        rises_here : (e : Option End) → IsEnd Rising lines e → NotBefore e t q → (i : ℕ) → HasAt (IsZeroThen t q) lines i → pos 0 <ℤ (nth lines (i - 1)).beta → RisesHere e t q i
        rises_here None h nb i k g = absurd (h (i - 1) (let a = k.0 in let b = k.1 in omega (arith, a, b)) g)
        rises_here (Some e) h nb i k g =
            let lt : i - 1 < length lines = (let a = k.0 in let b = k.1 in omega (arith, a, b)) in
            let s = zero_there Rising lines e.time h.0 e.first e.second h.1 h.2 t q pq (λ l. nb (turned_less (at (moment e)) (over e) (at t) q l)) (i - 1) lt g k.2 in
            ((k.0, k.1, (g, zero_same Rising (nth lines (i - 1)) g t q (moment e) (over e) pq h.0.0.2 s k.2)), turned_same (at t) q (at (moment e)) (over e) s)

        falls_here : (e : Option End) → IsEnd Falling lines e → NotAfter e t q → (i : ℕ) → HasAt (IsZeroThen t q) lines i → Goes Falling (nth lines (i - 1)) → FallsHere e t q i
        falls_here None h na i k g = absurd (h (i - 1) (let a = k.0 in let b = k.1 in omega (arith, a, b)) g)
        falls_here (Some e) h na i k g =
            let lt : i - 1 < length lines = (let a = k.0 in let b = k.1 in omega (arith, a, b)) in
            let s = zero_there Falling lines e.time h.0 e.first e.second h.1 h.2 t q pq na (i - 1) lt g k.2 in
            ((k.0, k.1, (g, zero_same Falling (nth lines (i - 1)) g t q (moment e) (over e) pq h.0.0.2 s k.2)), s)

        kind : (i : ℕ) → HasAt (IsZeroThen t q) lines i → RisesHere lower t q i ⊎ FallsHere upper t q i
        kind i k =
            sign_cases (nth lines (i - 1)).beta
            (λ n. inr (falls_here upper fall (before_upper lines lower upper rise fall t q pq span) i k (omega (arith, ints, n))))
            (λ e. absurd (moving i (k.0, k.1, level_flat (nth lines (i - 1)) e t q pq k.2)))
            (λ r. inl (rises_here lower rise (after_lower lines lower upper rise fall t q pq span) i k r))

      -- a time that is both ends
      both_meet : (l u : Option End) → IsEnd Rising lines l → IsEnd Falling lines u → (t : List ℤ) (q : ℤ) → pos 0 <ℤ q → (i j : ℕ) → RisesHere l t q i → FallsHere u t q j → Meet l u
      both_meet None u hl hu t q pq i j r f = r
      both_meet (Some l) None hl hu t q pq i j r f = f
      both_meet (Some l) (Some u) hl hu t q pq i j r f =
          same_time l.time u.time hl.0 hu.0 (same_same (at (moment l)) (over l) (at t) q (at (moment u)) (over u) hl.0.0.2 pq hu.0.0.2 (same_back (at t) q (at (moment l)) (over l) r.1) f.1)

      falls_meet : (l : End) → lex.IsLowest l.time → (u : Option End) → IsEnd Falling lines u → (i : ℕ) → FallsHere u (moment l) (over l) i → Meet (Some l) u
      falls_meet l low None hu i f = f
      falls_meet l low (Some u) hu i f = same_time l.time u.time low hu.0 f.1

      rises_meet : (u : End) → lex.IsLowest u.time → (l : Option End) → IsEnd Rising lines l → (i : ℕ) → RisesHere l (moment u) (over u) i → Meet l (Some u)
      rises_meet u low None hl i r = r
      rises_meet u low (Some l) hl i r = same_time l.time u.time hl.0 low (same_back (at (moment u)) (over u) (at (moment l)) (over l) r.1)

      -- ---- where the ends meet
      pub meeting_tie : (l u : End) → lower ≡ Some l → upper ≡ Some u → l.time ≡ u.time → (pair : Pair) → IsFirstPair l u pair
          → IsTie lines (record { time = pair.time; first = pair.first + 1; second = Some (pair.second + 1) })
      meeting_tie l u e f same pair h = elim (less_or_not l.first u.first) [
        | inl lt ↦ tie pair l.first (earlier_of l.second u.first) (h.0 lt) (merged A B C l.first u.first u.second (leads_falling lines u hu) which from too lt l.second (leads_rising lines l hl))
        | inr le ↦ tie pair u.first (earlier_of u.second l.first) (h.1 (λ lt. omega (arith, le, lt)))
            (merged B A C u.first l.first l.second (leads_rising lines l hl) (λ o k. swap (which o k)) too from (strict le) u.second (leads_falling lines u hu))
      ]
        where
          A : ℕ → Type 0
          A = HasAt (GoesAt Rising l.time) lines

          B : ℕ → Type 0
          B = HasAt (GoesAt Falling u.time) lines

          C : ℕ → Type 0
          C = HasAt (IsZeroThen (moment l) (over l)) lines

          hl : IsEnd Rising lines (Some l)
          hl = subst (IsEnd Rising lines) e rise

          hu : IsEnd Falling lines (Some u)
          hu = subst (IsEnd Falling lines) f fall

          at_end : IsLowerEnd lines (moment l) (over l)
          at_end = lower_end lines lower upper rise fall floating open_ l e

          from : (o : ℕ) → A o → C o
          from o k = (k.0, k.1, k.2.1)

          too : (o : ℕ) → B o → C o
          too o k = (k.0, k.1, subst (λ (v : lex.Value). IsZeroAt (nth lines (o - 1)) v) (sym same) k.2.1)

          which : (o : ℕ) → C o → A o ⊎ B o
          which o k = elim (kind (moment l) (over l) hl.0.0.2 at_end.0 o k) [
            | inl r ↦ inl (subst (λ x. RisesHere x (moment l) (over l) o) e r).0
            | inr r ↦ inr (subst (λ x. FallsHere x (moment l) (over l) o) f r).0
          ]

          swap : {P Q : Type 0} → P ⊎ Q → Q ⊎ P
          swap (inl p) = inr p
          swap (inr q) = inl q

          strict : u.first ≤ l.first → u.first < l.first
          strict le = elim (same_or_not u.first l.first) [
            | inl s ↦ absurd (
                let g = (leader Rising lines l.time hl.0 l.first l.second hl.1 hl.2).1 in
                let d = subst (λ k. Goes Falling (nth lines k)) s (leader Falling lines u.time hu.0 u.first u.second hu.1 hu.2).1 in
                omega (arith, ints, g, d)
                )
            | inr n ↦ next u.first l.first le n
          ]
            where
              next : (i j : ℕ) → i ≤ j → i ≢ j → i < j
              next i j le n = elim (less_or_not i j) [ inl lt ↦ lt | inr ge ↦ absurd (n (omega (arith, le, ge))) ]

          tie : (pair : Pair) (i j : ℕ) → pair ≡ record { time = l.time; first = i; second = j } → FirstTwo C (i + 1) (j + 1)
              → IsTie lines (record { time = pair.time; first = pair.first + 1; second = Some (pair.second + 1) })
          tie pair i j is two =
              subst (λ (z : Pair). IsTie lines (record { time = z.time; first = z.first + 1; second = Some (z.second + 1) })) (sym is) (hl.0, (moving, inl (at_end, two)))

      module _ (apart : ¬ (Meet lower upper)) where
        -- ---- two lines at the lower end
        pub lower_tie : (l : End) → lower ≡ Some l → (s : ℕ) → l.second ≡ Some s → IsTie lines (record { time = l.time; first = l.first + 1; second = Some (s + 1) })
        lower_tie l e s two =
            let hl = subst (IsEnd Rising lines) e rise in
            let k = lower_end lines lower upper rise fall floating open_ l e in (
              hl.0,
              (
                moving,
                inl (
                  k,
                  two_leads lines (HasAt (GoesAt Rising l.time) lines) (HasAt (IsZeroThen (moment l) (over l)) lines) l.first s l.second two (leads_rising lines l hl)
                      (λ o z. elim (kind (moment l) (over l) hl.0.0.2 k.0 o z) [
                        | inl r ↦ (subst (λ x. RisesHere x (moment l) (over l) o) e r).0
                        | inr f ↦ absurd (apart (subst (λ x. Meet x upper) (sym e) (falls_meet l hl.0 upper fall o f)))
                      ])
                      (λ o z. (z.0, z.1, z.2.1)),
                ),
              ),
            )

        -- ---- one line at most there
        module _ (lone : pair_of lower ≡ None) where
          lone_rising : (l : Option End) → IsEnd Rising lines l → pair_of l ≡ None → (t : List ℤ) (q : ℤ) (i j : ℕ) → RisesHere l t q i → RisesHere l t q j → i ≡ j
          lone_rising None h e t q i j a b = absurd a
          lone_rising (Some l) h e t q i j a b = only_leads lines (HasAt (GoesAt Rising l.time) lines) l.first l.second (single l.time l.first l.second e) (leads_rising lines l h) i j a.0 b.0

          -- a line that falls isn't zero at a lower end
          no_fall : (l : Option End) → lower ≡ l → IsEnd Rising lines l → (t : List ℤ) (q : ℤ) → pos 0 <ℤ q → IsLowerEnd lines t q → (i : ℕ) → ¬ (FallsHere upper t q i)
          no_fall None e h t q pq k i f = no_lower lines lower upper rise fall floating e t q pq k
          no_fall (Some l) e h t q pq k i f =
              let d = lower_end lines lower upper rise fall floating open_ l e in
              elim (either t q (moment l) (over l)) [
                | inl b ↦ d.1 t q pq (less_earlier t q (moment l) (over l) b) k.0
                | inr r ↦ elim r [
                  | inl s ↦ apart (subst (λ x. Meet x upper) (sym e) (by_upper upper fall f s))
                  | inr b ↦ k.1 (moment l) (over l) h.0.0.2 (less_earlier (moment l) (over l) t q b) d.0
                ]
              ]
            where
              by_upper : (u : Option End) → IsEnd Falling lines u → FallsHere u t q i → IsSame (at t) q (at (moment l)) (over l) → Meet (Some l) u
              by_upper None hu f s = f
              by_upper (Some u) hu f s =
                  same_time l.time u.time h.0 hu.0 (same_same (at (moment l)) (over l) (at t) q (at (moment u)) (over u) h.0.0.2 pq hu.0.0.2 (same_back (at t) q (at (moment l)) (over l) s) f.1)

          no_lower_tie : NoLowerTie lines
          no_lower_tie t q i j pq k = elim (kind t q pq k.0.0 i k.1.0.0) [
            | inr f ↦ no_fall lower refl rise t q pq k.0 i f
            | inl a ↦ elim (kind t q pq k.0.0 j k.1.2) [
              | inr f ↦ no_fall lower refl rise t q pq k.0 j f
              | inl b ↦ (let s = lone_rising lower rise lone t q i j a b in let lt = k.1.1 in omega (arith, s, lt))
            ]
          ]

          pub upper_tie : (u : End) → upper ≡ Some u → (s : ℕ) → u.second ≡ Some s → IsTie lines (record { time = u.time; first = u.first + 1; second = Some (s + 1) })
          upper_tie u e s two =
              let hu = subst (IsEnd Falling lines) e fall in
              let k = upper_end lines lower upper rise fall floating open_ u e in (
                hu.0,
                (
                  moving,
                  inr (
                    no_lower_tie,
                    (
                      k,
                      two_leads lines (HasAt (GoesAt Falling u.time) lines) (HasAt (IsZeroThen (moment u) (over u)) lines) u.first s u.second two (leads_falling lines u hu)
                          (λ o z. elim (kind (moment u) (over u) hu.0.0.2 k.0 o z) [
                            | inl r ↦ absurd (apart (subst (λ x. Meet lower x) (sym e) (rises_meet u hu.0 lower rise o r)))
                            | inr f ↦ (subst (λ x. FallsHere x (moment u) (over u) o) e f).0
                          ])
                          (λ o z. (z.0, z.1, z.2.1)),
                    ),
                  ),
                ),
              )

          pub no_tie : pair_of upper ≡ None → HasNoTie lines
          no_tie lonely t q pq span = (
            moving,
            λ i j a b. elim (kind t q pq span i a) [
              | inl r ↦ elim (kind t q pq span j b) [
                | inl s ↦ lone_rising lower rise lone t q i j r s
                | inr f ↦ absurd (apart (both_meet lower upper rise fall t q pq i j r f))
              ]
              | inr f ↦ elim (kind t q pq span j b) [
                | inl r ↦ absurd (apart (both_meet lower upper rise fall t q pq j i r f))
                | inr g ↦ lone_falling upper fall lonely i j f g
              ]
            ],
          )
            where
              lone_falling : (u : Option End) → IsEnd Falling lines u → pair_of u ≡ None → (i j : ℕ) → FallsHere u t q i → FallsHere u t q j → i ≡ j
              lone_falling None h e i j a b = absurd a
              lone_falling (Some u) h e i j a b = only_leads lines (HasAt (GoesAt Falling u.time) lines) u.first u.second (single u.time u.first u.second e) (leads_falling lines u h) i j a.0 b.0
