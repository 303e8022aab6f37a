-- the named tie: it is shown, a cell that has a tie has one, and has one only
use Rattle.std.proofs.Common.{◌≡◌, ◌⊎◌, ℕ, zero, suc, ◌+◌, ◌-◌, ◌<◌, ◌≤◌, List, [], ◌∷◌, length, Option, None, Some, arith, refl, sym, ap, subst, inl, inr}
use Rattle.std.proofs.Math.IntN.{pos, ℤ_discrete}
use native.Mathlib.Decide.{dec_le}
use Rattle.wide_int.proofs.Order.{sign_cases}
use Rattle.int_vectors.specs.Vectors.{IsZero}
use Rattle.cayley.specs.Times.{Time, IsBefore, IsSameTime, time_zero}
use Rattle.cayley.specs.Problems.{Point, Problem, point_at, IsProblem}
use Rattle.cayley.specs.Cells.{Cell, EachPair, IsOf, IsIndependent, IsFurther}
use Rattle.cayley.specs.Normals.{Normal, gap, IsNormal, IsLevel, IsAbove}
use Rattle.cayley.specs.Dependencies.{pair_at, IsFurtherAt, nth_support}
use Rattle.cayley.specs.Ties.{IsTie}
use Rattle.cayley.specs.StoredTies.{Spot, IsEarlier, IsFurtherSpot, IsLevelSpot, IsAlwaysLevel, ShowsTie}
use Rattle.cayley.specs.NamedTies.{InSpan, IsLowerEnd, IsUpperEnd, NoLowerEnd, NoUpperEnd, IsLevelThen, IsFirst, AreFirstTwo, IsLowerTie, IsUpperTie, IsNamedTie, NamedIsShownLaw, NamedTieLaw, OneNamedTieLaw}
use Rattle.cayley.proofs.Order.Lines.{Line, line_at, NotNegative, next, before_next}
use Rattle.cayley.proofs.Order.Proportion.{either_in_proportion, zero_in_proportion}
use Rattle.cayley.proofs.Order.Times.{Same, same_sym, same_self, same_trans, time_cases, sooner}
use Rattle.cayley.proofs.Order.Lined.{further_cases, dec_zero}
use Rattle.cayley.proofs.Order.Spans.{Spanned, spanned_always, spanned_map, spanned_below, span_same, level_zero, two_zeros, lower_once, upper_once, lower_or, upper_or, rising_lower, falling_upper}
use Rattle.cayley.proofs.OneCell.CellNormals.{a_normal}
use Rattle.cayley.proofs.OneCell.CellLines.{ExactLine, exact_line}
use Rattle.cayley.proofs.Life.Spots.{spot_cases, first_spot, first_two, one_first, same_two}
use Rattle.cayley.proofs.Life.ShownTies.{shown_tie_law}
use Rattle.cayley.proofs.Life.StillGaps.{not_zero_over}
use Rattle.cayley.proofs.Lists.Pairs.{pairs_further}
use Rattle.cayley.proofs.Order.Zeros.{zero_there}

-- ---- further points by their places
abbrev pub points_in : List (List Point) → ℕ
points_in [] = 0
points_in (s ∷ supports) = length s + points_in supports

place_bound : (supports : List (List Point)) (j c : ℕ) → 1 ≤ c → c ≤ length (nth_support supports j) → (j < length supports) × (c ≤ points_in supports)
place_bound [] j c p q = absurd (omega (arith, p, q))
place_bound (s ∷ supports) zero c p q = let b : c ≤ length s = q in let g : c ≤ length s + points_in supports = omega (arith, b) in (omega arith, g)
place_bound (s ∷ supports) (suc j) c p q = let r = place_bound supports j c p q in let a = r.0 in let b = r.1 in let g : c ≤ length s + points_in supports = omega (arith, b) in (omega (arith, a), g)

pub spot_bound : (p : Problem) (cell : Cell) (x : Spot) → IsFurtherSpot p cell x → (x.0 < suc (length p.supports)) × (x.1 < suc (points_in p.supports))
spot_bound p cell x f =
    let r = place_bound p.supports (x.0 - 1) x.1 f.1.0 f.1.1 in
    let a = f.0 in let b = r.0 in let c = r.1 in
    (omega (arith, a, b), omega (arith, c))

dec_further : (p : Problem) (cell : Cell) (x : Spot) → Dec (IsFurtherSpot p cell x)
dec_further p cell x = elim (dec_le 1 x.0) [
  | no n ↦ no (λ f. n f.0)
  | yes l ↦ further_cases (nth_support p.supports (x.0 - 1)) (pair_at cell (x.0 - 1)).0 (pair_at cell (x.0 - 1)).1 x.1 (λ f. yes (l, f)) (λ n. no (λ f. n f.1))
]

pub pair_place : (Q : List Point → ℕ → ℕ → Type 0) (supports : List (List Point)) (cell : Cell) → EachPair supports cell (λ s a b. (c : ℕ) → IsFurther s a b c → Q s a c)
    → (j c : ℕ) → IsFurther (nth_support supports j) (pair_at cell j).0 (pair_at cell j).1 c → Q (nth_support supports j) (pair_at cell j).0 c
pair_place Q [] cell e j c f = absurd (let a = f.0 in let b = f.1 in omega (arith, a, b))
pair_place Q (s ∷ supports) [] e j c f = absurd e
pair_place Q (s ∷ supports) (x ∷ cell) e zero c f = e.0 c f
pair_place Q (s ∷ supports) (x ∷ cell) e (suc j) c f = pair_place Q supports cell e.1 j c f

-- ---- the lines of one cell
module _ (p : Problem) (cell : Cell) (well : IsProblem p) (of : IsOf p cell) (ind : IsIndependent p cell) where
  abbrev pub exact : (j c : ℕ) → ExactLine p cell (point_at (nth_support p.supports j) (pair_at cell j).0) (point_at (nth_support p.supports j) c)
  exact j c = exact_line p cell (point_at (nth_support p.supports j) (pair_at cell j).0) (point_at (nth_support p.supports j) c) well of ind

  abbrev pub line : Spot → Line
  line x = (exact (x.0 - 1) x.1).line

  abbrev Told : Time → ℕ → ℕ → Type 0
  Told t j c = IsFurtherAt p cell j c → NotNegative (line_at (exact j c).line t)

  told : (j c : ℕ) → Spanned (λ t. Told t j c)
  told j c =
      further_cases (nth_support p.supports j) (pair_at cell j).0 (pair_at cell j).1 c
      (λ f. record { list = (exact j c).line ∷ []; to = λ t h. (h f, tt); from = λ t h g. h.0 })
      (λ n. spanned_always (λ t. Told t j c) (λ t g. absurd (n g)))

  span_tells : (t : Time) → InSpan p cell t → (j c : ℕ) → Told t j c
  span_tells t h j c f =
      let l = exact j c in
      either_in_proportion (gap t h.0 (point_at (nth_support p.supports j) (pair_at cell j).0) (point_at (nth_support p.supports j) c)) (line_at l.line t) l.g h.0.over l.positive h.0.positive
      (λ e. sym (l.is t h.0 h.1 e))
      (pair_place (λ s a c. IsAbove t h.0 s a c ⊎ IsLevel t h.0 s a c) p.supports cell h.2 j c f)

  told_span : (t : Time) → ((j c : ℕ) → Told t j c) → InSpan p cell t
  told_span t h =
      let v = a_normal p cell well of ind t in (
        v.0,
        v.1,
        pairs_further (λ s a c. IsAbove t v.0 s a c ⊎ IsLevel t v.0 s a c) _ p.supports cell of (λ j c f.
            let l = exact j c in
            either_in_proportion (line_at l.line t) (gap t v.0 (point_at (nth_support p.supports j) (pair_at cell j).0) (point_at (nth_support p.supports j) c)) v.0.over l.g v.0.positive l.positive
            (l.is t v.0 v.1) (h j c f)),
      )

  spanned : Spanned (InSpan p cell)
  spanned =
      spanned_map (λ t. (j : ℕ) → j < length p.supports → (c : ℕ) → c < suc (points_in p.supports) → Told t j c) (InSpan p cell)
      (λ t h. told_span t (λ j c f. let r = place_bound p.supports j c f.0 f.1 in let b = r.1 in h j r.0 c (omega (arith, b)) f))
      (λ t h j a c b. span_tells t h j c)
      (spanned_below (length p.supports) (λ j t. (c : ℕ) → c < suc (points_in p.supports) → Told t j c)
      (λ j. spanned_below (suc (points_in p.supports)) (λ c t. Told t j c) (λ c. told j c)))

  pub level_to : (t : Time) (x : Spot) → IsLevelThen p cell t x → IsZero (line_at (line x) t)
  level_to t x h =
      let v = a_normal p cell well of ind t in
      let l = exact (x.0 - 1) x.1 in
      zero_in_proportion (gap t v.0 (point_at (nth_support p.supports (x.0 - 1)) (pair_at cell (x.0 - 1)).0) (point_at (nth_support p.supports (x.0 - 1)) x.1)) (line_at l.line t) l.g v.0.over
      (not_zero_over v.0.over v.0.positive) (λ e. sym (l.is t v.0 v.1 e)) (h.1 v.0 v.1)

  pub level_from : (t : Time) (x : Spot) → IsFurtherSpot p cell x → IsZero (line_at (line x) t) → IsLevelThen p cell t x
  level_from t x f z = (
    f,
    λ v n.
        let l = exact (x.0 - 1) x.1 in
        zero_in_proportion (line_at l.line t) (gap t v (point_at (nth_support p.supports (x.0 - 1)) (pair_at cell (x.0 - 1)).0) (point_at (nth_support p.supports (x.0 - 1)) x.1)) v.over l.g
        (not_zero_over l.g l.positive) (l.is t v n) z,
  )

  level_same : (t u : Time) → Same t u → (x : Spot) → IsLevelThen p cell t x → IsLevelThen p cell u x
  level_same t u s x h = level_from u x h.0 (zero_there (line x) t u s (level_to t x h))

  pub dec_level : (t : Time) (x : Spot) → Dec (IsLevelThen p cell t x)
  dec_level t x = elim (dec_further p cell x) [
    | no n ↦ no (λ h. n h.0)
    | yes f ↦ elim (dec_zero (line_at (line x) t)) [ no n ↦ no (λ h. n (level_to t x h)) | yes z ↦ yes (level_from t x f z) ]
  ]

  always_then : (t : Time) (x : Spot) → IsAlwaysLevel p cell x → IsLevelThen p cell t x
  always_then t x h = (h.0, λ v n. h.1 t v n)

  pub flat_from : (t : Time) (x : Spot) → IsFurtherSpot p cell x → (line x).slope ≡ pos 0 → IsZero (line_at (line x) t) → IsAlwaysLevel p cell x
  flat_from t x f e z = (f, λ u v n. (level_from u x f (level_zero (line x) t u e z)).1 v n)

  flat_slope : (x : Spot) → IsAlwaysLevel p cell x → (line x).slope ≡ pos 0
  flat_slope x h = two_zeros (line x) time_zero (next time_zero) (before_next time_zero) (level_to time_zero x (always_then time_zero x h)) (level_to (next time_zero) x (always_then (next time_zero) x h))

  dec_always : (x : Spot) → Dec (IsAlwaysLevel p cell x)
  dec_always x = elim (dec_level time_zero x) [
    | no n ↦ no (λ h. n (always_then time_zero x h))
    | yes l ↦ elim (ℤ_discrete (line x).slope (pos 0)) [
      | no n ↦ no (λ h. n (flat_slope x h))
      | yes e ↦ yes (flat_from time_zero x l.0 e (level_to time_zero x l))
    ]
  ]

  -- ---- the time of a point that is level at all times
  abbrev AtEnd : Time → Type 0
  AtEnd u = IsLowerEnd p cell u ⊎ (NoLowerEnd p cell × IsUpperEnd p cell u) ⊎ (NoLowerEnd p cell × NoUpperEnd p cell × IsSameTime u time_zero)

  no_lower : ((x y : Time) → InSpan p cell y → IsBefore x y → InSpan p cell x) → NoLowerEnd p cell
  no_lower below u k = let s = sooner u in k.1 s.u s.before (below s.u u k.0 s.before)

  no_upper : ((x y : Time) → InSpan p cell y → IsBefore y x → InSpan p cell x) → NoUpperEnd p cell
  no_upper above u k = k.1 (next u) (before_next u) (above (next u) u k.0 (before_next u))

  end_time : (t : Time) → InSpan p cell t → (u : Time) × InSpan p cell u × AtEnd u
  end_time t h = elim (lower_or (InSpan p cell) spanned t h) [
    | inl q ↦ (q.0, q.1.0, inl q.1)
    | inr below ↦ elim (upper_or (InSpan p cell) spanned t h) [
      | inl q ↦ (q.0, q.1.0, inr (inl (no_lower below, q.1)))
      | inr above ↦ (
        time_zero,
        time_cases time_zero t (λ b. below time_zero t h b) (λ s. span_same (InSpan p cell) spanned t time_zero (same_sym time_zero t s) h) (λ b. above time_zero t h b),
        inr (inr (no_lower below, no_upper above, same_self time_zero)),
      )
    ]
  ]

  -- ---- two points that are level at one time
  abbrev NoLowerTie : Type 0
  NoLowerTie = (u : Time) (z w : Spot) → ¬ (IsLowerTie p cell u z w)

  abbrev EndTie : Time → Spot → Spot → Type 0
  EndTie u z w = IsLowerTie p cell u z w ⊎ (NoLowerTie × IsUpperTie p cell u z w)

  two_then : (t : Time) → ((z : Spot) × (w : Spot) × AreFirstTwo (IsLevelThen p cell t) z w) ⊎ ((z w : Spot) → IsEarlier z w → IsLevelThen p cell t z → ¬ (IsLevelThen p cell t w))
  two_then t = first_two (IsLevelThen p cell t) (dec_level t) (suc (length p.supports)) (suc (points_in p.supports)) (λ x h. spot_bound p cell x h.0)

  at_upper : (t : Time) → InSpan p cell t → IsUpperEnd p cell t → (x y : Spot) → IsEarlier x y → IsLevelThen p cell t x → IsLevelThen p cell t y → (u : Time) × (z : Spot) × (w : Spot) × EndTie u z w
  at_upper t h up x y l a b = elim (two_then t) [
    | inr none ↦ absurd (none x y l a b)
    | inl r ↦ elim (lower_or (InSpan p cell) spanned t h) [
      | inr below ↦ (t, r.0, r.1, inr ((λ u z w k. no_lower below u k.0), (up, r.2)))
      | inl q ↦ elim (two_then q.0) [
        | inl i ↦ (q.0, i.0, i.1, inl (q.1, i.2))
        | inr none ↦ (
          t,
          r.0,
          r.1,
          inr (
            (λ u z w k.
                let s = lower_once (InSpan p cell) u q.0 k.0 q.1 in
                none z w k.1.1.0.1 (level_same u q.0 s z k.1.0.0) (level_same u q.0 s w k.1.1.0.0)),
            (up, r.2),
          ),
        )
      ]
    ]
  ]

  end_tie : ((z : Spot) → ¬ (IsAlwaysLevel p cell z)) → (t : Time) → InSpan p cell t → (x y : Spot) → IsEarlier x y → IsLevelThen p cell t x → IsLevelThen p cell t y
      → (u : Time) × (z : Spot) × (w : Spot) × EndTie u z w
  end_tie moves t h x y l a b =
      let z = level_to t x a in
      let tells = λ (u : Time) (k : InSpan p cell u). span_tells u k (x.0 - 1) x.1 a.0.1 in
      sign_cases (line x).slope
      (λ n. at_upper t h (falling_upper (InSpan p cell) (line x) tells t h z n) x y l a b)
      (λ e. absurd (moves x (flat_from t x a.0 e z)))
      (λ r. elim (two_then t) [
        | inl q ↦ (t, q.0, q.1, inl (rising_lower (InSpan p cell) (line x) tells t h z r, q.2))
        | inr none ↦ absurd (none x y l a b)
      ])

  -- ---- from a tie to the named one
  abbrev Named : Type 0
  Named = (t : Time) × (x : Spot) × (second : Option Spot) × IsNamedTie p cell t x second

  named_two : ((z : Spot) → ¬ (IsAlwaysLevel p cell z)) → (t : Time) → InSpan p cell t → (x y : Spot) → ¬ (x ≡ y) → IsLevelThen p cell t x → IsLevelThen p cell t y → Named
  named_two moves t h x y apart a b =
      let r : (u : Time) × (z : Spot) × (w : Spot) × EndTie u z w =
      spot_cases x y (λ l. end_tie moves t h x y l a b) (λ e. absurd (apart e)) (λ l. end_tie moves t h y x l b a) in
      (r.0, r.1, Some r.2, (of, ind, (moves, r.3)))

  named_flat : (t : Time) → InSpan p cell t → (x : Spot) → IsFirst (IsAlwaysLevel p cell) x → Named
  named_flat t h x f = let u = end_time t h in (u.0, x, None, (of, ind, (f, u.1, u.2)))

  always_first : ((x : Spot) × IsFirst (IsAlwaysLevel p cell) x) ⊎ ((z : Spot) → ¬ (IsAlwaysLevel p cell z))
  always_first = first_spot (IsAlwaysLevel p cell) dec_always (suc (length p.supports)) (suc (points_in p.supports)) (λ x h. spot_bound p cell x h.0)

  -- a further point that is level at one normal is so at any
  pub level_at_any : (t : Time) (v : Normal) (i c : ℕ) → IsNormal p cell t v → IsFurtherAt p cell i c → IsLevel t v (nth_support p.supports i) (pair_at cell i).0 c → IsLevelThen p cell t (suc i, c)
  level_at_any t v i c n f z =
      let e : i ≡ suc i - 1 = omega arith in
      let k = subst (λ j. IsFurtherAt p cell j c × IsLevel t v (nth_support p.supports j) (pair_at cell j).0 c) e (f, z) in
      let l = exact (suc i - 1) c in
      level_from t (suc i, c) (omega arith, k.0)
      (zero_in_proportion (gap t v (point_at (nth_support p.supports (suc i - 1)) (pair_at cell (suc i - 1)).0) (point_at (nth_support p.supports (suc i - 1)) c)) (line_at l.line t) l.g v.over
      (not_zero_over v.over v.positive) (λ e. sym (l.is t v n e)) k.1)

  named_from : (t : Time) (v : Normal) → IsTie p cell t v → Named
  named_from t v h =
      let span : InSpan p cell t = (v, h.2, h.3) in
      elim always_first [
        | inl q ↦ named_flat t span q.0 q.1
        | inr moves ↦ elim h.4 [
          | inl two ↦
              let i = two.0 in let c = two.1 in let j = two.2 in let d = two.3 in
              named_two moves t span (suc i, c) (suc j, d)
              (λ e. two.4 (let a = ap (λ (x : Spot). x.0) e in (omega (arith, a)), ap (λ (x : Spot). x.1) e))
              (level_at_any t v i c h.2 two.5.0 two.5.1) (level_at_any t v j d h.2 two.6.0 two.6.1)
          | inr twice ↦
              let i = twice.0 in let c = twice.1 in let u = twice.2 in let w = twice.3 in
              let x : Spot = (suc i, c) in
              let a = level_at_any t v i c h.2 twice.6.0 twice.6.1 in
              let b = level_at_any u w i c twice.5 twice.7.0 twice.7.1 in
              let za = level_to t x a in
              let zb = level_to u x b in
              let e : (line x).slope ≡ pos 0 = elim twice.4 [ inl k ↦ two_zeros (line x) t u k za zb | inr k ↦ two_zeros (line x) u t k zb za ] in
              absurd (moves x (flat_from t x a.0 e za))
        ]
      ]

-- ---- the laws
level_spot : (p : Problem) (cell : Cell) (t : Time) (s : InSpan p cell t) (x : Spot) → IsLevelThen p cell t x → IsLevelSpot p cell t s.0 x
level_spot p cell t s x k = (k.0.0, (k.0.1, k.1 s.0 s.1))

pub named_is_shown_law : NamedIsShownLaw
named_is_shown_law p cell t x None h = let s = h.2.1 in (h.0, h.1, (s.0, s.1, s.2, h.2.0.0))
named_is_shown_law p cell t x (Some y) h = elim h.2.1 [
  | inl k ↦ shows k.0.0 k.1
  | inr k ↦ shows k.1.0.0 k.1.1
]
  where
    shows : (s : InSpan p cell t) → AreFirstTwo (IsLevelThen p cell t) x y → ShowsTie p cell t x (Some y)
    shows s k = (h.0, h.1, (s.0, s.1, s.2, (level_spot p cell t s x k.0.0, level_spot p cell t s y k.1.0.0, k.1.0.1)))

pub named_tie_law : NamedTieLaw
named_tie_law p cell well = (
  (λ h. let t = h.0 in let v = shown_tie_law p cell t h.1 h.2 well (named_is_shown_law p cell t h.1 h.2 h.3) in (t, v.0, v.1)),
  (λ h. named_from p cell well h.2.0 h.2.1 h.0 h.1 h.2),
)

end_once : (p : Problem) (cell : Cell) (well : IsProblem p) (of : IsOf p cell) (ind : IsIndependent p cell) (t u : Time) → AtEnd p cell well of ind t → AtEnd p cell well of ind u → IsSameTime t u
end_once p cell well of ind t u (inl a) (inl b) = lower_once (InSpan p cell) t u a b
end_once p cell well of ind t u (inl a) (inr (inl b)) = absurd (b.0 t a)
end_once p cell well of ind t u (inl a) (inr (inr b)) = absurd (b.0 t a)
end_once p cell well of ind t u (inr (inl a)) (inl b) = absurd (a.0 u b)
end_once p cell well of ind t u (inr (inl a)) (inr (inl b)) = upper_once (InSpan p cell) t u a.1 b.1
end_once p cell well of ind t u (inr (inl a)) (inr (inr b)) = absurd (b.1 t a.1)
end_once p cell well of ind t u (inr (inr a)) (inl b) = absurd (a.0 u b)
end_once p cell well of ind t u (inr (inr a)) (inr (inl b)) = absurd (a.1 u b.1)
end_once p cell well of ind t u (inr (inr a)) (inr (inr b)) = same_trans t time_zero u a.2 (same_sym u time_zero b.2)

two_once : (p : Problem) (cell : Cell) (well : IsProblem p) (of : IsOf p cell) (ind : IsIndependent p cell) (t u : Time) (x y z w : Spot) → IsSameTime t u
    → AreFirstTwo (IsLevelThen p cell t) x y → AreFirstTwo (IsLevelThen p cell u) z w → IsSameTime t u × (x ≡ z) × (Some y ≡ Some w)
two_once p cell well of ind t u x y z w s h k =
    let e = same_two (IsLevelThen p cell t) (IsLevelThen p cell u) x y z w (level_same p cell well of ind t u s) (level_same p cell well of ind u t (same_sym t u s)) h k in
    (s, e.0, ap Some e.1)

pub one_named_tie_law : OneNamedTieLaw
one_named_tie_law p cell t u x y None None well h k =
    (end_once p cell well h.0 h.1 t u h.2.2 k.2.2, one_first (IsAlwaysLevel p cell) x y h.2.0 k.2.0, refl)
one_named_tie_law p cell t u x y None (Some r) well h k = absurd (k.2.0 x h.2.0.0)
one_named_tie_law p cell t u x y (Some s) None well h k = absurd (h.2.0 y k.2.0.0)
one_named_tie_law p cell t u x y (Some s) (Some r) well h k = elim h.2.1 [
  | inl a ↦ elim k.2.1 [
    | inl b ↦ two_once p cell well h.0 h.1 t u x s y r (lower_once (InSpan p cell) t u a.0 b.0) a.1 b.1
    | inr b ↦ absurd (b.0 t x s a)
  ]
  | inr a ↦ elim k.2.1 [
    | inl b ↦ absurd (a.0 u y r b)
    | inr b ↦ two_once p cell well h.0 h.1 t u x s y r (upper_once (InSpan p cell) t u a.1.0 b.1.0) a.1.1 b.1.1
  ]
]
