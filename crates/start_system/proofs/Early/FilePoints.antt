-- a cell that is alive at all early times has no file point
use Rattle.std.proofs.Common.{◌≡◌, ℕ, suc, ◌+◌, ◌<◌, ◌≤◌, List, [], ◌∷◌, length, arith, refl, sym, ap, subst, inl, inr, ◌≤ℤ◌, ◌<ℤ◌}
use Rattle.std.proofs.lemmas.Int.{ints}
use Rattle.std.proofs.Math.IntN.{ℤ, pos, negsuc, ◌+ℤ◌, ◌-ℤ◌, ◌*ℤ◌, neg_ℤ}
use borrow.Author.Differences.{up, down}
use native.Mathlib.Decide.{ℕ_discrete, dec_le}
use Rattle.int_vectors.specs.Vectors.{weigh, Each, IsZero, IsPositive, dot, at, add, scale, entries_at}
use Rattle.int_vectors.proofs.Weighing.{weigh-lin}
use Rattle.cayley.specs.Times.{Time, IsBefore}
use Rattle.cayley.specs.Problems.{Point, Problem, point_at}
use Rattle.cayley.specs.Cells.{Cell, EachPair, IsFurther}
use Rattle.cayley.specs.Normals.{Normal, gap, IsNormal, AllAbove}
use Rattle.cayley.specs.Lives.{AliveEarly}
use Rattle.wide_int.proofs.Ring.{as_D, Ds, same_D, D-pos, one_mul_ℤ, neg_mul_ℤ}
use Rattle.wide_int.proofs.Order.{sign_cases, mul_pos_neg_ℤ}
use Rattle.int_vectors.proofs.Entries.{at-scale, at-add}
use Rattle.cayley.proofs.OneCell.Neighbours.{gap-potential, level_self}
use Rattle.cayley.proofs.Order.Lines.{NotNegative}
use Rattle.cayley.proofs.Life.Targets.{positive_first, potential-first}
use Rattle.cayley.proofs.Lists.Pairs.{pairs_both}
use Rattle.start_system.proofs.Path.Shape.{InHull, Shape, Shapes, EachFrom, corner_places, each_corner, weigh_not_negative, first_not_negative, grows, corner_speed}

-- where no corner is below a file point, the time has a lower bound
pub not_below_corners : (t : Time) (v : Normal) (s : List Point) (f n c : ℕ) (h : InHull s f n c) → (point_at s c).speed ≡ pos 0
    → ((k : ℕ) → f < k → k ≤ f + suc n → (point_at s k).speed ≡ pos 1)
    → ((k : ℕ) → f < k → k ≤ f + suc n → pos 0 ≤ℤ at (gap t v (point_at s c) (point_at s k)) 0)
    → pos 0 ≤ℤ (v.over *ℤ (t.over *ℤ weigh h.numbers (corner_places f n) (λ k. (point_at s k).base) +ℤ h.d *ℤ at t.entries 0 -ℤ h.d *ℤ (t.over *ℤ (point_at s c).base)))
not_below_corners t v s f n c h still moves above =
    let w = entries_at 0 v.entries in
    let cs = h.numbers in
    let xs = corner_places f n in
    let X : ℕ → ℤ = λ k. dot (point_at s k).coordinates w in
    let B : ℕ → ℤ = λ k. (point_at s k).base in
    let one : ℕ → ℤ = λ k. pos 1 in
    let x = dot (point_at s c).coordinates w in
    let b = (point_at s c).base in
    let q = t.over in
    let z = v.over in
    let p = at t.entries 0 in
    let e = z *ℤ p -ℤ (q *ℤ x +ℤ z *ℤ (q *ℤ b)) in
    let each : Each xs (λ k. pos 0 ≤ℤ (q *ℤ X k +ℤ pos 1 *ℤ (z *ℤ q *ℤ B k +ℤ e *ℤ pos 1))) =
    each_corner _ f n (λ k l m.
    let g = gap-potential t v (point_at s c) (point_at s k) 0 in
    let i = potential-first t v (point_at s k) in
    let j = potential-first t v (point_at s c) in
    let r = shape q z p x b (X k) (B k) in
    let r1 = ap (λ y. q *ℤ X k +ℤ z *ℤ (q *ℤ B k +ℤ y *ℤ p)) (moves k l m) in
    let r2 = ap (λ y. q *ℤ x +ℤ z *ℤ (q *ℤ b +ℤ y *ℤ p)) still in
    let a = above k l m in
    omega (arith, ints, g, i, j, r, r1, r2, a)) in
    let total = weigh_not_negative cs xs _ h.whole each in
    let lin = weigh-lin cs xs q (pos 1) X (λ k. z *ℤ q *ℤ B k +ℤ e *ℤ pos 1) in
    let lin2 = weigh-lin cs xs (z *ℤ q) e B one in
    let r = whole q z p x b h.d (weigh cs xs B) in
    let hx = ap (λ y. q *ℤ y) (h.is w) in
    let hs = ap (λ y. e *ℤ y) h.sum in
    omega (arith, ints, total, lin, lin2, r, hx, hs)
  where
    shape : (q z p x b y c : ℤ) → q *ℤ y +ℤ pos 1 *ℤ (z *ℤ q *ℤ c +ℤ (z *ℤ p -ℤ (q *ℤ x +ℤ z *ℤ (q *ℤ b))) *ℤ pos 1) ≡ q *ℤ y +ℤ z *ℤ (q *ℤ c +ℤ pos 1 *ℤ p) -ℤ (q *ℤ x +ℤ z *ℤ (q *ℤ b +ℤ pos 0 *ℤ p))
    shape q z p x b y c = rw (as_D q, as_D z, as_D p, as_D x, as_D b, as_D y, as_D c, D-pos 0, D-pos 1) (simp Ds (same_D _ _ _ _ (omega arith)))

    whole : (q z p x b d m : ℤ) → q *ℤ (d *ℤ x) +ℤ (z *ℤ q *ℤ m +ℤ (z *ℤ p -ℤ (q *ℤ x +ℤ z *ℤ (q *ℤ b))) *ℤ d) ≡ z *ℤ (q *ℤ m +ℤ d *ℤ p -ℤ d *ℤ (q *ℤ b))
    whole q z p x b d m = rw (as_D q, as_D z, as_D p, as_D x, as_D b, as_D d, as_D m) (simp Ds (same_D _ _ _ _ (omega arith)))

pub positive_part : (z y : ℤ) → pos 0 <ℤ z → pos 0 ≤ℤ (z *ℤ y) → pos 0 ≤ℤ y
positive_part z y p h =
    sign_cases y (λ n. absurd (let k = mul_pos_neg_ℤ z y p n in omega (arith, ints, k))) (λ e. omega (arith, ints)) (λ q. omega (arith, ints))

-- no point of a support is below over a cell that is alive
pub alive_not_below : (t : Time) (v : Normal) (s : List Point) (a b : ℕ) → IsZero (gap t v (point_at s a) (point_at s b)) → ((c : ℕ) → IsFurther s a b c → IsPositive (gap t v (point_at s a) (point_at s c)))
    → (c : ℕ) → 1 ≤ c → c ≤ length s → NotNegative (gap t v (point_at s a) (point_at s c))
alive_not_below t v s a b z above c l m = elim (ℕ_discrete c a) [
  | yes e ↦ inr (subst (λ k. IsZero (gap t v (point_at s a) (point_at s k))) (sym e) (level_self t v (point_at s a)))
  | no i ↦ elim (ℕ_discrete c b) [
    | yes e ↦ inr (subst (λ k. IsZero (gap t v (point_at s a) (point_at s k))) (sym e) z)
    | no j ↦ inl (above c (l, m, i, j))
  ]
]

unfoldable pub low_time : ℕ → Time
low_time k = record { entries = negsuc k ∷ []; over = pos 1; positive = record { lt = tt } }

low_before : (k : ℕ) (u : Time) → negsuc k <ℤ at u.entries 0 → negsuc k <ℤ pos 0 → IsBefore (low_time k) u
unfolding low_time
low_before k u h n =
    positive_first _ (
    let e : at (add (scale (pos 1) u.entries) (scale (neg_ℤ u.over) (negsuc k ∷ []))) 0 ≡ pos 1 *ℤ at u.entries 0 +ℤ neg_ℤ u.over *ℤ negsuc k =
    simp (at-add, at-scale) refl in
    let g = grows u.over (negsuc k) u.positive (omega (arith, ints)) in
    let m = neg_mul_ℤ u.over (negsuc k) in
    omega (arith, ints, e, g, m))

-- a file point of an early cell can't be in a pair
early_file : (n i : ℕ) (s : List Point) (h : Shape n i s) (a : ℕ) → 1 ≤ a → a ≤ h.f → (u : Time)
    → ((x : Time) → IsBefore x u → (v : Normal) × ((c : ℕ) → 1 ≤ c → c ≤ length s → NotNegative (gap x v (point_at s a) (point_at s c)))) → ⊥
unfolding low_time
early_file n i s h a l m u alive =
    let hull = h.hull a l m in
    let b = (point_at s a).base in
    let B = weigh hull.numbers (corner_places h.f n) (λ k. (point_at s k).base) in
    let u0 = at u.entries 0 in
    let k = up u0 + down u0 + up b + down b + up B + down B in
    let x = low_time k in
    let w = alive x (low_before k u (omega (arith, ints)) (omega (arith, ints))) in
    let r = not_below_corners x w.0 s h.f n a hull (h.file a l m) (corner_speed n i s h)
    (λ c lc mc. first_not_negative _ (w.1 c (omega arith) (let e = h.long in omega (arith, e)))) in
    let y = positive_part w.0.over _ w.0.positive r in
    let g = grows hull.d (negsuc k -ℤ b) hull.positive (omega (arith, ints)) in
    let e = apart hull.d (negsuc k) b in
    let o = ap (λ z. hull.d *ℤ z) (one_mul_ℤ b) in
    let o2 = one_mul_ℤ B in
    omega (arith, ints, y, g, e, o, o2)
  where
    apart : (d p b : ℤ) → d *ℤ (p -ℤ b) ≡ d *ℤ p -ℤ d *ℤ b
    apart d p b = rw (as_D d, as_D p, as_D b) (simp Ds (same_D _ _ _ _ (omega arith)))

-- no point of the support is below
abbrev pub NoneBelowAt : Time → Normal → List Point → ℕ → Type 0
NoneBelowAt t v s a = (c : ℕ) → 1 ≤ c → c ≤ length s → NotNegative (gap t v (point_at s a) (point_at s c))

early_from : (n i : ℕ) (supports : List (List Point)) (cell : Cell) → Shapes n i supports → EachPair supports cell (λ s a b. (1 ≤ a) × (a < b) × (b ≤ length s)) → (u : Time)
    → ((x : Time) → IsBefore x u → (v : Normal) × EachPair supports cell (λ s a b. NoneBelowAt x v s a))
    → EachFrom i supports cell (λ i s a b. (h : Shape n i s) → h.f < a)
early_from n i [] [] w of u alive = tt
early_from n i [] (x ∷ cell) w of u alive = of
early_from n i (s ∷ supports) [] w of u alive = of
early_from n i (s ∷ supports) (x ∷ cell) w of u alive = (
  (λ h. elim (dec_le x.0 h.f) [
    | yes l ↦ absurd (early_file n i s h x.0 of.0.0 l u (λ t b. let r = alive t b in (r.0, r.1.0)))
    | no m ↦ omega arith
  ]),
  early_from n (suc i) supports cell w.1 of.1 u (λ t b. let r = alive t b in (r.0, r.1.1)),
)

pub alive_none_below : (p : Problem) (cell : Cell) (t : Time) (v : Normal) → IsNormal p cell t v → AllAbove p cell t v → EachPair p.supports cell (λ s a b. NoneBelowAt t v s a)
alive_none_below p cell t v is above = pairs_both p.supports cell _ _ _ (λ s a b z k. alive_not_below t v s a b z k) is.1 above

-- a time before a time
pub earlier_time : (u : Time) → (x : Time) × IsBefore x u
earlier_time u =
    let u0 = at u.entries 0 in
    let k = up u0 + down u0 in
    (low_time k, low_before k u (omega (arith, ints)) (omega (arith, ints)))

-- a cell that is alive at all early times has no file point
pub early_corners : (n : ℕ) (p : Problem) (cell : Cell) → Shapes n 0 p.supports → AliveEarly p cell → EachFrom 0 p.supports cell (λ i s a b. (h : Shape n i s) → h.f < a)
early_corners n p cell w e =
    let x = earlier_time e.0 in
    early_from n 0 p.supports cell w (e.1 x.0 x.1).0 e.0 (λ t b. let k = e.1 t b in (k.2.0, alive_none_below p cell t k.2.0 k.2.1 k.2.2))
