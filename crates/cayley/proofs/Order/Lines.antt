-- lines over time: where they are positive, and alive just after a time
use Rattle.std.proofs.Common.{◌≡◌, ◌⊎◌, ◌↔◌, ℕ, zero, suc, List, [], ◌∷◌, arith, sym, ap, ◌∙◌, inl, inr, ◌<ℤ◌}
use Rattle.std.proofs.lemmas.Int.{ints}
use Rattle.std.proofs.Math.IntN.{ℤ, pos, ◌+ℤ◌, ◌*ℤ◌, neg_ℤ}
use Rattle.wide_int.proofs.Ring.{as_D, Ds, same_D, D-pos}
use Rattle.wide_int.proofs.Order.{sign_cases, mul_pos_ℤ}
use Rattle.cayley.proofs.Order.Lexicographic.{positive-add, positive-add_zero, positive-scale, positive-unscale, positive-same, zero-scale, not_both, three, minus_one}
use Rattle.int_vectors.specs.Vectors.{IsZero, IsPositive, scale, add, at, Each}
use Rattle.int_vectors.proofs.Entries.{at-scale, at-add}
use Rattle.cayley.specs.Times.{Time}

pub record Line : Type 0 where
  pub start : List ℤ
  pub slope : ℤ

-- the line's value at a time, times the time's denominator
abbrev pub line_at : Line → Time → List ℤ
line_at l t = add (scale t.over l.start) (scale l.slope t.entries)

-- t' - t, times both denominators
abbrev pub later : Time → Time → List ℤ
later t u = add (scale t.over u.entries) (scale (neg_ℤ u.over) t.entries)

abbrev pub Before : Time → Time → Type 0
Before t u = IsPositive (later t u)

abbrev pub NotNegative : List ℤ → Type 0
NotNegative u = IsPositive u ⊎ IsZero u

pub positive_mix : (x y z : List ℤ) (k a b : ℤ) → pos 0 <ℤ k → pos 0 <ℤ a → pos 0 <ℤ b → IsPositive y → NotNegative z
    → ((e : ℕ) → at (scale k x) e ≡ at (add (scale a y) (scale b z)) e) → IsPositive x
positive_mix x y z k a b pk pa pb py pz e = positive-unscale k x pk (positive-same (add (scale a y) (scale b z)) (scale k x) (λ i. sym (e i)) (sum pz))
  where
    sum : NotNegative z → IsPositive (add (scale a y) (scale b z))
    sum (inl p) = positive-add (scale a y) (scale b z) (positive-scale a y pa py) (positive-scale b z pb p)
    sum (inr p) = positive-add_zero (scale a y) (scale b z) (positive-scale a y pa py) (zero-scale b z p)

pub before_trans : (t u v : Time) → Before t u → NotNegative (later u v) → Before t v
before_trans t u v p q =
    positive_mix (later t v) (later t u) (later u v) u.over v.over t.over u.positive v.positive t.positive p q
    (λ e. simp (at-add, at-scale) (ring t.over u.over v.over (at t.entries e) (at u.entries e) (at v.entries e)))
  where
    ring : (q r s x y z : ℤ) → r *ℤ (q *ℤ z +ℤ neg_ℤ s *ℤ x) ≡ s *ℤ (q *ℤ y +ℤ neg_ℤ r *ℤ x) +ℤ q *ℤ (r *ℤ z +ℤ neg_ℤ s *ℤ y)
    ring q r s x y z = rw (as_D q, as_D r, as_D s, as_D x, as_D y, as_D z) (simp Ds (same_D _ _ _ _ (omega arith)))

-- a rising line, or one that is level, after a time at which it isn't negative
pub rises : (l : Line) (t u : Time) → pos 0 <ℤ l.slope → Before t u → NotNegative (line_at l t) → IsPositive (line_at l u)
rises l t u ps p q =
    positive_mix (line_at l u) (later t u) (line_at l t) t.over l.slope u.over t.positive ps u.positive p q
    (λ e. simp (at-add, at-scale) (ring t.over u.over l.slope (at l.start e) (at t.entries e) (at u.entries e)))
  where
    ring : (q r b a x y : ℤ) → q *ℤ (r *ℤ a +ℤ b *ℤ y) ≡ b *ℤ (q *ℤ y +ℤ neg_ℤ r *ℤ x) +ℤ r *ℤ (q *ℤ a +ℤ b *ℤ x)
    ring q r b a x y = rw (as_D q, as_D r, as_D b, as_D a, as_D x, as_D y) (simp Ds (same_D _ _ _ _ (omega arith)))

-- where a falling line is zero: it is positive exactly before that time
pub zero_of : (l : Line) → l.slope <ℤ pos 0 → Time
zero_of l n = record { entries = l.start; over = neg_ℤ l.slope; positive = omega (arith, ints) }

pub before_zero : (l : Line) (n : l.slope <ℤ pos 0) (t : Time) → Before t (zero_of l n) ↔ IsPositive (line_at l t)
unfolding zero_of
before_zero l n t = (
  positive-same (later t (zero_of l n)) (line_at l t) same,
  positive-same (line_at l t) (later t (zero_of l n)) (λ k. sym (same k)),
)
  where
    ring : (q b a x : ℤ) → q *ℤ a +ℤ neg_ℤ (neg_ℤ b) *ℤ x ≡ q *ℤ a +ℤ b *ℤ x
    ring q b a x = rw (as_D q, as_D b, as_D a, as_D x) (simp Ds (same_D _ _ _ _ (omega arith)))

    same : (e : ℕ) → at (later t (zero_of l n)) e ≡ at (line_at l t) e
    same e = simp (at-add, at-scale) (ring t.over l.slope (at l.start e) (at t.entries e))

-- a line that is level keeps its sign
pub level : (l : Line) (t u : Time) → l.slope ≡ pos 0 → IsPositive (line_at l t) → IsPositive (line_at l u)
level l t u z p =
    positive_mix (line_at l u) (line_at l t) [] t.over u.over (pos 1) t.positive u.positive (omega (arith, ints)) p (inr tt)
    (λ e. simp (at-add, at-scale) (ring t.over u.over l.slope (at l.start e) (at t.entries e) (at u.entries e) z))
  where
    ring : (q r b a x y : ℤ) → b ≡ pos 0 → q *ℤ (r *ℤ a +ℤ b *ℤ y) ≡ r *ℤ (q *ℤ a +ℤ b *ℤ x) +ℤ pos 0
    ring q r b a x y z = rw z (rw (as_D q, as_D r, as_D a, as_D x, as_D y, D-pos 0) (simp Ds (same_D _ _ _ _ (omega arith))))

abbrev pub AllPositive : List Line → Time → Type 0
AllPositive ls t = Each ls (λ l. IsPositive (line_at l t))

pub record JustAfter (ls : List Line) (t : Time) : Type 0 where
  pub until : Time
  pub later_is : Before t until
  pub holds : (u : Time) → Before t u → Before u until → AllPositive ls u

-- positive, or zero and rising
abbrev pub SignAfter : Time → Line → Type 0
SignAfter t l = IsPositive (line_at l t) ⊎ (IsZero (line_at l t) × (pos 0 <ℤ l.slope))

-- one later
pub next : Time → Time
next t = record { entries = add t.entries (t.over ∷ []); over = t.over; positive = t.positive }

pub before_next : (t : Time) → Before t (next t)
unfolding next
before_next t = positive-same ((t.over *ℤ t.over) ∷ []) (later t (next t)) same (inl (mul_pos_ℤ t.over t.over t.positive t.positive))
  where
    ring0 : (q x : ℤ) → q *ℤ q ≡ q *ℤ (x +ℤ q) +ℤ neg_ℤ q *ℤ x
    ring0 q x = rw (as_D q, as_D x) (simp Ds (same_D _ _ _ _ (omega arith)))

    ring1 : (q x : ℤ) → pos 0 ≡ q *ℤ (x +ℤ pos 0) +ℤ neg_ℤ q *ℤ x
    ring1 q x = rw (as_D q, as_D x, D-pos 0) (simp Ds (same_D _ _ _ _ (omega arith)))

    same : (e : ℕ) → at ((t.over *ℤ t.over) ∷ []) e ≡ at (later t (next t)) e
    same zero = simp (at-add, at-scale) (ring0 t.over (at t.entries 0))
    same (suc e) = simp (at-add, at-scale) (ring1 t.over (at t.entries (suc e)))

-- the earlier of two times after t
pub record Earlier (t u v : Time) : Type 0 where
  pub w : Time
  pub after : Before t w
  pub first : (x : Time) → Before x w → Before x u
  pub second : (x : Time) → Before x w → Before x v

pub flip_negative : (u v : Time) → IsPositive (scale (neg_ℤ (pos 1)) (later u v)) → Before v u
flip_negative u v p = positive-same _ (later v u) (λ e. simp (at-add, at-scale) (ring u.over v.over (at u.entries e) (at v.entries e))) p
  where
    ring1 : (q r x y : ℤ) → neg_ℤ (q *ℤ y +ℤ neg_ℤ r *ℤ x) ≡ r *ℤ x +ℤ neg_ℤ q *ℤ y
    ring1 q r x y = rw (as_D q, as_D r, as_D x, as_D y) (simp Ds (same_D _ _ _ _ (omega arith)))

    ring : (q r x y : ℤ) → neg_ℤ (pos 1) *ℤ (q *ℤ y +ℤ neg_ℤ r *ℤ x) ≡ r *ℤ x +ℤ neg_ℤ q *ℤ y
    ring q r x y = minus_one (q *ℤ y +ℤ neg_ℤ r *ℤ x) ∙ ring1 q r x y

pub earlier : (t u v : Time) → Before t u → Before t v → Earlier t u v
earlier t u v p q =
    three (later u v)
    (λ n. record { w = v; after = q; first = λ x h. before_trans x v u h (inl (flip_negative u v n)); second = λ x h. h })
    (λ z. record { w = u; after = p; first = λ x h. h; second = λ x h. before_trans x u v h (inr z) })
    (λ n. record { w = u; after = p; first = λ x h. h; second = λ x h. before_trans x u v h (inl n) })

pub record Bound (t : Time) (l : Line) : Type 0 where
  pub until : Time
  pub after : Before t until
  pub holds : (u : Time) → Before t u → Before u until → IsPositive (line_at l u)

pub bound : (t : Time) (l : Line) → SignAfter t l → Bound t l
bound t l (inl p) =
    sign_cases l.slope
    (λ n. record { until = zero_of l n; after = (before_zero l n t).1 p; holds = λ u a b. (before_zero l n u).0 b })
    (λ z. record { until = next t; after = before_next t; holds = λ u a b. level l t u z p })
    (λ s. record { until = next t; after = before_next t; holds = λ u a b. rises l t u s a (inl p) })
bound t l (inr h) = record { until = next t; after = before_next t; holds = λ u a b. rises l t u h.1 a (inr h.0) }

pub just_after_from : (ls : List Line) (t : Time) → Each ls (SignAfter t) → JustAfter ls t
just_after_from [] t s = record { until = next t; later_is = before_next t; holds = λ u a b. tt }
just_after_from (l ∷ ls) t s =
    let one = bound t l s.0 in
    let rest = just_after_from ls t s.1 in
    let w = earlier t one.until rest.until one.after rest.later_is in
    record { until = w.w; later_is = w.after; holds = λ u a b. (one.holds u a (w.first u b), rest.holds u a (w.second u b)) }

pub record Middle (t u : Time) : Type 0 where
  pub m : Time
  pub after : Before t m
  pub before : Before m u

pub middle : (t u : Time) → Before t u → Middle t u
middle t u p = record {
  m = m;
  after = positive-same (scale t.over (later t u)) (later t m) (λ e. simp (at-add, at-scale) (ring1 t.over u.over (at t.entries e) (at u.entries e))) (positive-scale t.over (later t u) t.positive p);
  before = positive-same (scale u.over (later t u)) (later m u) (λ e. simp (at-add, at-scale) (ring2 t.over u.over (at t.entries e) (at u.entries e))) (positive-scale u.over (later t u) u.positive p);
}
  where
    two_pos : pos 0 <ℤ (t.over *ℤ u.over +ℤ t.over *ℤ u.over)
    two_pos = let p = mul_pos_ℤ t.over u.over t.positive u.positive in omega (arith, ints)

    m : Time
    m = record { entries = add (scale u.over t.entries) (scale t.over u.entries); over = t.over *ℤ u.over +ℤ t.over *ℤ u.over; positive = two_pos }

    ring1 : (q r x y : ℤ) → q *ℤ (q *ℤ y +ℤ neg_ℤ r *ℤ x) ≡ q *ℤ (r *ℤ x +ℤ q *ℤ y) +ℤ neg_ℤ (q *ℤ r +ℤ q *ℤ r) *ℤ x
    ring1 q r x y = rw (as_D q, as_D r, as_D x, as_D y) (simp Ds (same_D _ _ _ _ (omega arith)))

    ring2 : (q r x y : ℤ) → r *ℤ (q *ℤ y +ℤ neg_ℤ r *ℤ x) ≡ (q *ℤ r +ℤ q *ℤ r) *ℤ y +ℤ neg_ℤ r *ℤ (r *ℤ x +ℤ q *ℤ y)
    ring2 q r x y = rw (as_D q, as_D r, as_D x, as_D y) (simp Ds (same_D _ _ _ _ (omega arith)))

-- where a rising line is zero: it is negative exactly before that time
rise_of : (l : Line) → pos 0 <ℤ l.slope → Time
rise_of l p = record { entries = scale (neg_ℤ (pos 1)) l.start; over = l.slope; positive = p }

before_rise : (l : Line) (p : pos 0 <ℤ l.slope) (t : Time) → Before t (rise_of l p) ↔ IsPositive (scale (neg_ℤ (pos 1)) (line_at l t))
unfolding rise_of
before_rise l p t = (
  positive-same (later t (rise_of l p)) _ same,
  positive-same _ (later t (rise_of l p)) (λ k. sym (same k)),
)
  where
    ring : (q b a x : ℤ) → q *ℤ neg_ℤ a +ℤ neg_ℤ b *ℤ x ≡ neg_ℤ (q *ℤ a +ℤ b *ℤ x)
    ring q b a x = rw (as_D q, as_D b, as_D a, as_D x) (simp Ds (same_D _ _ _ _ (omega arith)))

    same : (e : ℕ) → at (later t (rise_of l p)) e ≡ at (scale (neg_ℤ (pos 1)) (line_at l t)) e
    same e = simp (at-add, at-scale) (ap (λ z. t.over *ℤ z +ℤ neg_ℤ l.slope *ℤ at t.entries e) (minus_one (at l.start e)) ∙ ring t.over l.slope (at l.start e) (at t.entries e) ∙ sym (minus_one _))

signs_from : (l : Line) (t until : Time) → Before t until → ((u : Time) → Before t u → Before u until → IsPositive (line_at l u)) → SignAfter t l
signs_from l t until p h =
    let m = middle t until p in
    let at_m = h m.m m.after m.before in
    sign_cases l.slope
    (λ n. inl ((before_zero l n t).0 (before_trans t m.m (zero_of l n) m.after (inl ((before_zero l n m.m).1 at_m)))))
    (λ z. inl (level l m.m t z at_m))
    (λ s. three (line_at l t)
    (λ n.
    let z = rise_of l s in
    let w = earlier t until z p ((before_rise l s t).1 n) in
    let x = middle t w.w w.after in
    absurd (not_both (line_at l x.m) (h x.m x.after (w.first x.m x.before)) ((before_rise l s x.m).0 (w.second x.m x.before))))
    (λ z. inr (z, s))
    (λ q. inl q))

pub just_after_to : (ls : List Line) (t until : Time) → Before t until → ((u : Time) → Before t u → Before u until → AllPositive ls u) → Each ls (SignAfter t)
just_after_to [] t until p h = tt
just_after_to (l ∷ ls) t until p h =
    (signs_from l t until p (λ u a b. (h u a b).0), just_after_to ls t until p (λ u a b. (h u a b).1))
