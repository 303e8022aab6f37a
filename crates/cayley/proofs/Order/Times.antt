-- the order of times, and times turned around
use Rattle.std.proofs.Common.{◌≡◌, ℕ, arith, sym, ap, ◌∙◌, inl, inr}
use Rattle.std.proofs.Math.IntN.{ℤ, pos, ◌+ℤ◌, ◌*ℤ◌, neg_ℤ, *ℤ-zero}
use Rattle.wide_int.proofs.Ring.{as_D, Ds, same_D, D-pos}
use Rattle.cayley.proofs.Order.Lexicographic.{positive-same, three, minus_one}
use Rattle.cayley.proofs.Order.Lines.{later, Before, NotNegative, positive_mix, before_trans, next, before_next, flip_negative}
use Rattle.int_vectors.specs.Vectors.{IsZero, scale, at}
use Rattle.int_vectors.proofs.Entries.{at-scale, at-add, zero_from, not_zero, at-zero}
use Rattle.cayley.specs.Times.{Time}

-- the same time, maybe written over another number
abbrev pub Same : Time → Time → Type 0
Same t u = IsZero (later t u)

turn_ring : (q r x y : ℤ) → neg_ℤ (q *ℤ y +ℤ neg_ℤ r *ℤ x) ≡ r *ℤ x +ℤ neg_ℤ q *ℤ y
turn_ring q r x y = rw (as_D q, as_D r, as_D x, as_D y) (simp Ds (same_D _ _ _ _ (omega arith)))

later-turn : (t u : Time) (e : ℕ) → at (scale (neg_ℤ (pos 1)) (later t u)) e ≡ at (later u t) e
later-turn t u e = simp (at-add, at-scale) (minus_one _ ∙ turn_ring t.over u.over (at t.entries e) (at u.entries e))

pub same_sym : (t u : Time) → Same t u → Same u t
same_sym t u z = zero_from (later u t) (λ e. sym (later-turn t u e) ∙ at-scale (neg_ℤ (pos 1)) (later t u) e ∙ ap (λ x. neg_ℤ (pos 1) *ℤ x) (at-zero (later t u) e z) ∙ *ℤ-zero (neg_ℤ (pos 1)))

pub later-self : (t : Time) (e : ℕ) → at (later t t) e ≡ pos 0
later-self t e = simp (at-add, at-scale) (ring t.over (at t.entries e))
  where
    ring : (q x : ℤ) → q *ℤ x +ℤ neg_ℤ q *ℤ x ≡ pos 0
    ring q x = rw (as_D q, as_D x, D-pos 0) (simp Ds (same_D _ _ _ _ (omega arith)))

pub same_self : (t : Time) → Same t t
same_self t = zero_from (later t t) (later-self t)

pub never_before : (t : Time) → ¬ (Before t t)
never_before t p = not_zero (later t t) p (same_self t)

pub time_cases : {P : Type 0} (t u : Time) → (Before t u → P) → (Same t u → P) → (Before u t → P) → P
time_cases t u f g h = three (later t u) (λ n. h (flip_negative t u n)) g f

trans_ring : (q r s x y z : ℤ) → r *ℤ (q *ℤ z +ℤ neg_ℤ s *ℤ x) ≡ q *ℤ (r *ℤ z +ℤ neg_ℤ s *ℤ y) +ℤ s *ℤ (q *ℤ y +ℤ neg_ℤ r *ℤ x)
trans_ring q r s x y z = rw (as_D q, as_D r, as_D s, as_D x, as_D y, as_D z) (simp Ds (same_D _ _ _ _ (omega arith)))

pub trans_before : (t u v : Time) → NotNegative (later t u) → Before u v → Before t v
trans_before t u v p q =
    positive_mix (later t v) (later u v) (later t u) u.over t.over v.over u.positive t.positive v.positive q p
    (λ e. simp (at-add, at-scale) (trans_ring t.over u.over v.over (at t.entries e) (at u.entries e) (at v.entries e)))

pub same_before : (t u v : Time) → Same t u → Before t v → Before u v
same_before t u v s p = trans_before u t v (inr (same_sym t u s)) p

pub before_same : (t u v : Time) → Same u v → Before t u → Before t v
before_same t u v s p = before_trans t u v p (inr s)

pub same_trans : (t u v : Time) → Same t u → Same u v → Same t v
same_trans t u v p q =
    time_cases t v
    (λ b. absurd (never_before t (before_same t u t (same_sym t u p) (before_same t v u (same_sym u v q) b))))
    (λ s. s)
    (λ b. absurd (never_before v (before_same v u v q (before_same v t u p b))))

-- the less of two times
pub record Less (u v : Time) : Type 0 where
  pub w : Time
  pub first : (x : Time) → Before x w → Before x u
  pub second : (x : Time) → Before x w → Before x v

pub less : (u v : Time) → Less u v
less u v =
    time_cases u v
    (λ b. record { w = u; first = λ x h. h; second = λ x h. before_trans x u v h (inl b) })
    (λ s. record { w = u; first = λ x h. h; second = λ x h. before_trans x u v h (inr s) })
    (λ b. record { w = v; first = λ x h. before_trans x v u h (inl b); second = λ x h. h })

-- times turned around
unfoldable pub turned : Time → Time
turned t = record { entries = scale (neg_ℤ (pos 1)) t.entries; over = t.over; positive = t.positive }

turned-one : (t u : Time) (e : ℕ) → at (later (turned t) u) e ≡ at (later (turned u) t) e
unfolding turned
turned-one t u e = simp (at-add, at-scale) (ring t.over u.over (at t.entries e) (at u.entries e) _ _ (minus_one (at t.entries e)) (minus_one (at u.entries e)))
  where
    ring1 : (q r x y : ℤ) → q *ℤ y +ℤ neg_ℤ r *ℤ neg_ℤ x ≡ r *ℤ x +ℤ neg_ℤ q *ℤ neg_ℤ y
    ring1 q r x y = rw (as_D q, as_D r, as_D x, as_D y) (simp Ds (same_D _ _ _ _ (omega arith)))

    ring : (q r x y z w : ℤ) → z ≡ neg_ℤ x → w ≡ neg_ℤ y → q *ℤ y +ℤ neg_ℤ r *ℤ z ≡ r *ℤ x +ℤ neg_ℤ q *ℤ w
    ring q r x y z w e f = rw (e, f) (ring1 q r x y)

turned-both : (t u : Time) (e : ℕ) → at (later t u) e ≡ at (later (turned u) (turned t)) e
unfolding turned
turned-both t u e = simp (at-add, at-scale) (ring t.over u.over (at t.entries e) (at u.entries e) _ _ (minus_one (at t.entries e)) (minus_one (at u.entries e)))
  where
    ring1 : (q r x y : ℤ) → q *ℤ y +ℤ neg_ℤ r *ℤ x ≡ r *ℤ neg_ℤ x +ℤ neg_ℤ q *ℤ neg_ℤ y
    ring1 q r x y = rw (as_D q, as_D r, as_D x, as_D y) (simp Ds (same_D _ _ _ _ (omega arith)))

    ring : (q r x y z w : ℤ) → z ≡ neg_ℤ x → w ≡ neg_ℤ y → q *ℤ y +ℤ neg_ℤ r *ℤ x ≡ r *ℤ z +ℤ neg_ℤ q *ℤ w
    ring q r x y z w e f = rw (e, f) (ring1 q r x y)

pub turned_one : (t u : Time) → Before (turned t) u → Before (turned u) t
turned_one t u p = positive-same _ _ (turned-one t u) p

pub turned_both : (t u : Time) → Before t u → Before (turned u) (turned t)
turned_both t u p = positive-same _ _ (turned-both t u) p

turned-back : (t u : Time) (e : ℕ) → at (later t (turned u)) e ≡ at (later u (turned t)) e
unfolding turned
turned-back t u e = simp (at-add, at-scale) (ring t.over u.over (at t.entries e) (at u.entries e) _ _ (minus_one (at t.entries e)) (minus_one (at u.entries e)))
  where
    ring1 : (q r x y : ℤ) → q *ℤ neg_ℤ y +ℤ neg_ℤ r *ℤ x ≡ r *ℤ neg_ℤ x +ℤ neg_ℤ q *ℤ y
    ring1 q r x y = rw (as_D q, as_D r, as_D x, as_D y) (simp Ds (same_D _ _ _ _ (omega arith)))

    ring : (q r x y z w : ℤ) → z ≡ neg_ℤ x → w ≡ neg_ℤ y → q *ℤ w +ℤ neg_ℤ r *ℤ x ≡ r *ℤ z +ℤ neg_ℤ q *ℤ y
    ring q r x y z w e f = rw (e, f) (ring1 q r x y)

pub turned_back : (t u : Time) → Before t (turned u) → Before u (turned t)
turned_back t u p = positive-same _ _ (turned-back t u) p

-- one sooner
pub record Sooner (t : Time) : Type 0 where
  pub u : Time
  pub before : Before u t

pub sooner : (t : Time) → Sooner t
sooner t = record { u = turned (next (turned t)); before = turned_one t (next (turned t)) (before_next (turned t)) }
