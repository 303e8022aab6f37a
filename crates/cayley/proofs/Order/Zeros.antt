-- where a line is zero
use Rattle.std.proofs.Common.{◌≡◌, ℕ, [], arith, sym, ap, ◌∙◌, inl, inr, ◌<ℤ◌}
use Rattle.std.proofs.lemmas.Int.{ints}
use Rattle.std.proofs.Math.IntN.{ℤ, pos, ◌+ℤ◌, ◌*ℤ◌, neg_ℤ, *ℤ-zero}
use Rattle.wide_int.proofs.Ring.{as_D, Ds, same_D}
use Rattle.cayley.proofs.Order.Lexicographic.{positive-same, not_both, three, minus_one}
use Rattle.cayley.proofs.Order.Lines.{Line, line_at, Before, NotNegative, before_trans, zero_of, before_zero, rises, middle}
use Rattle.cayley.proofs.Order.Times.{Same, same_sym, time_cases, never_before, turned, turned_both}
use Rattle.cayley.proofs.Order.Lined.{rise_of, before_rise, own_zero, line_same, turned_line, turn-at}
use Rattle.int_vectors.specs.Vectors.{IsZero, IsPositive, scale, at}
use Rattle.int_vectors.proofs.Entries.{at-scale, at-add, zero_from, not_zero, at-zero}
use Rattle.cayley.specs.Times.{Time}

-- ---- the line times -1
minus_line : Line → Line
minus_line l = record { start = scale (neg_ℤ (pos 1)) l.start; slope = neg_ℤ l.slope }

minus-at : (l : Line) (t : Time) (e : ℕ) → at (line_at (minus_line l) t) e ≡ at (scale (neg_ℤ (pos 1)) (line_at l t)) e
unfolding minus_line
minus-at l t e = simp (at-add, at-scale) (ring t.over (at l.start e) l.slope (at t.entries e) _ _ (minus_one (at l.start e)) (minus_one _))
  where
    ring1 : (q a b x : ℤ) → q *ℤ neg_ℤ a +ℤ neg_ℤ b *ℤ x ≡ neg_ℤ (q *ℤ a +ℤ b *ℤ x)
    ring1 q a b x = rw (as_D q, as_D a, as_D b, as_D x) (simp Ds (same_D _ _ _ _ (omega arith)))

    ring : (q a b x z w : ℤ) → z ≡ neg_ℤ a → w ≡ neg_ℤ (q *ℤ a +ℤ b *ℤ x) → q *ℤ z +ℤ neg_ℤ b *ℤ x ≡ w
    ring q a b x z w e f = rw (e, f) (ring1 q a b x)

zero_minus : (l : Line) (t : Time) → IsZero (line_at l t) → IsZero (line_at (minus_line l) t)
zero_minus l t z = zero_from _ (λ e. minus-at l t e ∙ at-scale (neg_ℤ (pos 1)) (line_at l t) e ∙ ap (λ x. neg_ℤ (pos 1) *ℤ x) (at-zero (line_at l t) e z) ∙ *ℤ-zero (neg_ℤ (pos 1)))

-- ---- the zeros of a line
-- a rising line that is positive at x has its zero before x
pub zero_before : (l : Line) (r : pos 0 <ℤ l.slope) (x : Time) → IsPositive (line_at l x) → Before (rise_of l r) x
zero_before l r x p =
    time_cases (rise_of l r) x
    (λ b. b)
    (λ s. absurd (not_zero (line_at l (rise_of l r)) (line_same l x (rise_of l r) (same_sym (rise_of l r) x s) p) (own_zero l r)))
    (λ b. absurd (not_both (line_at l x) p (before_rise l r x b)))

-- a zero is one at every time that is the same
pub zero_there : (l : Line) (t u : Time) → Same t u → IsZero (line_at l t) → IsZero (line_at l u)
zero_there l t u s z =
    three (line_at l u)
    (λ n. absurd (elsewhere n))
    (λ q. q)
    (λ q. absurd (not_zero (line_at l t) (line_same l u t (same_sym t u s) q) z))
  where
    elsewhere : IsPositive (scale (neg_ℤ (pos 1)) (line_at l u)) → ⊥
    elsewhere n = not_zero (line_at (minus_line l) t) (line_same (minus_line l) u t (same_sym t u s) (positive-same _ _ (λ e. sym (minus-at l u e)) n)) (zero_minus l t z)

-- a falling line, before a time at which it isn't negative
pub falls_back : (l : Line) (m t : Time) → l.slope <ℤ pos 0 → Before m t → NotNegative (line_at l t) → IsPositive (line_at l m)
unfolding turned_line
falls_back l m t n b h =
    positive-same _ _ (turn-at l m)
    (rises (turned_line l) (turned t) (turned m) (omega (arith, ints)) (turned_both m t b)
    (elim h [ inl p ↦ inl (positive-same _ _ (λ e. sym (turn-at l t e)) p) | inr z ↦ inr (zero_from _ (λ e. turn-at l t e ∙ at-zero (line_at l t) e z)) ]))

-- a falling line is zero at one time only
pub only_zero : (l : Line) (n : l.slope <ℤ pos 0) (t : Time) → IsZero (line_at l t) → Same t (zero_of l n)
only_zero l n t z =
    time_cases t (zero_of l n)
    (λ b. absurd (not_zero (line_at l t) ((before_zero l n t).0 b) z))
    (λ s. s)
    (λ b.
    let m = middle (zero_of l n) t b in
    absurd (never_before m.m (before_trans m.m (zero_of l n) m.m ((before_zero l n m.m).1 (falls_back l m.m t n m.before (inr z))) (inl m.after))))
