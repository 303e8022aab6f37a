-- the times at which none of finitely many lines is negative, their lower end and their upper end
use Rattle.std.proofs.Common.{◌≡◌, ◌⊎◌, ℕ, zero, suc, ◌<◌, List, [], ◌∷◌, ◌++◌, map, arith, sym, subst, ◌∙◌, inl, inr, ◌<ℤ◌}
use Rattle.std.proofs.lemmas.Int.{ints}
use Rattle.std.proofs.Math.IntN.{ℤ, pos, ◌+ℤ◌, ◌*ℤ◌, neg_ℤ}
use native.Mathlib.Decide.{ℕ_discrete}
use Rattle.wide_int.proofs.Ring.{as_D, Ds, same_D, D-pos}
use Rattle.wide_int.proofs.Order.{sign_cases}
use Rattle.int_vectors.specs.Vectors.{Each, IsZero, IsPositive, at, scale}
use Rattle.int_vectors.proofs.Entries.{at-scale, at-add, zero_from, not_zero, at-zero}
use Rattle.cayley.specs.Times.{Time}
use Rattle.int_vectors.proofs.Each.{each_append}
use Rattle.cayley.proofs.Order.Lexicographic.{positive-same, not_both, zero-scale}
use Rattle.cayley.proofs.Order.Lines.{Line, line_at, Before, NotNegative, rises, level}
use Rattle.cayley.proofs.Order.Proportion.{zero_in_proportion}
use Rattle.cayley.proofs.Order.Times.{Same, same_sym, time_cases, turned, turned_one, turned_both}
use Rattle.cayley.proofs.Life.Mirror.{turned_is}
use Rattle.cayley.proofs.Order.Lined.{rise_of, before_rise, own_zero, each_has, line_same, turned_line, turn-back}
use Rattle.cayley.proofs.Life.Begins.{RisenBy, last_rise}
use Rattle.cayley.proofs.Algebra.RowDependencies.{each-left, each-right}
use Rattle.cayley.proofs.Order.Zeros.{zero_there, falls_back}

-- ---- one line
-- a line that is level and zero is zero at all times
pub level_zero : (l : Line) (t u : Time) → l.slope ≡ pos 0 → IsZero (line_at l t) → IsZero (line_at l u)
level_zero l t u s z =
    zero_in_proportion (line_at l t) (line_at l u) u.over t.over (λ e. let p = t.positive in omega (arith, ints, p, e))
    (λ e. simp (at-add, at-scale) (ring t.over u.over l.slope (at l.start e) (at t.entries e) (at u.entries e) s)) z
  where
    ring : (q r b a x y : ℤ) → b ≡ pos 0 → r *ℤ (q *ℤ a +ℤ b *ℤ x) ≡ q *ℤ (r *ℤ a +ℤ b *ℤ y)
    ring q r b a x y z = rw z (rw (as_D q, as_D r, as_D a, as_D x, as_D y, D-pos 0) (simp Ds (same_D _ _ _ _ (omega arith))))

-- a line that is zero at two times is level
pub two_zeros : (l : Line) (t u : Time) → Before t u → IsZero (line_at l t) → IsZero (line_at l u) → l.slope ≡ pos 0
two_zeros l t u b z w =
    sign_cases l.slope
    (λ n. absurd (not_zero (line_at l t) (falls_back l t u n b (inr w)) z))
    (λ e. e)
    (λ r. absurd (not_zero (line_at l u) (rises l t u r b (inr z)) w))

never_both : (u : List ℤ) → NotNegative u → ¬ (IsPositive (scale (neg_ℤ (pos 1)) u))
never_both u (inl p) n = not_both u p n
never_both u (inr z) n = not_zero (scale (neg_ℤ (pos 1)) u) n (zero-scale (neg_ℤ (pos 1)) u z)

not_negative_same : (u v : List ℤ) → ((e : ℕ) → at u e ≡ at v e) → NotNegative u → NotNegative v
not_negative_same u v e (inl p) = inl (positive-same u v e p)
not_negative_same u v e (inr z) = inr (zero_from v (λ k. sym (e k) ∙ at-zero u k z))

line_still : (l : Line) (t u : Time) → Same t u → NotNegative (line_at l t) → NotNegative (line_at l u)
line_still l t u s (inl p) = inl (line_same l t u s p)
line_still l t u s (inr z) = inr (zero_there l t u s z)

level_still : (l : Line) (t u : Time) → l.slope ≡ pos 0 → NotNegative (line_at l t) → NotNegative (line_at l u)
level_still l t u e (inl p) = inl (level l t u e p)
level_still l t u e (inr z) = inr (level_zero l t u e z)

-- a line that doesn't rise, before a time at which it isn't negative
line_earlier : (l : Line) (u t : Time) → ¬ (pos 0 <ℤ l.slope) → Before u t → NotNegative (line_at l t) → NotNegative (line_at l u)
line_earlier l u t none b h = sign_cases l.slope (λ n. inl (falls_back l u t n b h)) (λ e. level_still l t u e h) (λ r. absurd (none r))

-- ---- times that finitely many lines tell
pub record Spanned (P : Time → Type 0) : Type 0 where
  pub list : List Line
  pub to : (t : Time) → P t → Each list (λ l. NotNegative (line_at l t))
  pub from : (t : Time) → Each list (λ l. NotNegative (line_at l t)) → P t

pub spanned_always : (P : Time → Type 0) → ((t : Time) → P t) → Spanned P
spanned_always P h = record { list = []; to = λ t q. tt; from = λ t q. h t }

pub spanned_map : (P Q : Time → Type 0) → ((t : Time) → P t → Q t) → ((t : Time) → Q t → P t) → Spanned P → Spanned Q
spanned_map P Q f g p = record { list = p.list; to = λ t h. p.to t (g t h); from = λ t h. f t (p.from t h) }

spanned_both : (P Q : Time → Type 0) → Spanned P → Spanned Q → Spanned (λ t. P t × Q t)
spanned_both P Q p q = record {
  list = p.list ++ q.list;
  to = λ t h. each_append (λ l. NotNegative (line_at l t)) p.list q.list (p.to t h.0) (q.to t h.1);
  from = λ t h. (p.from t (each-left (λ l. NotNegative (line_at l t)) p.list q.list h), q.from t (each-right (λ l. NotNegative (line_at l t)) p.list q.list h));
}

pub spanned_below : (n : ℕ) (P : ℕ → Time → Type 0) → ((c : ℕ) → Spanned (P c)) → Spanned (λ t. (c : ℕ) → c < n → P c t)
spanned_below zero P h = spanned_always _ (λ t c lt. absurd (omega (arith, lt)))
spanned_below (suc n) P h =
    spanned_map (λ t. ((c : ℕ) → c < n → P c t) × P n t) _ (λ t q c lt. last t q c lt) (λ t q. ((λ c lt. q c (omega (arith, lt))), q n (omega arith)))
    (spanned_both (λ t. (c : ℕ) → c < n → P c t) (P n) (spanned_below n P h) (h n))
  where
    last : (t : Time) → ((c : ℕ) → c < n → P c t) × P n t → (c : ℕ) → c < suc n → P c t
    last t q c lt = elim (ℕ_discrete c n) [ yes e ↦ subst (λ k. P k t) (sym e) q.1 | no apart ↦ q.0 c (omega (arith, lt, apart)) ]

each_line_still : (ls : List Line) (t u : Time) → Same t u → Each ls (λ l. NotNegative (line_at l t)) → Each ls (λ l. NotNegative (line_at l u))
each_line_still [] t u s h = tt
each_line_still (l ∷ ls) t u s h = (line_still l t u s h.0, each_line_still ls t u s h.1)

pub span_same : (P : Time → Type 0) → Spanned P → (t u : Time) → Same t u → P t → P u
span_same P p t u s h = p.from u (each_line_still p.list t u s (p.to t h))

-- ---- the lower end
abbrev pub Lower : (Time → Type 0) → Time → Type 0
Lower P t = P t × ((u : Time) → Before u t → ¬ (P u))

abbrev pub Upper : (Time → Type 0) → Time → Type 0
Upper P t = P t × ((u : Time) → Before t u → ¬ (P u))

pub lower_once : (P : Time → Type 0) (t u : Time) → Lower P t → Lower P u → Same t u
lower_once P t u h k = time_cases t u (λ b. absurd (k.1 t b h.0)) (λ s. s) (λ b. absurd (h.1 u b k.0))

pub upper_once : (P : Time → Type 0) (t u : Time) → Upper P t → Upper P u → Same t u
upper_once P t u h k = time_cases t u (λ b. absurd (h.1 u b k.0)) (λ s. s) (λ b. absurd (k.1 t b h.0))

-- all lines at the greatest zero of the rising ones, which is t or before
line_at_rise : (l : Line) (u t : Time) → RisenBy u l → Before u t ⊎ Same u t → NotNegative (line_at l t) → NotNegative (line_at l u)
line_at_rise l u t risen (inr s) h = line_still l t u (same_sym u t s) h
line_at_rise l u t risen (inl b) h =
    sign_cases l.slope
    (λ n. inl (falls_back l u t n b h))
    (λ e. level_still l t u e h)
    (λ r. elim (risen r) [ inl c ↦ inl (rises l (rise_of l r) u r c (inr (own_zero l r))) | inr s ↦ inr (zero_there l (rise_of l r) u s (own_zero l r)) ])

each_at_rise : (ls : List Line) (u t : Time) → Each ls (RisenBy u) → Before u t ⊎ Same u t → Each ls (λ l. NotNegative (line_at l t)) → Each ls (λ l. NotNegative (line_at l u))
each_at_rise [] u t r b h = tt
each_at_rise (l ∷ ls) u t r b h = (line_at_rise l u t r.0 b h.0, each_at_rise ls u t r.1 b h.1)

each_earlier : (ls : List Line) (u t : Time) → Each ls (λ l. ¬ (pos 0 <ℤ l.slope)) → Before u t → Each ls (λ l. NotNegative (line_at l t)) → Each ls (λ l. NotNegative (line_at l u))
each_earlier [] u t n b h = tt
each_earlier (l ∷ ls) u t n b h = (line_earlier l u t n.0 b h.0, each_earlier ls u t n.1 b h.1)

-- there is a lower end, or every time before one of the span is in it
pub lower_or : (P : Time → Type 0) → Spanned P → (t : Time) → P t → ((u : Time) × Lower P u) ⊎ ((x y : Time) → P y → Before x y → P x)
lower_or P p t h = elim (last_rise p.list) [
  | inr none ↦ inr (λ x y k b. p.from x (each_earlier p.list x y none b (p.to y k)))
  | inl m ↦
      let u = rise_of m.line m.rise in
      let own = λ (x : Time) (k : P x). each_has (λ l. NotNegative (line_at l x)) p.list m.line (p.to x k) m.one in
      let ordered : Before u t ⊎ Same u t = time_cases u t inl inr (λ b. absurd (never_both (line_at m.line t) (own t h) (before_rise m.line m.rise t b))) in
      inl (u, (p.from u (each_at_rise p.list u t m.others ordered (p.to t h)), (λ x b k. never_both (line_at m.line x) (own x k) (before_rise m.line m.rise x b))))
]

-- ---- the upper end: the same with time turned around
turned_to : (ls : List Line) (t : Time) → Each ls (λ l. NotNegative (line_at l (turned t))) → Each (map turned_line ls) (λ l. NotNegative (line_at l t))
turned_to [] t h = tt
turned_to (l ∷ ls) t h = (not_negative_same (line_at l (turned t)) (line_at (turned_line l) t) (λ e. sym (turn-back l t e)) h.0, turned_to ls t h.1)

turned_from : (ls : List Line) (t : Time) → Each (map turned_line ls) (λ l. NotNegative (line_at l t)) → Each ls (λ l. NotNegative (line_at l (turned t)))
turned_from [] t h = tt
turned_from (l ∷ ls) t h = (not_negative_same (line_at (turned_line l) t) (line_at l (turned t)) (turn-back l t) h.0, turned_from ls t h.1)

mirrored_span : (P : Time → Type 0) → Spanned P → Spanned (λ t. P (turned t))
mirrored_span P p = record { list = map turned_line p.list; to = λ t h. turned_to p.list t (p.to (turned t) h); from = λ t h. p.from (turned t) (turned_from p.list t h) }

pub upper_or : (P : Time → Type 0) → Spanned P → (t : Time) → P t → ((u : Time) × Upper P u) ⊎ ((x y : Time) → P y → Before y x → P x)
upper_or P p t h =
    let there = λ (x : Time) (k : P x). subst P (sym (turned_is x)) k in
    elim (lower_or (λ x. P (turned x)) (mirrored_span P p) (turned t) (there t h)) [
      | inl q ↦ inl (turned q.0, (q.1.0, (λ x b k. q.1.1 (turned x) (turned_one q.0 x b) (there x k))))
      | inr below ↦ inr (λ x y k b. subst P (turned_is x) (below (turned x) (turned y) (there y k) (turned_both y x b)))
    ]

-- ---- a line that is zero at a time of the span
pub rising_lower : (P : Time → Type 0) (l : Line) → ((x : Time) → P x → NotNegative (line_at l x)) → (t : Time) → P t → IsZero (line_at l t) → pos 0 <ℤ l.slope → Lower P t
rising_lower P l tells t h z r = (h, λ u b k. not_zero (line_at l t) (rises l u t r b (tells u k)) z)

pub falling_upper : (P : Time → Type 0) (l : Line) → ((x : Time) → P x → NotNegative (line_at l x)) → (t : Time) → P t → IsZero (line_at l t) → l.slope <ℤ pos 0 → Upper P t
falling_upper P l tells t h z n = (h, λ u b k. not_zero (line_at l t) (falls_back l t u n b (tells u k)) z)
