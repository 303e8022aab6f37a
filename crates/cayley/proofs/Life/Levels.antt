-- where a cell begins or ends no further point is below, and some further point is level
use Rattle.std.proofs.Common.{◌⊎◌, ℕ, zero, suc, ◌<◌, List, [], ◌∷◌, length, arith, sym, subst, ◌∙◌, inl, inr}
use native.Mathlib.Decide.{ℕ_discrete}
use Rattle.cayley.proofs.Order.Lexicographic.{positive-same}
use Rattle.cayley.proofs.Order.Proportion.{either_in_proportion, in_proportion}
use Rattle.cayley.proofs.Order.Lines.{Line, line_at, just_after_to, middle}
use Rattle.cayley.proofs.OneCell.CellLines.{exact_line}
use Rattle.cayley.proofs.Order.Times.{turned}
use Rattle.cayley.proofs.Order.Lined.{Lined, Ahead, mirrored, ahead_to, after_to, turned_line, turn-at, further_cases}
use Rattle.cayley.proofs.Life.Walls.{SomeFurther}
use Rattle.cayley.proofs.Life.Decisions.{alive_after, alive_before}
use Rattle.int_vectors.specs.Vectors.{IsZero, IsPositive}
use Rattle.int_vectors.proofs.Entries.{zero_from, at-zero}
use Rattle.cayley.specs.Times.{Time, IsBefore}
use Rattle.cayley.specs.Problems.{Point, Problem, point_at, IsProblem}
use Rattle.cayley.specs.Normals.{Normal, gap, IsNormal, NoneBelow}
use Rattle.cayley.specs.Cells.{Cell, EachPair, IsOf, IsIndependent, IsFurther}
use Rattle.cayley.specs.Mixed.{IsAlive}
use Rattle.cayley.specs.Lives.{AliveJustAfter, AliveJustBefore, BeginsAt, EndsAt}
use Rattle.cayley.proofs.Lists.Pairs.{pairs_map}

-- "for each x" goes into each pair
pub each_swap : (X : Type 0) (supports : List (List Point)) (cell : Cell) (P : X → List Point → ℕ → ℕ → Type 0) → X → ((x : X) → EachPair supports cell (P x)) → EachPair supports cell (λ s a b. (x : X) → P x s a b)
each_swap X [] [] P x0 e = tt
each_swap X [] (pair ∷ cell) P x0 e = e x0
each_swap X (s ∷ supports) [] P x0 e = e x0
each_swap X (s ∷ supports) (pair ∷ cell) P x0 e = ((λ x. (e x).0), each_swap X supports cell P x0 (λ x. (e x).1))

-- the times between t and u
abbrev Between : Time → Time → Type 0
Between t u = (x : Time) × IsBefore t x × IsBefore x u

-- above at all times between: the line is positive there
module _ (p : Problem) (cell : Cell) (well : IsProblem p) (t u : Time) (alive : (x : Time) → IsBefore t x → IsBefore x u → IsAlive p cell x) (between : IsBefore t u) where
  abbrev AboveThen : List Point → ℕ → ℕ → Type 0
  AboveThen s a b = (x : Between t u) (c : ℕ) → IsFurther s a b c → IsPositive (gap x.0 (alive x.0 x.1 x.2).2.0 (point_at s a) (point_at s c))

  above_then : EachPair p.supports cell AboveThen
  above_then =
      let m = middle t u between in
      each_swap (Between t u) p.supports cell (λ x s a b. (c : ℕ) → IsFurther s a b c → IsPositive (gap x.0 (alive x.0 x.1 x.2).2.0 (point_at s a) (point_at s c))) (m.m, m.after, m.before) (λ x. (alive x.0 x.1 x.2).2.2)

  line_then : (of : IsOf p cell) (ind : IsIndependent p cell) (s : List Point) (a b c : ℕ) → AboveThen s a b → IsFurther s a b c → (x : Time) → IsBefore t x → IsBefore x u
      → IsPositive (line_at (exact_line p cell (point_at s a) (point_at s c) well of ind).line x)
  line_then of ind s a b c h f x i j =
      let l = exact_line p cell (point_at s a) (point_at s c) well of ind in
      let v = (alive x i j).2.0 in
      in_proportion (gap x v (point_at s a) (point_at s c)) (line_at l.line x) l.g v.over l.positive v.positive (λ e. sym (l.is x v (alive x i j).2.1 e)) (h (x, i, j) c f)

pub after_none_below : (p : Problem) (cell : Cell) → IsProblem p → (t : Time) (v : Normal) → AliveJustAfter p cell t → IsNormal p cell t v → NoneBelow p cell t v
after_none_below p cell well t v h n =
    let a = alive_after p cell t h in
    pairs_map p.supports cell _ _ (λ s i j k c f.
    let l = exact_line p cell (point_at s i) (point_at s c) well a.1.0 a.1.1 in
    let q = just_after_to (l.line ∷ []) t h.0 h.1 (λ x b d. (line_then p cell well t h.0 h.2 h.1 a.1.0 a.1.1 s i j c k f x b d, tt)) in
    either_in_proportion (line_at l.line t) (gap t v (point_at s i) (point_at s c)) v.over l.g v.positive l.positive (l.is t v n) (elim q.0 [ inl m ↦ inl m | inr z ↦ inr z.0 ]))
    (above_then p cell well t h.0 h.2 h.1)

-- positive just before t: not negative at t
one_line : (l : Line) → Lined (λ t. IsPositive (line_at l t))
one_line l = record { list = l ∷ []; to = λ t h. (h, tt); from = λ t h. h.0 }

line_before : (l : Line) (t : Time) → Ahead (λ x. IsPositive (line_at l x)) t → IsPositive (line_at l t) ⊎ IsZero (line_at l t)
unfolding mirrored one_line
line_before l t h =
    let s = after_to (λ x. IsPositive (line_at l (turned x))) (mirrored (λ x. IsPositive (line_at l x)) (one_line l)) (turned t) (ahead_to (λ x. IsPositive (line_at l x)) (one_line l) t h) in
    elim s.0 [
      | inl p ↦ inl (positive-same _ _ (turn-at l t) p)
      | inr z ↦ inr (zero_from _ (λ e. sym (turn-at l t e) ∙ at-zero (line_at (turned_line l) (turned t)) e z.0))
    ]

pub before_none_below : (p : Problem) (cell : Cell) → IsProblem p → (t : Time) (v : Normal) → AliveJustBefore p cell t → IsNormal p cell t v → NoneBelow p cell t v
before_none_below p cell well t v h n =
    let a = alive_before p cell t h in
    pairs_map p.supports cell _ _ (λ s i j k c f.
    let l = exact_line p cell (point_at s i) (point_at s c) well a.1.0 a.1.1 in
    either_in_proportion (line_at l.line t) (gap t v (point_at s i) (point_at s c)) v.over l.g v.positive l.positive (l.is t v n)
    (line_before l.line t (h.0, h.1, (λ x b d. line_then p cell well h.0 t h.2 h.1 a.1.0 a.1.1 s i j c k f x b d))))
    (above_then p cell well h.0 t h.2 h.1)

-- ---- none below and not alive: some further point is level
below_or : (n : ℕ) (P Q : ℕ → Type 0) → ((c : ℕ) → P c ⊎ Q c) → ((c : ℕ) → c < n → P c) ⊎ ((c : ℕ) × (c < n) × Q c)
below_or zero P Q f = inl (λ c l. absurd (omega arith))
below_or (suc n) P Q f = elim (below_or n P Q f) [
  | inr q ↦ inr (q.0, omega (arith, q.1), q.2)
  | inl h ↦ elim (f n) [
    | inr q ↦ inr (n, omega arith, q)
    | inl p ↦ inl (λ c l. elim (ℕ_discrete c n) [ yes e ↦ subst P (sym e) p | no m ↦ h c (omega arith) ])
  ]
]

further_or : (s : List Point) (a b : ℕ) (P Q : ℕ → Type 0) → ((c : ℕ) → IsFurther s a b c → P c ⊎ Q c) → ((c : ℕ) → IsFurther s a b c → P c) ⊎ ((c : ℕ) × IsFurther s a b c × Q c)
further_or s a b P Q f = elim (below_or (suc (length s)) (λ c. IsFurther s a b c → P c) (λ c. IsFurther s a b c × Q c) one) [
  | inl h ↦ inl (λ c i. h c (omega (arith, i.1)) i)
  | inr q ↦ inr (q.0, q.2.0, q.2.1)
]
  where
    one : (c : ℕ) → (IsFurther s a b c → P c) ⊎ (IsFurther s a b c × Q c)
    one c = further_cases s a b c
        (λ i. elim (f c i) [ inl p ↦ inl (λ j. p) | inr q ↦ inr (i, q) ])
        (λ n. inl (λ j. absurd (n j)))

pairs_or : (supports : List (List Point)) (cell : Cell) (P Q : Point → Point → Type 0) → EachPair supports cell (λ s a b. (c : ℕ) → IsFurther s a b c → P (point_at s a) (point_at s c) ⊎ Q (point_at s a) (point_at s c))
    → EachPair supports cell (λ s a b. (c : ℕ) → IsFurther s a b c → P (point_at s a) (point_at s c)) ⊎ SomeFurther supports cell Q
pairs_or [] [] P Q e = inl tt
pairs_or [] (x ∷ cell) P Q e = absurd e
pairs_or (s ∷ supports) [] P Q e = absurd e
pairs_or (s ∷ supports) (x ∷ cell) P Q e = elim (further_or s x.0 x.1 (λ c. P (point_at s x.0) (point_at s c)) (λ c. Q (point_at s x.0) (point_at s c)) e.0) [
  | inr q ↦ inr (inl q)
  | inl h ↦ elim (pairs_or supports cell P Q e.1) [ inl k ↦ inl (h, k) | inr q ↦ inr (inr q) ]
]

some_level : (p : Problem) (cell : Cell) (t : Time) (v : Normal) → IsOf p cell → IsIndependent p cell → IsNormal p cell t v → NoneBelow p cell t v → ¬ (IsAlive p cell t) → SomeFurther p.supports cell (λ a c. IsZero (gap t v a c))
some_level p cell t v of ind n below dead = elim (pairs_or p.supports cell (λ a c. IsPositive (gap t v a c)) (λ a c. IsZero (gap t v a c)) below) [
  | inl h ↦ absurd (dead (of, ind, (v, n, h)))
  | inr q ↦ q
]

pub begins_level : (p : Problem) (cell : Cell) → IsProblem p → (t : Time) (v : Normal) → BeginsAt p cell t → IsNormal p cell t v → SomeFurther p.supports cell (λ a c. IsZero (gap t v a c))
begins_level p cell well t v h n = let a = alive_after p cell t h.0 in some_level p cell t v a.1.0 a.1.1 n (after_none_below p cell well t v h.0 n) h.1

pub ends_level : (p : Problem) (cell : Cell) → IsProblem p → (t : Time) (v : Normal) → EndsAt p cell t → IsNormal p cell t v → SomeFurther p.supports cell (λ a c. IsZero (gap t v a c))
ends_level p cell well t v h n = let a = alive_before p cell t h.0 in some_level p cell t v a.1.0 a.1.1 n (before_none_below p cell well t v h.0 n) h.1
