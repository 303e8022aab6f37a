-- what holds at some time holds at all late times or ends; between two times at which it holds it holds
use Rattle.std.proofs.Common.{◌≡◌, ◌⊎◌, List, [], ◌∷◌, arith, inl, inr}
use Rattle.std.proofs.Math.IntN.{ℤ, pos, ◌+ℤ◌, ◌*ℤ◌, neg_ℤ}
use Rattle.wide_int.proofs.Ring.{as_D, Ds, same_D, D-pos}
use Rattle.wide_int.proofs.Order.{sign_cases}
use Rattle.cayley.proofs.Order.Lexicographic.{minus_one}
use Rattle.cayley.proofs.Order.Lines.{Line, line_at, Before, AllPositive, before_trans, zero_of, before_zero, rises, level, middle}
use Rattle.cayley.proofs.Order.Times.{Same, same_sym, time_cases, turned, turned_one, turned_both, turned_back}
use Rattle.cayley.proofs.Order.Lined.{Lined, Ahead, mirrored, ahead_from, ahead_to, after_same, now_same, none_before}
use Rattle.cayley.proofs.Life.Begins.{early_or_begins}
use Rattle.cayley.proofs.Life.Decisions.{lined_cell}
use Rattle.cayley.specs.Times.{Time, IsBefore}
use Rattle.int_vectors.specs.Vectors.{IsPositive, at}
use Rattle.int_vectors.proofs.Entries.{at-scale, at-add, zero_from}
use Rattle.cayley.specs.Problems.{Problem, IsProblem}
use Rattle.cayley.specs.Cells.{Cell}
use Rattle.cayley.specs.Mixed.{IsAlive}
use Rattle.cayley.specs.Lives.{AliveLate, EndsAt}

pub turned_twice : (t : Time) → Same t (turned (turned t))
unfolding turned
turned_twice t = zero_from _ (λ e. simp (at-add, at-scale) (ring t.over (at t.entries e) _ _ (minus_one (at t.entries e)) (minus_one _)))
  where
    ring1 : (q x : ℤ) → q *ℤ neg_ℤ (neg_ℤ x) +ℤ neg_ℤ q *ℤ x ≡ pos 0
    ring1 q x = rw (as_D q, as_D x, D-pos 0) (simp Ds (same_D _ _ _ _ (omega arith)))

    ring : (q x y z : ℤ) → y ≡ neg_ℤ x → z ≡ neg_ℤ y → q *ℤ z +ℤ neg_ℤ q *ℤ x ≡ pos 0
    ring q x y z e f = rw (f, e) (ring1 q x)

abbrev pub Late : (Time → Type 0) → Type 0
Late P = (u : Time) × ((x : Time) → IsBefore u x → P x)

abbrev pub Ends : (Time → Type 0) → Time → Type 0
Ends P t = Ahead P t × ¬ (P t)

pub late_or_ends : (P : Time → Type 0) → Lined P → (x : Time) → P x → Late P ⊎ ((t : Time) × Ends P t × Before x t)
late_or_ends P p x h = elim (early_or_begins (λ t. P (turned t)) (mirrored P p) (turned x) (now_same P p x (turned (turned x)) (turned_twice x) h)) [
  | inl e ↦ inl (turned e.0, λ y b. now_same P p (turned (turned y)) y (same_sym y (turned (turned y)) (turned_twice y)) (e.1 (turned y) (turned_one e.0 y b)))
  | inr b ↦
      let t = b.0 in
      inr (turned t, (ahead_from P p (turned t) (after_same (λ x. P (turned x)) t (turned (turned t)) (turned_twice t) b.1.0), b.1.1), turned_back t x b.2)
]

-- ---- between
line_between : (l : Line) (x m y : Time) → Before x m → Before m y → IsPositive (line_at l x) → IsPositive (line_at l y) → IsPositive (line_at l m)
line_between l x m y a b p q =
    sign_cases l.slope
    (λ n. (before_zero l n m).0 (before_trans m y (zero_of l n) b (inl ((before_zero l n y).1 q))))
    (λ z. level l x m z p)
    (λ r. rises l x m r a (inl p))

lines_between : (ls : List Line) (x m y : Time) → Before x m → Before m y → AllPositive ls x → AllPositive ls y → AllPositive ls m
lines_between [] x m y a b p q = tt
lines_between (l ∷ ls) x m y a b p q = (line_between l x m y a b p.0 q.0, lines_between ls x m y a b p.1 q.1)

pub between : (P : Time → Type 0) → Lined P → (x m y : Time) → Before x m → Before m y → P x → P y → P m
between P p x m y a b h k = p.from m (lines_between p.list x m y a b (p.to x h) (p.to y k))

-- ---- cells
pub cell_ends : (p : Problem) (cell : Cell) → IsProblem p → (x : Time) → IsAlive p cell x → AliveLate p cell ⊎ ((t : Time) × EndsAt p cell t × IsBefore x t)
cell_ends p cell well x h = late_or_ends (IsAlive p cell) (lined_cell p cell well) x h

pub cell_between : (p : Problem) (cell : Cell) → IsProblem p → (x m y : Time) → IsBefore x m → IsBefore m y → IsAlive p cell x → IsAlive p cell y → IsAlive p cell m
cell_between p cell well x m y a b h k = between (IsAlive p cell) (lined_cell p cell well) x m y a b h k

none_after : (P : Time → Type 0) → Lined P → (t x : Time) → Ends P t → Before t x → ¬ (P x)
none_after P p t x h b k =
    none_before (λ y. P (turned y)) (mirrored P p) (turned t) (turned x)
    (ahead_to P p t h.0, (λ q. h.1 (now_same P p (turned (turned t)) t (same_sym t (turned (turned t)) (turned_twice t)) q)))
    (turned_both t x b) (now_same P p x (turned (turned x)) (turned_twice x) k)

pub not_after : (p : Problem) (cell : Cell) → IsProblem p → (t x : Time) → EndsAt p cell t → IsBefore t x → ¬ (IsAlive p cell x)
not_after p cell well t x h b = none_after (IsAlive p cell) (lined_cell p cell well) t x h b

ends_once_by : (P : Time → Type 0) → Lined P → (t u : Time) → Ends P t → Ends P u → ¬ (Before t u)
ends_once_by P p t u h k b =
    let x = middle k.0.0 u k.0.1 in
    time_cases t x.m
    (λ q. none_after P p t x.m h q (k.0.2 x.m x.after x.before))
    (λ s. h.1 (now_same P p x.m t (same_sym t x.m s) (k.0.2 x.m x.after x.before)))
    (λ q. h.1 (k.0.2 t (before_trans k.0.0 x.m t x.after (inl q)) b))

pub ends_once : (P : Time → Type 0) → Lined P → (t u : Time) → Ends P t → Ends P u → Same t u
ends_once P p t u h k = time_cases t u (λ b. absurd (ends_once_by P p t u h k b)) (λ s. s) (λ b. absurd (ends_once_by P p u t k h b))

pub ends_at_once : (p : Problem) (cell : Cell) → IsProblem p → (t u : Time) → EndsAt p cell t → EndsAt p cell u → Same t u
ends_at_once p cell well t u h k = ends_once (IsAlive p cell) (lined_cell p cell well) t u h k
