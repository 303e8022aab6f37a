-- what holds at some time holds at all early times, or begins before at the greatest zero of its rising lines
use Rattle.std.proofs.Common.{◌⊎◌, List, [], ◌∷◌, arith, refl, sym, inl, inr, ◌<ℤ◌}
use Rattle.std.proofs.lemmas.Int.{ints}
use Rattle.std.proofs.Math.IntN.{ℤ, pos, *ℤ-zero}
use Rattle.wide_int.proofs.Order.{sign_cases}
use Rattle.cayley.proofs.Order.Lexicographic.{positive-same, positive-unscale}
use Rattle.cayley.proofs.Order.Lines.{Line, line_at, later, Before, NotNegative, AllPositive, SignAfter, before_trans, zero_of, before_zero, rises, level}
use Rattle.cayley.proofs.Searching.Listing.{Has}
use Rattle.cayley.proofs.Order.Times.{same_sym, same_trans, time_cases, same_before}
use Rattle.cayley.proofs.Order.Lined.{Lined, Early, Begins, SignEarly, after_from, rise_of, at_rise, own_zero, each_has, early_from, flat-at}
use Rattle.cayley.proofs.Life.Decisions.{lined_cell}
use Rattle.int_vectors.specs.Vectors.{Each, IsPositive}
use Rattle.int_vectors.proofs.Entries.{not_zero}
use Rattle.cayley.specs.Times.{Time, IsBefore}
use Rattle.cayley.specs.Problems.{Problem, IsProblem}
use Rattle.cayley.specs.Cells.{Cell}
use Rattle.cayley.specs.Mixed.{IsAlive}
use Rattle.cayley.specs.Lives.{AliveEarly, BeginsAt}
use Rattle.cayley.proofs.Order.Zeros.{zero_before, zero_there}

-- ---- the greatest zero of the rising lines
-- every rising line has its zero at t or before
abbrev pub RisenBy : Time → Line → Type 0
RisenBy t l = (r : pos 0 <ℤ l.slope) → NotNegative (later (rise_of l r) t)

pub record LastRise (ls : List Line) : Type 0 where
  pub line : Line
  pub one : Has line ls
  pub rise : pos 0 <ℤ line.slope
  pub others : Each ls (RisenBy (rise_of line rise))

not_after : (t u v : Time) → NotNegative (later t u) → NotNegative (later u v) → NotNegative (later t v)
not_after t u v (inl p) q = inl (before_trans t u v p q)
not_after t u v (inr s) (inl q) = inl (same_before u t v (same_sym t u s) q)
not_after t u v (inr s) (inr q) = inr (same_trans t u v s q)

risen_later : (ls : List Line) (t u : Time) → NotNegative (later t u) → Each ls (RisenBy t) → Each ls (RisenBy u)
risen_later [] t u h e = tt
risen_later (l ∷ ls) t u h e = ((λ r. not_after (rise_of l r) t u (e.0 r) h), risen_later ls t u h e.1)

own_risen : (l : Line) (r : pos 0 <ℤ l.slope) → RisenBy (rise_of l r) l
own_risen l r q = inr (at_rise l r (rise_of l q) (own_zero l q))

by_risen : (l : Line) (r : pos 0 <ℤ l.slope) (t : Time) → NotNegative (later (rise_of l r) t) → RisenBy t l
by_risen l r t h q = not_after (rise_of l q) (rise_of l r) t (own_risen l r q) h

none_risen : (t : Time) (ls : List Line) → Each ls (λ l. ¬ (pos 0 <ℤ l.slope)) → Each ls (RisenBy t)
none_risen t [] e = tt
none_risen t (k ∷ ls) e = ((λ q. absurd (e.0 q)), none_risen t ls e.1)

add_flat : (l : Line) (ls : List Line) → ¬ (pos 0 <ℤ l.slope) → LastRise ls ⊎ Each ls (λ l. ¬ (pos 0 <ℤ l.slope)) → LastRise (l ∷ ls) ⊎ Each (l ∷ ls) (λ l. ¬ (pos 0 <ℤ l.slope))
add_flat l ls n (inl m) = inl (record { line = m.line; one = inr m.one; rise = m.rise; others = ((λ r. absurd (n r)), m.others) })
add_flat l ls n (inr e) = inr (n, e)

add_rising : (l : Line) (ls : List Line) (r : pos 0 <ℤ l.slope) → LastRise ls ⊎ Each ls (λ l. ¬ (pos 0 <ℤ l.slope)) → LastRise (l ∷ ls)
add_rising l ls r (inr e) = record { line = l; one = inl refl; rise = r; others = (own_risen l r, none_risen (rise_of l r) ls e) }
add_rising l ls r (inl m) =
    time_cases (rise_of l r) (rise_of m.line m.rise)
    (λ b. record { line = m.line; one = inr m.one; rise = m.rise; others = (by_risen l r (rise_of m.line m.rise) (inl b), m.others) })
    (λ s. record { line = m.line; one = inr m.one; rise = m.rise; others = (by_risen l r (rise_of m.line m.rise) (inr s), m.others) })
    (λ b. record { line = l; one = inl refl; rise = r; others = (own_risen l r, risen_later ls (rise_of m.line m.rise) (rise_of l r) (inl b) m.others) })

pub last_rise : (ls : List Line) → LastRise ls ⊎ Each ls (λ l. ¬ (pos 0 <ℤ l.slope))
last_rise [] = inr tt
last_rise (l ∷ ls) =
    sign_cases l.slope
    (λ n. add_flat l ls (λ r. omega (arith, ints)) (last_rise ls))
    (λ n. add_flat l ls (λ r. omega (arith, ints)) (last_rise ls))
    (λ r. inl (add_rising l ls r (last_rise ls)))

-- ---- from a time at which all are positive
-- positive at x and no zero after t, which is before x: the sign just after t
sign_after : (l : Line) (t x : Time) → Before t x → IsPositive (line_at l x) → RisenBy t l → SignAfter t l
sign_after l t x b p h =
    sign_cases l.slope
    (λ n. inl ((before_zero l n t).0 (before_trans t x (zero_of l n) b (inl ((before_zero l n x).1 p)))))
    (λ z. inl (level l x t z p))
    (λ r. elim (h r) [
      | inl q ↦ inl (rises l (rise_of l r) t r q (inr (own_zero l r)))
      | inr s ↦ inr (zero_there l (rise_of l r) t s (own_zero l r), r)
    ])

signs_after : (ls : List Line) (t x : Time) → Before t x → AllPositive ls x → Each ls (RisenBy t) → Each ls (SignAfter t)
signs_after [] t x b p h = tt
signs_after (l ∷ ls) t x b p h = (sign_after l t x b p.0 h.0, signs_after ls t x b p.1 h.1)

sign_early_at : (l : Line) (x : Time) → ¬ (pos 0 <ℤ l.slope) → IsPositive (line_at l x) → SignEarly l
sign_early_at l x n p = sign_cases l.slope inl (λ z. inr (z, positive-unscale x.over l.start x.positive (positive-same _ _ (λ e. sym (flat-at l x z e)) p))) (λ r. absurd (n r))

pub signs_early_at : (ls : List Line) (x : Time) → Each ls (λ l. ¬ (pos 0 <ℤ l.slope)) → AllPositive ls x → Each ls SignEarly
signs_early_at [] x n p = tt
signs_early_at (l ∷ ls) x n p = (sign_early_at l x n.0 p.0, signs_early_at ls x n.1 p.1)

-- the time is the greatest zero of the rising lines
pub begins_last : (P : Time → Type 0) (p : Lined P) (x : Time) → P x → (m : LastRise p.list) → Begins P (rise_of m.line m.rise) × Before (rise_of m.line m.rise) x
begins_last P p x h m =
    let t = rise_of m.line m.rise in
    let b = zero_before m.line m.rise x (each_has (λ l. IsPositive (line_at l x)) p.list m.line (p.to x h) m.one) in (
      (
        after_from P p t (signs_after p.list t x b (p.to x h) m.others),
        (λ k. not_zero (line_at m.line t) (each_has (λ l. IsPositive (line_at l t)) p.list m.line (p.to t k) m.one) (own_zero m.line m.rise)),
      ),
      b,
    )

pub early_or_begins : (P : Time → Type 0) → Lined P → (x : Time) → P x → Early P ⊎ ((t : Time) × Begins P t × Before t x)
early_or_begins P p x h = elim (last_rise p.list) [
  | inr none ↦ inl (early_from P p (signs_early_at p.list x none (p.to x h)))
  | inl m ↦ let b = begins_last P p x h m in inr (rise_of m.line m.rise, b.0, b.1)
]

-- ---- cells
pub cell_begins : (p : Problem) (cell : Cell) → IsProblem p → (x : Time) → IsAlive p cell x → AliveEarly p cell ⊎ ((t : Time) × BeginsAt p cell t × IsBefore t x)
cell_begins p cell well x h = early_or_begins (IsAlive p cell) (lined_cell p cell well) x h
