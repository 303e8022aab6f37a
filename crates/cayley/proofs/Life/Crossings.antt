-- the rules on lines that give where a cell begins and ends
use Rattle.std.proofs.Common.{List, [], ◌∷◌, inl, ◌<ℤ◌}
use Rattle.std.proofs.Math.IntN.{pos}
use Rattle.wide_int.proofs.Order.{sign_cases}
use Rattle.cayley.proofs.Order.Lines.{Line, line_at, later, Before, NotNegative, AllPositive, before_trans, zero_of, before_zero, rises, level}
use Rattle.cayley.proofs.Searching.Listing.{Has}
use Rattle.cayley.proofs.Order.Times.{Same, same_sym, never_before}
use Rattle.cayley.proofs.Order.Lined.{Lined, Early, Begins, early_from, rise_of, each_has, begins_same}
use Rattle.cayley.proofs.Life.Begins.{LastRise, begins_last, signs_early_at}
use Rattle.cayley.proofs.Life.Ends.{Late, Ends}
use Rattle.int_vectors.specs.Vectors.{Each, IsPositive}
use Rattle.cayley.specs.Times.{Time}

-- ---- the entry
-- no line rises, and all are positive at some time: at all early times
pub early_rule : (P : Time → Type 0) (p : Lined P) → Each p.list (λ l. ¬ (pos 0 <ℤ l.slope)) → (x : Time) → P x → Early P
early_rule P p none x h = early_from P p (signs_early_at p.list x none (p.to x h))

-- t is the zero of a rising line, and no rising line has its zero later
pub begins_rule : (P : Time → Type 0) (p : Lined P) (m : LastRise p.list) (t : Time) → Same t (rise_of m.line m.rise) → (x : Time) → P x → Begins P t
begins_rule P p m t s x h = begins_same P p (rise_of m.line m.rise) t (same_sym t (rise_of m.line m.rise) s) (begins_last P p x h m).0

-- ---- the exit
abbrev pub FallsFrom : Time → Line → Type 0
FallsFrom t l = (n : l.slope <ℤ pos 0) → NotNegative (later t (zero_of l n))

pub record FirstFall (ls : List Line) : Type 0 where
  pub line : Line
  pub one : Has line ls
  pub fall : line.slope <ℤ pos 0
  pub others : Each ls (FallsFrom (zero_of line fall))

-- from x, at which a line is positive, up to t: positive
line_until : (l : Line) (x t y : Time) → IsPositive (line_at l x) → FallsFrom t l → Before x y → Before y t → IsPositive (line_at l y)
line_until l x t y p f a b =
    sign_cases l.slope
    (λ n. (before_zero l n y).0 (before_trans y t (zero_of l n) b (f n)))
    (λ z. level l x y z p)
    (λ r. rises l x y r a (inl p))

lines_until : (ls : List Line) (x t y : Time) → AllPositive ls x → Each ls (FallsFrom t) → Before x y → Before y t → AllPositive ls y
lines_until [] x t y p f a b = tt
lines_until (l ∷ ls) x t y p f a b = (line_until l x t y p.0 f.0 a b, lines_until ls x t y p.1 f.1 a b)

fall_zero : (l : Line) (n : l.slope <ℤ pos 0) → ¬ (IsPositive (line_at l (zero_of l n)))
fall_zero l n p = never_before (zero_of l n) ((before_zero l n (zero_of l n)).1 p)

-- the least zero of the falling lines, and all are positive at some time: it ends there
pub ends_rule : (P : Time → Type 0) (p : Lined P) (m : FirstFall p.list) (x : Time) → P x → Ends P (zero_of m.line m.fall) × Before x (zero_of m.line m.fall)
ends_rule P p m x h =
    let t = zero_of m.line m.fall in
    let b = (before_zero m.line m.fall x).1 (each_has (λ l. IsPositive (line_at l x)) p.list m.line (p.to x h) m.one) in
    (((x, b, λ y a c. p.from y (lines_until p.list x t y (p.to x h) m.others a c)), (λ k. fall_zero m.line m.fall (each_has (λ l. IsPositive (line_at l t)) p.list m.line (p.to t k) m.one))), b)

line_on : (l : Line) (x y : Time) → IsPositive (line_at l x) → ¬ (l.slope <ℤ pos 0) → Before x y → IsPositive (line_at l y)
line_on l x y p f a = sign_cases l.slope (λ n. absurd (f n)) (λ z. level l x y z p) (λ r. rises l x y r a (inl p))

lines_on : (ls : List Line) (x y : Time) → AllPositive ls x → Each ls (λ l. ¬ (l.slope <ℤ pos 0)) → Before x y → AllPositive ls y
lines_on [] x y p f a = tt
lines_on (l ∷ ls) x y p f a = (line_on l x y p.0 f.0 a, lines_on ls x y p.1 f.1 a)

-- no line falls: at all late times
pub late_rule : (P : Time → Type 0) (p : Lined P) → Each p.list (λ l. ¬ (l.slope <ℤ pos 0)) → (x : Time) → P x → Late P
late_rule P p none x h = (x, λ y a. p.from y (lines_on p.list x y (p.to x h) none a))
