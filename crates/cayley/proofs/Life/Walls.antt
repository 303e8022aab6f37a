-- the lines of all further points of an independent cell: it is alive exactly where all are positive
use Rattle.std.proofs.Common.{◌⊎◌, ◌↔◌, ℕ, List, [], ◌∷◌, refl, inl, inr, ◌<ℤ◌}
use Rattle.std.proofs.Math.IntN.{pos}
use Rattle.cayley.proofs.Order.Lines.{Line, line_at, AllPositive, zero_of}
use Rattle.cayley.proofs.OneCell.CellNormals.{a_normal}
use Rattle.cayley.proofs.Searching.Listing.{Has}
use Rattle.cayley.proofs.Order.Times.{Same}
use Rattle.cayley.proofs.Order.Lined.{Lined, rise_of, each_has}
use Rattle.cayley.proofs.Life.Begins.{LastRise}
use Rattle.cayley.proofs.Life.Crossings.{FirstFall, early_rule, begins_rule, ends_rule, late_rule}
use Rattle.int_vectors.specs.Vectors.{IsPositive, Each}
use Rattle.cayley.specs.Times.{Time, IsBefore}
use Rattle.cayley.specs.Problems.{Point, Problem, point_at, IsProblem}
use Rattle.cayley.specs.Normals.{Normal, gap, IsNormal}
use Rattle.cayley.specs.Cells.{Cell, EachPair, IsOf, IsIndependent, IsFurther}
use Rattle.cayley.specs.Mixed.{IsAlive}
use Rattle.cayley.specs.Lives.{AliveEarly, BeginsAt, AliveLate, EndsAt}
use Rattle.cayley.proofs.Lists.Pairs.{pairs_map}

-- the line is positive exactly where the point c is above
abbrev pub TellsAbove : Problem → Cell → Point → Point → Line → Type 0
TellsAbove p cell a c l = (t : Time) (v : Normal) → IsNormal p cell t v → IsPositive (line_at l t) ↔ IsPositive (gap t v a c)

-- P holds of some further point and its pair
abbrev pub SomeFurther : List (List Point) → Cell → (Point → Point → Type 0) → Type 0
SomeFurther [] cell P = ⊥
SomeFurther (s ∷ supports) [] P = ⊥
SomeFurther (s ∷ supports) (x ∷ cell) P = ((c : ℕ) × IsFurther s x.0 x.1 c × P (point_at s x.0) (point_at s c)) ⊎ SomeFurther supports cell P

pub record IsWalls (p : Problem) (cell : Cell) (ls : List Line) : Type 0 where
  pub sound : (l : Line) → Has l ls → SomeFurther p.supports cell (λ a c. TellsAbove p cell a c l)
  pub all : EachPair p.supports cell (λ s a b. (c : ℕ) → IsFurther s a b c → (l : Line) × Has l ls × TellsAbove p cell (point_at s a) (point_at s c) l)

meet : {R : Type 0} (supports : List (List Point)) (cell : Cell) (P Q : Point → Point → Type 0) → SomeFurther supports cell P
    → EachPair supports cell (λ s a b. (c : ℕ) → IsFurther s a b c → Q (point_at s a) (point_at s c)) → ((a c : Point) → P a c → Q a c → R) → R
meet [] cell P Q h e f = absurd h
meet (s ∷ supports) [] P Q h e f = absurd h
meet (s ∷ supports) (x ∷ cell) P Q (inl h) e f = f (point_at s x.0) (point_at s h.0) h.2 (e.0 h.0 h.1)
meet (s ∷ supports) (x ∷ cell) P Q (inr h) e f = meet supports cell P Q h e.1 f

each_line : (P : Line → Type 0) (ls : List Line) → ((l : Line) → Has l ls → P l) → Each ls P
each_line P [] f = tt
each_line P (l ∷ ls) f = (f l (inl refl), each_line P ls (λ k h. f k (inr h)))

module _ (p : Problem) (cell : Cell) (well : IsProblem p) (of : IsOf p cell) (ind : IsIndependent p cell) (ls : List Line) (walls : IsWalls p cell ls) where
  walls_to : (t : Time) → IsAlive p cell t → AllPositive ls t
  walls_to t h = each_line (λ l. IsPositive (line_at l t)) ls (λ l i.
      meet p.supports cell (λ a c. TellsAbove p cell a c l) (λ a c. IsPositive (gap t h.2.0 a c)) (walls.sound l i) h.2.2 (λ a c tells g. (tells t h.2.0 h.2.1).1 g))

  walls_from : (t : Time) → AllPositive ls t → IsAlive p cell t
  walls_from t h =
      let v = a_normal p cell well of ind t in
      (of, ind, (v.0, v.1, pairs_map p.supports cell _ _ (λ s a b k c f. let q = k c f in (q.2 t v.0 v.1).0 (each_has (λ l. IsPositive (line_at l t)) ls q.0 h q.1)) walls.all))

  pub lined_walls : Lined (IsAlive p cell)
  lined_walls = record { list = ls; to = walls_to; from = walls_from }

  -- never alive exactly where no time makes all lines positive
  pub dead_rule : ((t : Time) → ¬ (AllPositive ls t)) ↔ ((t : Time) → ¬ (IsAlive p cell t))
  dead_rule = ((λ n t a. n t (walls_to t a)), (λ n t h. n t (walls_from t h)))

  pub walls_early : Each ls (λ l. ¬ (pos 0 <ℤ l.slope)) → (x : Time) → AllPositive ls x → AliveEarly p cell
  walls_early none x h = early_rule (IsAlive p cell) (record { list = ls; to = walls_to; from = walls_from }) none x (walls_from x h)

  pub walls_begin : (m : LastRise ls) (t : Time) → Same t (rise_of m.line m.rise) → (x : Time) → AllPositive ls x → BeginsAt p cell t
  walls_begin m t s x h = begins_rule (IsAlive p cell) (record { list = ls; to = walls_to; from = walls_from }) m t s x (walls_from x h)

  pub walls_end : (m : FirstFall ls) (x : Time) → AllPositive ls x → EndsAt p cell (zero_of m.line m.fall) × IsBefore x (zero_of m.line m.fall)
  walls_end m x h = ends_rule (IsAlive p cell) (record { list = ls; to = walls_to; from = walls_from }) m x (walls_from x h)

  pub walls_late : Each ls (λ l. ¬ (l.slope <ℤ pos 0)) → (x : Time) → AllPositive ls x → AliveLate p cell
  walls_late none x h = late_rule (IsAlive p cell) (record { list = ls; to = walls_to; from = walls_from }) none x (walls_from x h)
