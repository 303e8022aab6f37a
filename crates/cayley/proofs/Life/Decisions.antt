-- for a cell and a time: of the problem, independent, alive, alive just before, just after, at all early times; where it begins
use Rattle.std.proofs.Common.{◌≡◌, ◌⊎◌, ℕ, List, [], ◌∷◌, length, arith, ◌∙◌, inl, inr}
use Rattle.std.proofs.lemmas.Int.{ints}
use Rattle.std.proofs.Math.IntN.{ℤ, pos}
use native.Mathlib.Decide.{dec_le, dec_lt}
use Rattle.cayley.proofs.Algebra.Kernel.{Kills}
use Rattle.cayley.proofs.OneCell.CellNormals.{kills_to, a_normal, length-edges}
use Rattle.cayley.proofs.Algebra.Deciding.{decide_independent}
use Rattle.cayley.proofs.OneCell.CellLines.{point_line}
use Rattle.cayley.proofs.Order.Times.{Same, sooner}
use Rattle.cayley.proofs.Order.Lined.{Lined, lined_map, lined_further, lined_pairs, dec_now, dec_after, dec_ahead, dec_early, dec_begins, find_begin, begins_once}
use Rattle.int_vectors.specs.Vectors.{IsZero, IsPositive, scale, sub, dot}
use Rattle.int_vectors.proofs.Entries.{not_zero}
use Rattle.cayley.specs.Times.{Time}
use Rattle.cayley.specs.Problems.{Point, Problem, point_at, IsProblem}
use Rattle.cayley.specs.Normals.{Normal, gap, IsNormal}
use Rattle.cayley.specs.Cells.{Cell, EachPair, IsOf, IsIndependent, IsFurther}
use Rattle.cayley.specs.Mixed.{IsAlive}
use Rattle.cayley.specs.Lives.{AliveJustAfter, AliveJustBefore, AliveEarly, BeginsAt}
use Rattle.cayley.specs.Rows.{edges}
use Rattle.cayley.proofs.Order.Lines.{middle}
use Rattle.cayley.proofs.Lists.Pairs.{pairs_map}

-- ---- of the problem
pub dec_pairs : (supports : List (List Point)) (cell : Cell) (P : List Point → ℕ → ℕ → Type 0) → ((s : List Point) (a b : ℕ) → Dec (P s a b)) → Dec (EachPair supports cell P)
dec_pairs [] [] P dec = yes tt
dec_pairs [] (x ∷ cell) P dec = no (λ e. e)
dec_pairs (s ∷ supports) [] P dec = no (λ e. e)
dec_pairs (s ∷ supports) (x ∷ cell) P dec = elim (dec s x.0 x.1) [
  | no n ↦ no (λ e. n e.0)
  | yes p ↦ elim (dec_pairs supports cell P dec) [ no n ↦ no (λ e. n e.1) | yes q ↦ yes (p, q) ]
]

pub dec_of : (p : Problem) (cell : Cell) → Dec (IsOf p cell)
dec_of p cell = dec_pairs p.supports cell _ (λ s a b. elim (dec_le 1 a) [
  | no n ↦ no (λ e. n e.0)
  | yes i ↦ elim (dec_lt a b) [
    | no n ↦ no (λ e. n e.1)
    | yes j ↦ elim (dec_le b (length s)) [ no n ↦ no (λ e. n e.2) | yes k ↦ yes (i, j, k) ]
  ]
])

-- ---- independent
pub kills_of : (supports : List (List Point)) (cell : Cell) (v : List ℤ)
    → EachPair supports cell (λ s a b. dot (sub (point_at s b).coordinates (point_at s a).coordinates) v ≡ pos 0) → Kills (edges supports cell) v
kills_of [] cell v e = tt
kills_of (s ∷ supports) [] v e = tt
kills_of (s ∷ supports) (x ∷ cell) v e = (e.0, kills_of supports cell v e.1)

pub dec_independent : (p : Problem) (cell : Cell) → IsProblem p → IsOf p cell → Dec (IsIndependent p cell)
dec_independent p cell well of = elim (decide_independent p.dimension (edges p.supports cell) (length-edges p.supports cell _ of ∙ well.supports)) [
  | inl k ↦ no (λ ind. k.some (ind k.v k.long (kills_to p.supports cell k.v _ of k.kills)))
  | inr i ↦ yes (λ v l e. i v l (kills_of p.supports cell v e))
]

-- ---- alive, as finitely many lines
abbrev AboveAt : Problem → Cell → Time → Point → Point → Type 0
AboveAt p cell t a c = (v : Normal) → IsNormal p cell t v → IsPositive (gap t v a c)

-- a fact for each pair, whatever it is
pub each_pair : (supports : List (List Point)) (cell : Cell) (Q P : List Point → ℕ → ℕ → Type 0) → EachPair supports cell Q → ((s : List Point) (a b : ℕ) → P s a b) → EachPair supports cell P
each_pair supports cell Q P e f = pairs_map supports cell Q P (λ s a b q. f s a b) e

module _ (p : Problem) (cell : Cell) (well : IsProblem p) (of : IsOf p cell) (ind : IsIndependent p cell) where
  one_point : (a c : Point) → Lined (λ t. AboveAt p cell t a c)
  one_point a c =
      let l = point_line p cell a c well of ind in
      record {
        list = l.line ∷ [];
        to = λ t h. let v = a_normal p cell well of ind t in ((l.above t v.0 v.1).1 (h v.0 v.1), tt);
        from = λ t h v is. (l.above t v is).0 h.0;
      }

  pub lined_alive : Lined (IsAlive p cell)
  lined_alive =
      lined_map (λ t. EachPair p.supports cell (λ s a b. (c : ℕ) → IsFurther s a b c → AboveAt p cell t (point_at s a) (point_at s c))) (IsAlive p cell)
      (λ t h. let v = a_normal p cell well of ind t in (of, ind, (v.0, v.1, pairs_map p.supports cell _ _ (λ s a b k c f. k c f v.0 v.1) h)))
      (λ t h. pairs_map p.supports cell _ _ (λ s a b k c f v is.
      let l = point_line p cell (point_at s a) (point_at s c) well of ind in
      (l.above t v is).0 ((l.above t h.2.0 h.2.1).1 (k c f))) h.2.2)
      (lined_pairs p.supports cell (λ t s a b. (c : ℕ) → IsFurther s a b c → AboveAt p cell t (point_at s a) (point_at s c))
      (each_pair p.supports cell _ _ of (λ s a b. lined_further s a b (λ c t. AboveAt p cell t (point_at s a) (point_at s c)) (λ c f. one_point (point_at s a) (point_at s c)))))

times_zero : (xs : List ℤ) → IsZero (scale (pos 0) xs)
times_zero [] = tt
times_zero (x ∷ xs) = (omega (arith, ints), times_zero xs)

pub lined_never : (P : Time → Type 0) → ((t : Time) → ¬ (P t)) → Lined P
lined_never P n = record {
  list = record { start = []; slope = pos 0 } ∷ [];
  to = λ t h. absurd (n t h);
  from = λ t h. absurd (not_zero (scale (pos 0) t.entries) h.0 (times_zero t.entries));
}

pub lined_cell : (p : Problem) (cell : Cell) → IsProblem p → Lined (IsAlive p cell)
lined_cell p cell well = elim (dec_of p cell) [
  | no n ↦ lined_never (IsAlive p cell) (λ t h. n h.0)
  | yes of ↦ elim (dec_independent p cell well of) [
    | no n ↦ lined_never (IsAlive p cell) (λ t h. n h.1)
    | yes ind ↦ lined_alive p cell well of ind
  ]
]

-- ---- the law: computed
module _ (p : Problem) (cell : Cell) (well : IsProblem p) where
  pub dec_alive : (t : Time) → Dec (IsAlive p cell t)
  dec_alive t = dec_now (IsAlive p cell) (lined_cell p cell well) t

  pub dec_just_after : (t : Time) → Dec (AliveJustAfter p cell t)
  dec_just_after t = dec_after (IsAlive p cell) (lined_cell p cell well) t

  pub dec_just_before : (t : Time) → Dec (AliveJustBefore p cell t)
  dec_just_before t = dec_ahead (IsAlive p cell) (lined_cell p cell well) t

  pub dec_alive_early : Dec (AliveEarly p cell)
  dec_alive_early = dec_early (IsAlive p cell) (lined_cell p cell well)

  pub dec_begins_at : (t : Time) → Dec (BeginsAt p cell t)
  dec_begins_at t = dec_begins (IsAlive p cell) (lined_cell p cell well) t

  pub find_begins : ((t : Time) × BeginsAt p cell t) ⊎ ((t : Time) → ¬ (BeginsAt p cell t))
  find_begins = find_begin (IsAlive p cell) (lined_cell p cell well)

  pub begins_at_once : (t u : Time) → BeginsAt p cell t → BeginsAt p cell u → Same t u
  begins_at_once t u h k = begins_once (IsAlive p cell) (lined_cell p cell well) t u h k

-- what is alive just after or just before a time, or early, is alive at some time
pub alive_after : (p : Problem) (cell : Cell) (t : Time) → AliveJustAfter p cell t → (x : Time) × IsAlive p cell x
alive_after p cell t h = let m = middle t h.0 h.1 in (m.m, h.2 m.m m.after m.before)

pub alive_before : (p : Problem) (cell : Cell) (t : Time) → AliveJustBefore p cell t → (x : Time) × IsAlive p cell x
alive_before p cell t h = let m = middle h.0 t h.1 in (m.m, h.2 m.m m.after m.before)

pub alive_early : (p : Problem) (cell : Cell) → AliveEarly p cell → (x : Time) × IsAlive p cell x
alive_early p cell h = let m = sooner h.0 in (m.u, h.1 m.u m.before)
