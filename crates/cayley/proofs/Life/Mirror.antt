-- time turned round: what holds just before a time, and cells that are alive then
use Rattle.std.proofs.Common.{◌≡◌, ℕ, List, [], ◌∷◌, arith, refl, ap, ap₂, subst, inl}
use Rattle.std.proofs.lemmas.Int.{ints}
use Rattle.std.proofs.Math.IntN.{ℤ, pos, ◌*ℤ◌, neg_ℤ}
use Rattle.cayley.proofs.Order.Lexicographic.{positive-same, minus_one}
use Rattle.cayley.proofs.Order.Lines.{Line, line_at, Before, bound}
use Rattle.cayley.proofs.Order.Times.{turned, turned_both}
use Rattle.cayley.proofs.Order.Lined.{turned_line, turn-back, SignBefore, sign_turned}
use Rattle.cayley.proofs.OneCell.CellNormals.{a_normal}
use Rattle.cayley.proofs.OneCell.CellLines.{point_line}
use Rattle.cayley.proofs.Life.Soon.{Soon, soon_pairs, soon_further}
use Rattle.int_vectors.specs.Vectors.{IsPositive, scale}
use Rattle.cayley.specs.Times.{Time}
use Rattle.cayley.specs.Problems.{Point, Problem, point_at, IsProblem}
use Rattle.cayley.specs.Normals.{Normal, gap, IsNormal}
use Rattle.cayley.specs.Cells.{Cell, EachPair, IsOf, IsIndependent, IsFurther}
use Rattle.cayley.specs.Lives.{AliveJustBefore}
use Rattle.cayley.proofs.Lists.Pairs.{pairs_map}

twice : (xs : List ℤ) → scale (neg_ℤ (pos 1)) (scale (neg_ℤ (pos 1)) xs) ≡ xs
twice [] = refl
twice (x ∷ xs) = ap₂ (λ y ys. y ∷ ys) (let a = minus_one x in let b = minus_one (neg_ℤ (pos 1) *ℤ x) in omega (arith, ints, a, b)) (twice xs)

pub turned_is : (t : Time) → turned (turned t) ≡ t
unfolding turned
turned_is t = ap with_entries (twice t.entries)
  where
    with_entries : List ℤ → Time
    with_entries xs = record { entries = xs; over = t.over; positive = t.positive }

-- what holds just after the turned time holds just before
pub record Lately (t : Time) (P : Time → Type 0) : Type 0 where
  pub from : Time
  pub before : Before from t
  pub holds : (x : Time) → Before from x → Before x t → P x

pub lately : (t : Time) (P : Time → Type 0) → Soon (turned t) (λ x. P (turned x)) → Lately t P
lately t P s = record {
  from = turned s.until;
  before = subst (λ u. Before (turned s.until) u) (turned_is t) (turned_both (turned t) s.until s.after);
  holds = λ x a b. subst P (turned_is x) (s.holds (turned x) (turned_both x t b) (subst (λ u. Before (turned x) u) (turned_is s.until) (turned_both (turned s.until) x a)));
}

-- a line of a further point, with its sign just before t
pub record LateAbove (p : Problem) (cell : Cell) (t : Time) (a c : Point) : Type 0 where
  pub line : Line
  pub above : (x : Time) (v : Normal) → IsNormal p cell x v → IsPositive (line_at line x) → IsPositive (gap x v a c)
  pub sign : SignBefore t line

pub late_above_now : (p : Problem) (cell : Cell) (t : Time) (a c : Point) → IsProblem p → IsOf p cell → IsIndependent p cell → (v : Normal) → IsNormal p cell t v → IsPositive (gap t v a c) → LateAbove p cell t a c
late_above_now p cell t a c well of ind v is g =
    let l = point_line p cell a c well of ind in
    record { line = l.line; above = λ x w iw. (l.above x w iw).0; sign = inl ((l.above t v is).1 g) }

abbrev AboveAt : Problem → Cell → Time → Point → Point → Type 0
AboveAt p cell x a c = (v : Normal) → IsNormal p cell x v → IsPositive (gap x v a c)

-- an independent cell is alive just before t if each further point has a line that is positive there, or zero and falling
pub alive_lately : (p : Problem) (cell : Cell) (t : Time) → IsProblem p → IsOf p cell → IsIndependent p cell
    → EachPair p.supports cell (λ s a b. (c : ℕ) → IsFurther s a b c → LateAbove p cell t (point_at s a) (point_at s c)) → AliveJustBefore p cell t
alive_lately p cell t well of ind signs =
    let q = soon_pairs (turned t) p.supports cell (λ x s a b. (c : ℕ) → IsFurther s a b c → AboveAt p cell (turned x) (point_at s a) (point_at s c))
    (pairs_map p.supports cell _ _ (λ s a b h. soon_further (turned t) s a b (λ c x. AboveAt p cell (turned x) (point_at s a) (point_at s c))
    (λ c f. let k = h c f in let d = bound (turned t) (turned_line k.line) (sign_turned t k.line k.sign) in
    record { until = d.until; after = d.after; holds = λ x u w v is. k.above (turned x) v is (positive-same _ _ (turn-back k.line x) (d.holds x u w)) }))
    signs) in
    let s = lately t (λ x. EachPair p.supports cell (λ s a b. (c : ℕ) → IsFurther s a b c → AboveAt p cell x (point_at s a) (point_at s c))) q in (
      s.from,
      s.before,
      λ x from_x before_x.
          let v = a_normal p cell well of ind x in
          (of, ind, (v.0, v.1, pairs_map p.supports cell _ _ (λ s a b h c f. h c f v.0 v.1) (s.holds x from_x before_x))),
    )
