-- what is shown as a tie is one
use Rattle.std.proofs.Common.{◌≡◌, ◌⊎◌, ◌-◌, ◌≤◌, Option, None, Some, arith, inl, inr}
use Rattle.cayley.specs.Times.{Time}
use Rattle.cayley.specs.Problems.{Problem, IsProblem}
use Rattle.cayley.specs.Cells.{Cell, IsOf, IsIndependent}
use Rattle.cayley.specs.Normals.{Normal, IsNormal}
use Rattle.cayley.specs.Ties.{TwoLevel, TwiceLevel}
use Rattle.cayley.specs.StoredTies.{Spot, IsEarlier, AreLevel, ShownTieLaw}
use Rattle.cayley.proofs.OneCell.CellNormals.{a_normal}
use Rattle.cayley.proofs.Order.Lines.{next, before_next}

-- two spots in order are two
pub spots_apart : (x y : Spot) → 1 ≤ x.0 → 1 ≤ y.0 → IsEarlier x y → ¬ ((x.0 - 1 ≡ y.0 - 1) × (x.1 ≡ y.1))
spots_apart x y o q (inl l) e = let a = e.0 in omega (arith, o, q, l, a)
spots_apart x y o q (inr l) e = let a = e.1 in let b = l.1 in omega (arith, a, b)

shown_by : (p : Problem) (cell : Cell) (t : Time) (v : Normal) (first : Spot) (second : Option Spot) → IsProblem p → IsOf p cell → IsIndependent p cell → IsNormal p cell t v
    → AreLevel p cell t v first second → TwoLevel p cell t v ⊎ TwiceLevel p cell t v
shown_by p cell t v first None well of ind n h =
    let w = a_normal p cell well of ind (next t) in
    inr (first.0 - 1, first.1, next t, w.0, inl (before_next t), w.1, (h.0.1, h.1 t v n), (h.0.1, h.1 (next t) w.0 w.1))
shown_by p cell t v first (Some second) well of ind n h =
    inl (first.0 - 1, first.1, second.0 - 1, second.1, spots_apart first second h.0.0 h.1.0 h.2, h.0.1, h.1.1)

pub shown_tie_law : ShownTieLaw
shown_tie_law p cell t first second well h =
    let v = h.2 in
    (v.0, (h.0, h.1, v.1, v.2, shown_by p cell t v.0 first second well h.0 h.1 v.1 v.3))
