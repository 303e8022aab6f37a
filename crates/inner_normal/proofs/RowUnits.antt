-- the unit vectors at the end of a cell's rows
use Rattle.std.proofs.Common.{◌≡◌, ℕ, zero, suc, ◌+◌, ◌<◌, ◌≤◌, List, [], ◌∷◌, ◌++◌, length, arith, refl, ap, ◌∙◌, replicate}
use Rattle.std.proofs.Math.IntN.{ℤ, pos, ◌-ℤ◌}
use Rattle.int_vectors.specs.Vectors.{at, sub}
use Rattle.reduced_rows.specs.Carried.{unit, HaveUnits}
use Rattle.cayley.specs.Problems.{Point, Problem, IsProblem, point_at}
use Rattle.cayley.specs.Cells.{Cell, EachPair, IsOf}
use Rattle.cayley.specs.Rows.{unit_row, edge_rows_from, edge_rows}
use Rattle.cayley.proofs.OneCell.CellRows.{HaveLength, InRange, edge_long}

pub at-past : (xs ys : List ℤ) (m k : ℕ) → m ≡ length xs + k → at (xs ++ ys) m ≡ at ys k
at-past [] ys m k e = let f : m ≡ k = omega (arith, e) in ap (at ys) f
at-past (x ∷ xs) ys zero k e = absurd (omega (arith, e))
at-past (x ∷ xs) ys (suc m) k e = at-past xs ys m k (omega (arith, e))

at-zeros : (n k : ℕ) → at (replicate n (pos 0)) k ≡ pos 0
at-zeros zero k = refl
at-zeros (suc n) zero = refl
at-zeros (suc n) (suc k) = at-zeros n k

at-unit_row : (n i k : ℕ) → i < n → at (unit_row n i) k ≡ unit i k
at-unit_row zero i k l = absurd (omega (arith, l))
at-unit_row (suc n) zero zero l = refl
at-unit_row (suc n) zero (suc k) l = at-zeros n k
at-unit_row (suc n) (suc i) zero l = refl
at-unit_row (suc n) (suc i) (suc k) l = at-unit_row n i k (omega (arith, l))

rows_from_units : (n i : ℕ) (supports : List (List Point)) (cell : Cell) → HaveLength n supports → EachPair supports cell InRange → i + length supports ≤ n → HaveUnits (n + 2) i (edge_rows_from n i supports cell)
rows_from_units n i [] cell well of l = tt
rows_from_units n i (s ∷ supports) [] well of l = tt
rows_from_units n i (s ∷ supports) (x ∷ cell) well of l =
    let a = point_at s x.0 in
    let b = point_at s x.1 in (
      (λ k.
          at-past (sub b.coordinates a.coordinates) ((b.base -ℤ a.base) ∷ (b.speed -ℤ a.speed) ∷ unit_row n i) (n + 2 + k) (suc (suc k)) (let e = edge_long n s x.0 x.1 of.0 well.0 in omega (arith, e))
          ∙ at-unit_row n i k (omega (arith, l))),
      rows_from_units n (suc i) supports cell well.1 of.1 (omega (arith, l)),
    )

pub rows_units : (p : Problem) (cell : Cell) → IsProblem p → IsOf p cell → HaveUnits (p.dimension + 2) 0 (edge_rows p cell)
rows_units p cell well of = rows_from_units p.dimension 0 p.supports cell well.points of (let e = well.supports in omega (arith, e))
