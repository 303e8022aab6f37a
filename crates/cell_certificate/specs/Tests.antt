-- The tests of a line: its cell after that of the line before, and its normal v over den.
use Rattle.std.specs.Prelude.{◌≡◌, ℕ, List, ℤ, pos, ◌<ℤ◌, Option, None, Some}
use Rattle.reduced_rows.specs.CellRefusals.{IsEliminated}
use Rattle.cayley.specs.Times.{time_zero}
use Rattle.cayley.specs.Problems.{version2, Problem, point_at, unperturbed}
use Rattle.cayley.specs.Cells.{Cell, IsLess}
use Rattle.cayley.specs.Dependencies.{pair_at, IsFurtherAt, nth_support}
use Rattle.cayley.specs.Normals.{Normal, IsNormal, AllAbove}
use Rattle.cayley.specs.Resting.{normal_over, rise}
use Rattle.cayley.specs.Rows.{edge_rows}
use Rattle.inner_normal.specs.Coefficients.{FitsCircuit}

-- the cell is greater than that of the line before, if there is one
abbrev pub Follows : Option Cell → Cell → Type 0
Follows None cell = Unit {0}
Follows (Some before) cell = IsLess before cell

-- v / den makes both points of each pair equal, by their heights without infinitesimals
abbrev pub IsLevelAt : Problem → Cell → List ℤ → ℤ → Type 0
IsLevelAt p cell v den = (positive : pos 0 <ℤ den) × IsNormal (unperturbed p) cell time_zero (normal_over v den positive)

-- every normal of the cell, with the infinitesimals of its problem, has each further point above its support's pair
abbrev pub IsLeast : Problem → Cell → Type 0
IsLeast p cell = (w : Normal) → IsNormal p cell time_zero w → AllAbove p cell time_zero w

-- the sum of point c of support j, which counts from 0
abbrev pub sum_of : Problem → Cell → List ℤ → ℤ → ℕ → ℕ → ℤ
sum_of p cell v den j c = let s = nth_support p.supports j in rise den v (point_at s (pair_at cell j).0) (point_at s c)

-- in version 2 the circuit of each further point whose sum is 0 fits
abbrev pub FitsTies : Problem → Cell → List ℤ → ℤ → Type 0
FitsTies p cell v den = p.version ≡ version2 → (made : List (List ℤ)) → IsEliminated p.dimension (edge_rows p cell) made
    → (j c : ℕ) → IsFurtherAt p cell j c → sum_of p cell v den j c ≡ pos 0 → FitsCircuit p cell j c made
