-- every number of a circuit's working fits where the bounds do
use Rattle.std.proofs.Common.{ℕ, zero, suc, ◌+◌, ◌*◌, ◌<◌, ◌≤◌, ◌^◌, ℤ, pos, unsigned_abs, List, [], ◌∷◌, length, arith}
use Rattle.int_vectors.specs.Vectors.{Each, at}
use Rattle.int_vectors.specs.Bounds.{size, Within}
use Rattle.int_vectors.specs.Fits.{FitsDot}
use Rattle.int_vectors.proofs.BoundSums.{abs_sub, abs_dot, sum_fits}
use Rattle.int_vectors.proofs.BoundRows.{within_weaker}
use Rattle.reduced_rows.specs.Denominators.{lcm_from, FitsShares}
use Rattle.reduced_rows.specs.Solutions.{scaled_column}
use Rattle.reduced_rows.proofs.Outcome.{reduced_means}
use Rattle.cayley.specs.Rows.{edge_rows}
use Rattle.cayley.proofs.OneCell.CellRows.{rows_count, rows_width}
use Rattle.inner_normal.specs.Inverses.{scaled_columns, FitsColumns}
use Rattle.inner_normal.specs.Coefficients.{difference, products, FitsCircuit}
use Rattle.elimination_bound.specs.Bounds.{column_bound}
use Rattle.elimination_bound.proofs.Ahead.{reduced_below, columns_below, solutions_fit_ahead}
use Rattle.elimination_bound.proofs.ByFactors.{fits_by_bounds}
use Rattle.reduced_rows.specs.CellRefusals.{FitsBeyond}
use Rattle.cayley.specs.Problems.{Problem, IsProblem}
use Rattle.cayley.specs.Cells.{Cell, IsOf}
use Rattle.cell_bound.specs.Ranges.{RowsFit}

columns_fit : (n m off l : ℕ) (made : List (List ℤ)) → n ≤ off → ((c : ℕ) → n ≤ c → FitsShares c 0 l made) → FitsColumns m off l made
columns_fit n zero off l made le h = tt
columns_fit n (suc m) off l made le h = (h off le, columns_fit n m (suc off) l made (omega (arith, le)) h)

columns_each : (P : List ℤ → Type 0) (n m off l : ℕ) (made : List (List ℤ)) → n ≤ off → ((c : ℕ) → n ≤ c → P (scaled_column c 0 l made)) → Each (scaled_columns m off l made) P
columns_each P n zero off l made le h = tt
columns_each P n (suc m) off l made le h = (h off le, columns_each P n m (suc off) l made (omega (arith, le)) h)

products_below : (w : ℕ) (v : List ℤ) (columns : List (List ℤ)) (j : ℕ) → Each columns (Within w) → unsigned_abs (at (products v columns) j) ≤ size v * w
products_below w v [] j h = omega arith
products_below w v (x ∷ columns) zero h = abs_dot w v x h.0
products_below w v (x ∷ columns) (suc j) h = products_below w v columns j h.1

all_dots : (w : ℕ) (v : List ℤ) (columns : List (List ℤ)) → size v * w < 2 ^ 127 → Each columns (Within w) → Each columns (FitsDot (pos 0) v)
all_dots w v [] l h = tt
all_dots w v (x ∷ columns) l h = (sum_fits w (pos 0) v x h.0 (omega (arith, l)), all_dots w v columns l h.1)

pub circuit_fits : (p : Problem) (cell : Cell) (j c front further : ℕ) → IsProblem p → IsOf p cell → RowsFit front further p cell
    → size (difference p cell j c) * further + front < 2 ^ 127 → FitsBeyond p.dimension (edge_rows p cell) (FitsCircuit p cell j c)
circuit_fits p cell j c front further well of fits room =
    let n = p.dimension in
    let width = p.dimension + suc (suc p.dimension) in
    let rows = edge_rows p cell in
    let long = rows_width p cell well of in
    let beyond = solutions_fit_ahead p.dimension width (edge_rows p cell) long (fits_by_bounds p.dimension width front further (edge_rows p cell) fits.0 fits.1) in (
      beyond.0,
      (λ made e.
          let count = (reduced_means p.dimension width (edge_rows p cell) made (rows_count p cell well of) long e).count in
          let t = beyond.1 made e in
          let below = reduced_below p.dimension width (edge_rows p cell) made long e in
          let v = difference p cell j c in
          let l = lcm_from 0 1 made in
          let off : p.dimension ≤ length made + 2 = omega (arith, count) in
          let inside = columns_each (Within further) p.dimension (length made) (length made + 2) (lcm_from 0 1 made) made off
          (λ i le. within_weaker (column_bound p.dimension i (edge_rows p cell)) further (scaled_column i 0 (lcm_from 0 1 made) made) (fits.0.1 i le) (columns_below p.dimension width (edge_rows p cell) made long e i le)) in
          let m = products_below further (difference p cell j c) (scaled_columns (length made) (length made + 2) (lcm_from 0 1 made) made) j inside in
          let d = abs_sub (at (products (difference p cell j c) (scaled_columns (length made) (length made + 2) (lcm_from 0 1 made) made)) j) (pos (lcm_from 0 1 made)) in
          let low = below.1 in
          let top = fits.0.0 in (
            (t.0, columns_fit p.dimension (length made) (length made + 2) (lcm_from 0 1 made) made off t.1),
            (all_dots further (difference p cell j c) (scaled_columns (length made) (length made + 2) (lcm_from 0 1 made) made) (omega (arith, room)) inside, omega (arith, m, d, low, top, room)),
          )),
    )
