-- The infinitesimals of a wall line: the numbers of its circuit, by the ranks of the points that they stand at.
use Rattle.std.specs.Prelude.{◌≡◌, ℕ, ◌-◌, List, ℤ, pos, ◌+ℤ◌, ◌*ℤ◌}
use Rattle.int_vectors.specs.Vectors.{at}
use Rattle.lex_height.specs.Entries.{entry}
use Rattle.lex_height.specs.Values.{AreParts}
use Rattle.cayley.specs.Problems.{Problem, Point, point_at}
use Rattle.cayley.specs.Cells.{Cell}
use Rattle.cayley.specs.Dependencies.{Numbers, total, nth_support}
use Rattle.cayley.specs.Normals.{mark}
use Rattle.crossing.specs.declared.line.WallLine.{WallLine}
use Rattle.inner_normal.specs.Coefficients.{difference, coefficients_of, numbers_of}
use Rattle.inner_normal.specs.Inverses.{inverse_of}

-- the circuit of the cell and the further point c of support j, by the cell's reduced rows; supports count from 0 here
abbrev pub circuit_of : Problem → Cell → List (List ℤ) → ℕ → ℕ → Numbers
circuit_of p cell made j c = numbers_of (coefficients_of j (inverse_of made) (difference p cell j c))

-- 1 where the point has this rank, which isn't 0; else 0
abbrev pub has_rank : ℕ → Point → ℤ
has_rank rank x = at (mark (pos 1) x.rank) rank

-- the sum of the numbers of the points that have this rank
abbrev pub sum_of_rank : Numbers → Problem → Cell → Point → ℕ → ℤ
sum_of_rank numbers p cell c rank = total numbers.pairs p.supports cell (has_rank rank) +ℤ numbers.last *ℤ has_rank rank c

-- the line's part of each rank is the sum of the numbers of its circuit's points of that rank; none is zero
abbrev pub HasFine : Problem → Cell → List (List ℤ) → WallLine → Type 0
HasFine p cell made line =
    let j = line.support - 1 in
    let c = point_at (nth_support p.supports j) line.position in
    AreParts 1 line.fine × ((rank : ℕ) → entry line.fine rank ≡ sum_of_rank (circuit_of p cell made j line.position) p cell c rank)
