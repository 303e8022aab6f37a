-- The laws of segments.
use Rattle.std.specs.Prelude.{◌≡◌, ◌↔◌, List, ℤ}
use Rattle.cayley.specs.Times.{time_zero}
use Rattle.cayley.specs.Problems.{version1, Problem, IsProblem}
use Rattle.cayley.specs.Files.{File, plain_problem, between_problem}
use Rattle.cayley.specs.Cells.{Cell}
use Rattle.cayley.specs.Mixed.{IsAlive, IsMixedCell}
use Rattle.cayley.specs.Shapes.{AreSecondHeights}
use Rattle.cayley.specs.Valid.{IsValidFile}
use Rattle.searcher.specs.Passes.{time_one, IsReached}
use Rattle.lift_move.specs.Segments.{IsGeneric, second_of}
use Rattle.lift_move.specs.Moves.{AreAll}

-- alive at the start of the segment exactly where it is a mixed cell of the first file
abbrev pub StartLaw : Type 0
StartLaw = (file : File) (second : List (List ℤ)) (cell : Cell) → IsValidFile file → file.version ≡ version1 → AreSecondHeights file second
    → IsAlive (between_problem file second) cell time_zero ↔ IsMixedCell (plain_problem file) cell

-- alive at its end exactly where it is a mixed cell of the second file
abbrev pub EndLaw : Type 0
EndLaw = (file : File) (second : List (List ℤ)) (cell : Cell) → IsValidFile file → file.version ≡ version1 → AreSecondHeights file second
    → IsAlive (between_problem file second) cell time_one ↔ IsMixedCell (plain_problem (second_of file second)) cell

-- along a generic segment, from all cells that are alive at time 0 all that are alive at time 1 are reached
abbrev pub CompleteLaw : Type 0
CompleteLaw = (p : Problem) (given : List Cell) (tau : Cell) → IsProblem p → IsGeneric p → AreAll p given → IsAlive p tau time_one → IsReached p given tau
