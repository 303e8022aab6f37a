-- The wall line of a pair's own second point, which no working has but the checker of a listing forms.
use Rattle.std.specs.Prelude.{◌≡◌, List, Ok, ℤ}
use Rattle.reduced_rows.specs.Steps.{elimination}
use Rattle.cayley.specs.Problems.{Problem, point_at}
use Rattle.cayley.specs.Files.{File}
use Rattle.cayley.specs.Paths.{path}
use Rattle.cayley.specs.Cells.{Cell, EachPair, IsOf}
use Rattle.cayley.specs.Rows.{edge_rows}
use Rattle.cayley.specs.Valid.{IsValidFile}
use Rattle.cone_walls.specs.Numbers.{FitsWall}
use Rattle.cone_walls.specs.Workings.{normal_of_rows}
use Rattle.cell_bound.specs.Quiet.{IsQuiet}

-- the numbers of that line fit for each pair, under the normal that the elimination gives
abbrev pub FitOwnLines : Problem → Cell → Type 0
FitOwnLines p cell = (made : List (List ℤ)) → elimination p.dimension (edge_rows p cell) ≡ Ok made
    → EachPair p.supports cell (λ s a b. FitsWall (normal_of_rows made) (point_at s a) (point_at s b))

-- they do on the path of a small file
abbrev pub QuietOwnLaw : Type 0
QuietOwnLaw = (file : File) → IsValidFile file → IsQuiet file → (cell : Cell) → IsOf (path file) cell → FitOwnLines (path file) cell
