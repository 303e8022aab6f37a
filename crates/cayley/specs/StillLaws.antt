-- Where all points rest nothing depends on the time.
use Rattle.std.specs.Prelude.{◌≡◌, ◌↔◌, pos}
use Rattle.int_vectors.specs.Vectors.{Each}
use Rattle.cayley.specs.Times.{Time}
use Rattle.cayley.specs.Problems.{Point, Problem, IsStill, file_points}
use Rattle.cayley.specs.Cells.{Cell}
use Rattle.cayley.specs.Mixed.{IsAlive, IsMixedCell}

-- every point of every support has the speed 0
abbrev pub AllRest : Problem → Type 0
AllRest p = Each p.supports (λ s. Each s (λ (x : Point). x.speed ≡ pos 0))

-- a cell of points that rest is alive at every time or at none
abbrev pub StillLaw : Type 0
StillLaw = (p : Problem) (cell : Cell) (t u : Time) → AllRest p → IsAlive p cell t → IsAlive p cell u

-- whether a cell is a mixed cell of the target is seen at any time, if the file points rest
abbrev pub MixedLaw : Type 0
MixedLaw = (p : Problem) (cell : Cell) (t : Time) → IsStill p → IsMixedCell p cell ↔ IsAlive (file_points p) cell t
