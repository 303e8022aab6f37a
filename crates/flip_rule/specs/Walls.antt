-- Walls of a cell with one level point.
use Rattle.std.specs.Prelude.{ℕ}
use Rattle.cayley.specs.declared.found.Sign.{Sign}
use Rattle.cayley.specs.Times.{Time}
use Rattle.cayley.specs.Problems.{Problem, IsProblem}
use Rattle.cayley.specs.Cells.{Cell}
use Rattle.cayley.specs.Normals.{Normal, IsNormal}
use Rattle.cayley.specs.Lives.{AliveJustBefore}
use Rattle.cayley.specs.Dependencies.{Numbers, number_at, IsPositiveDependency}
use Rattle.cayley.specs.Flips.{IsOnlyLevel}
use Rattle.cayley.specs.Signs.{HaveSigns}

-- alive just before t, where of all further points c of support j alone is level; the signs are those of a dependency that is positive at c.
-- That no further point is below at t, and that c isn't level at all times, follows
pub record IsWall (p : Problem) (cell : Cell) (j c : ℕ) (signs : Sign × Sign) (t : Time) : Type 0 where
  pub problem : IsProblem p
  pub before : AliveJustBefore p cell t
  pub v : Normal
  pub normal : IsNormal p cell t v
  pub only : IsOnlyLevel p cell t v j c
  pub numbers : Numbers
  pub dependency : IsPositiveDependency p cell j c numbers
  pub signs_are : HaveSigns signs (number_at numbers.pairs j)
