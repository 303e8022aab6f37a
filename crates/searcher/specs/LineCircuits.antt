-- The circuits of the points that a list of wall lines names.
use Rattle.std.specs.Prelude.{◌-◌, ◌≤◌}
use Rattle.cayley.specs.Problems.{Problem}
use Rattle.cayley.specs.Cells.{Cell}
use Rattle.cayley.specs.Dependencies.{IsFurtherAt}
use Rattle.crossing.specs.declared.line.WallLine.{WallLine}
use Rattle.inner_normal.specs.Coefficients.{difference, FitsCoefficients}
use Rattle.inner_normal.specs.Inverses.{Inverse}

-- the line names a further point of one of the problem's supports
abbrev pub NamesFurther : Problem → Cell → WallLine → Type 0
NamesFurther p cell line = (1 ≤ line.support) × (line.support ≤ p.dimension) × IsFurtherAt p cell (line.support - 1) line.position

-- the numbers of its circuit fit
abbrev pub FitsItsCircuit : Problem → Cell → Inverse → WallLine → Type 0
FitsItsCircuit p cell inverse line = FitsCoefficients (line.support - 1) inverse (difference p cell (line.support - 1) line.position)
