-- What the walls of a cell tell, and what is read off its lines, for the inner functions; no public clause cites this.
use Rattle.std.specs.Prelude.{◌≡◌, ◌↔◌, ℕ, List, All, Option, Some, MatchOption}
use Rattle.lex_height.specs.Values as lex
use Rattle.cayley.specs.declared.found.Begin.{Begin}
use Rattle.cayley.specs.declared.found.Begin.TheVariants as begin
use Rattle.cayley.specs.declared.found.TieProof.{TieProof}
use Rattle.cayley.specs.Problems.{Problem}
use Rattle.cayley.specs.Cells.{Cell}
use Rattle.cayley.specs.Dependencies.{IsFurtherAt}
use Rattle.crossing.specs.declared.line.WallLine.{WallLine}
use Rattle.crossing.specs.declared.entry.Entry.{Entry}
use Rattle.crossing.specs.declared.entry.Entry.TheVariants as entry
use Rattle.crossing.specs.Entries.{IsEntry}
use Rattle.crossing.specs.Lines.{FitsLine}
use Rattle.inner_normal.specs.declared.moving.MovingNormal.{MovingNormal}
use Rattle.inner_normal.specs.Coefficients.{difference, FitsCoefficients}
use Rattle.inner_normal.specs.Inverses.{Inverse, IsInverseOf}
use Rattle.inner_normal.specs.MovingNormals.{IsMovingNormal}
use Rattle.cone_walls.specs.Lives.{IsNeverAlive, LivesBetween}
use Rattle.cone_walls.specs.Places.{AreOfFurtherPoints}
use Rattle.cone_walls.specs.Sides.{TellSides}
use Rattle.cone_walls.specs.Ends.{place_at}
use Rattle.searcher.specs.declared.branches.Branch.{Branch}
use Rattle.searcher.specs.declared.expansions.Expansion.{Expansion}
use Rattle.searcher.specs.Expansions.{IsOfKind, stranger, IsExpansion}

-- the normal and the lines of a cell
pub record AreLinesOf (p : Problem) (cell : Cell) (normal : MovingNormal) (lines : List WallLine) : Type 0 where
  pub moving : IsMovingNormal p cell normal
  pub places : AreOfFurtherPoints p cell lines
  pub sides : TellSides p cell lines
  pub fit : All FitsLine lines
  pub dead : IsNeverAlive p cell ↔ IsEntry lines entry.Dead
  pub life : LivesBetween p cell lines

-- the circuits of all further points, by the inverse, fit
abbrev pub FitCircuitsBy : Problem → Cell → Inverse → Type 0
FitCircuitsBy p cell inverse = IsInverseOf p cell inverse × ((j c : ℕ) → IsFurtherAt p cell j c → FitsCoefficients j inverse (difference p cell j c))

-- a branch says what the entry of its cell's lines says
abbrev pub IsSaid : Begin → Entry → Type 0
IsSaid begin.Start entry.Always = Unit {0}
IsSaid begin.Start (entry.At u which) = ⊥
IsSaid begin.Start (entry.Tied u first second) = ⊥
IsSaid begin.Start entry.Dead = ⊥
IsSaid (begin.At t) entry.Always = ⊥
IsSaid (begin.At t) (entry.At u which) = t ≡ u
IsSaid (begin.At t) (entry.Tied u first second) = t ≡ u
IsSaid (begin.At t) entry.Dead = ⊥

-- the time of a beginning is in lowest terms
abbrev pub IsLowestBegin : Begin → Type 0
IsLowestBegin begin.Start = Unit {0}
IsLowestBegin (begin.At t) = lex.IsLowest t

-- the tie of the points of two lines
abbrev pub tie_between : Cell → List WallLine → lex.Value → ℕ → ℕ → TieProof
tie_between cell lines u first second = record { cell = cell; time = u; first = place_at lines first; second = Some (place_at lines second) }

-- an expansion, or none where the branch is a stranger
abbrev pub IsOutcome : Problem → Branch → Option Expansion → Type 0
IsOutcome p b outcome = MatchOption outcome (IsOfKind p b stranger) (IsExpansion p b)
