-- Where a cell ends, by the places of the points that are level there.
use Rattle.std.specs.Prelude.{◌≡◌, ◌↔◌, ℕ, ◌-◌, List, All, slice_index_or}
use Rattle.int_vectors.specs.Vectors.{Each}
use Rattle.lex_height.specs.Values as lex
use Rattle.cayley.specs.declared.found.Place.{Place}
use Rattle.cayley.specs.Times.{Time}
use Rattle.cayley.specs.Problems.{Problem}
use Rattle.cayley.specs.Cells.{Cell}
use Rattle.cayley.specs.Mixed.{IsAlive}
use Rattle.crossing.specs.declared.line.WallLine.{WallLine}
use Rattle.crossing.specs.declared.entry.Entry.TheVariants as entry
use Rattle.crossing.specs.declared.exit.Exit.TheVariants as exit
use Rattle.crossing.specs.Entries.{IsEntry}
use Rattle.crossing.specs.Exits.{IsExit}
use Rattle.crossing.specs.Lines.{FitsLine}
use Rattle.crossing.specs.Places.{origin}
use Rattle.inner_normal.specs.declared.moving.MovingNormal.{MovingNormal}
use Rattle.cone_walls.specs.declared.endings.End.{End}
use Rattle.cone_walls.specs.declared.endings.End.TheVariants.{Never, At, Tied}
use Rattle.cone_walls.specs.declared.fronts.Front.{Front}
use Rattle.cone_walls.specs.declared.fronts.Front.TheVariants.{Empty, One, Two}
use Rattle.cone_walls.specs.Fronts.{place_by, IsTimeOf}
use Rattle.cone_walls.specs.Lives.{IsNeverAlive, LivesBetween}
use Rattle.cone_walls.specs.Places.{AreOfFurtherPoints, HasNumbers}
use Rattle.cone_walls.specs.Sides.{TellSides}

-- the lines of a cell: what `walls_of` says of them
pub record AreCellLines (p : Problem) (cell : Cell) (m : MovingNormal) (lines : List WallLine) : Type 0 where
  pub places : AreOfFurtherPoints p cell lines
  pub values : Each lines (HasNumbers p cell m)
  pub fit : All FitsLine lines
  pub sides : TellSides p cell lines
  pub dead : IsNeverAlive p cell ↔ IsEntry lines entry.Dead
  pub life : LivesBetween p cell lines

-- the place of the point of the line at a place
abbrev pub place_at : List WallLine → ℕ → Place
place_at lines which = record {
  support = (slice_index_or lines (which - 1) origin).support;
  position = (slice_index_or lines (which - 1) origin).position;
}

-- the exit of the lines, with the places of their points
abbrev pub IsEnd : List WallLine → End → Type 0
IsEnd lines Never = IsExit lines exit.Never
IsEnd lines (At u place) = (which : ℕ) × IsExit lines (exit.At u which) × (place ≡ place_at lines which)
IsEnd lines (Tied u first second) = (i k : ℕ) × IsExit lines (exit.Tied u i k) × (first ≡ place_at lines i) × (second ≡ place_at lines k)

-- where a cell that is alive at some time ends: the cell has lines whose exit this is
abbrev pub IsEndOf : Problem → Cell → MovingNormal → End → Type 0
IsEndOf p cell m end = (lines : List WallLine) × AreCellLines p cell m lines × ((t : Time) → IsAlive p cell t → IsEnd lines end)

-- the end that a front tells: at the time at which its first line is zero, at the points of its lines
abbrev pub TellsEnd : Front → End → Type 0
TellsEnd Empty end = end ≡ Never
TellsEnd (One f) end = (u : lex.Value) × IsTimeOf f u × (end ≡ At u (place_by f))
TellsEnd (Two f g) end = (u : lex.Value) × IsTimeOf f u × (end ≡ Tied u (place_by f) (place_by g))

-- a cell that is alive at some time ends where the front tells
abbrev pub IsFrontOf : Problem → Cell → MovingNormal → Front → Type 0
IsFrontOf p cell m front = (end : End) → TellsEnd front end → IsEndOf p cell m end
