-- What is known while the choices are searched for a tie in cell order; no public clause cites these.
use Rattle.std.specs.Prelude.{◌≡◌, ℕ, ◌+◌, ◌-◌, ◌<◌, ◌≤◌, List, length, slice_index_or, Option, None, Some, MatchOption, IsTrue}
use Rattle.std.specs.Option.{option_map}
use Rattle.cayley.specs.declared.found.TieProof.{TieProof}
use Rattle.cayley.specs.Problems.{Problem}
use Rattle.cayley.specs.Cells.{Cell, IsOf}
use Rattle.cayley.specs.StoredTies.{Spot}
use Rattle.cayley.specs.TieProofs.{spot_of}
use Rattle.crossing.specs.declared.line.WallLine.{WallLine}
use Rattle.crossing.specs.declared.ties.Tie.{Tie}
use Rattle.crossing.specs.Places.{origin}
use Rattle.cone_walls.specs.Workings.{FitsWallWorking}
use Rattle.plain_lister.specs.declared.naming.NamedTie.{NamedTie}
use Rattle.plain_lister.specs.declared.faults.PlainFault.{PlainFault}
use Rattle.plain_lister.specs.declared.faults.PlainFault.TheVariants.{TooMany, Overflow, OutOfMemory}
use Rattle.plain_lister.specs.declared.ties.Turn.{Turn}
use Rattle.plain_lister.specs.declared.ties.Turn.TheVariants.{Tied, Untied}
use Rattle.plain_lister.specs.declared.wheels.Wheel.{Wheel}
use Rattle.plain_lister.specs.LeastTies.{HasTie, IsNamedProof, IsLeastTiedOrUnfit, IsLeastTie}
use Rattle.plain_lister.specs.Order.{IsChoice, left_after}
use Rattle.plain_lister.specs.Progress.{Tried, steps_left}
use Rattle.plain_lister.specs.Wheels.{Show}

-- the cells in D fit and have no tie
abbrev pub AreClear : Problem → (Cell → Type 0) → Type 0
AreClear p D = (cell : Cell) → IsOf p cell → D cell → FitsWallWorking p cell × ¬ (HasTie p cell)

-- a cell that fits: without a tie, or with the one that is named for it
abbrev pub IsTieAt : Problem → Cell → Option TieProof → Type 0
IsTieAt p cell None = FitsWallWorking p cell × ¬ (HasTie p cell)
IsTieAt p cell (Some proof) = (proof.cell ≡ cell) × FitsWallWorking p cell × IsNamedProof p proof

-- the least tied cell, or the next choice
abbrev pub IsTurn : Problem → List ℕ → Cell → Cell → List Wheel → Turn → Type 0
IsTurn p counts cell next wheels (Tied proof) = IsLeastTie p proof
IsTurn p counts cell next wheels (Untied going) = (IsTrue going → IsChoice counts next × Show counts wheels next) × AreClear p (Tried going next) × (steps_left going counts next < left_after counts cell + 1)

-- the least cell that has a tie or doesn't fit doesn't fit
abbrev pub IsTieSearchFault : Problem → PlainFault → Type 0
IsTieSearchFault p (TooMany choices) = ⊥
IsTieSearchFault p (Overflow cell) = IsLeastTiedOrUnfit p cell × ¬ (FitsWallWorking p cell)
IsTieSearchFault p OutOfMemory = Unit {0}

-- the point that the line at a place is of; places count from 1
abbrev pub spot_at : List WallLine → ℕ → Spot
spot_at lines place = ((slice_index_or lines (place - 1) origin).support, (slice_index_or lines (place - 1) origin).position)

abbrev pub IsPlace : List WallLine → ℕ → Type 0
IsPlace lines place = (1 ≤ place) × (place ≤ length lines)

-- the places of the tie are in the list
abbrev pub HasPlaces : List WallLine → Tie → Type 0
HasPlaces lines tie = IsPlace lines tie.first × MatchOption tie.second (Unit {0}) (IsPlace lines)

-- the same tie by the points of its lines
abbrev pub IsByPoints : List WallLine → Tie → NamedTie → Type 0
IsByPoints lines tie named = (named.time ≡ tie.time) × (spot_of named.first ≡ spot_at lines tie.first) × (option_map spot_of named.second ≡ option_map (spot_at lines) tie.second)
