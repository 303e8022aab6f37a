-- Cells on their way from time 0 to time 1: what becomes of each, and which are alive at the end.
use Rattle.std.specs.Prelude.{◌≡◌, List, [], ◌∷◌, pos, Contains, IsPermutation}
use Rattle.std.specs.Option.{option_map}
use Rattle.int_vectors.specs.Vectors.{Each}
use Rattle.cayley.specs.declared.found.TieProof.{TieProof}
use Rattle.cayley.specs.Times.{Time, IsBefore, time_zero}
use Rattle.cayley.specs.Problems.{Problem}
use Rattle.cayley.specs.Cells.{Cell, IsOf, IsListOf}
use Rattle.cayley.specs.Mixed.{IsAlive}
use Rattle.cayley.specs.Parents.{InChain}
use Rattle.cayley.specs.Shares.{IsChildren}
use Rattle.cayley.specs.StoredTies.{ShowsTieAtEnd}
use Rattle.cayley.specs.TieProofs.{spot_of, IsTimeOf}
use Rattle.searcher.specs.declared.expansions.Children.{Children}
use Rattle.searcher.specs.declared.expansions.Children.TheVariants.{None, One, Two}
use Rattle.searcher.specs.declared.expansions.HaltCause.{HaltCause}
use Rattle.searcher.specs.declared.expansions.HaltCause.TheVariants.{Tie, Overflow, OutOfMemory}
use Rattle.searcher.specs.declared.passing.Passage.{Passage}
use Rattle.searcher.specs.declared.passing.Passage.TheVariants.{Reached, Ended, Followed}
use Rattle.searcher.specs.Workings.{FitsWorking}
use Rattle.searcher.specs.Branches.{branches_of, children_of}

-- the time 1
abbrev pub time_one : Time
time_one = record { entries = pos 1 ∷ []; over = pos 1; positive = record { lt = tt } }

-- alive at some time from 0 on and before 1
abbrev pub IsOnItsWay : Problem → Cell → Type 0
IsOnItsWay p cell = (t : Time) × ¬ (IsBefore t time_zero) × IsBefore t time_one × IsAlive p cell t

-- alive at time 1, with the cell in its chain
abbrev pub IsReachedFrom : Problem → Cell → Cell → Type 0
IsReachedFrom p cell tau = IsAlive p tau time_one × InChain p cell tau

-- the chain of the cell has one of the given cells in it
abbrev pub IsLedBy : Problem → List Cell → Cell → Type 0
IsLedBy p given cell = (a : Cell) × Contains given a × InChain p a cell

-- alive at time 1, with one of the given cells in its chain
abbrev pub IsReached : Problem → List Cell → Cell → Type 0
IsReached p given tau = IsAlive p tau time_one × IsLedBy p given tau

-- the proof shows a tie where its cell ends or begins, after time 0 and at most at time 1
abbrev pub IsTieOnTheWay : Problem → TieProof → Type 0
IsTieOnTheWay p proof = (t : Time) × IsTimeOf proof t × IsBefore time_zero t × ¬ (IsBefore time_one t)
    × ShowsTieAtEnd p proof.cell t (spot_of proof.first) (option_map spot_of proof.second)

-- why the way was left: a tie on it, or a working that doesn't fit, of a cell whose chain has a given cell in it
abbrev pub IsHaltOnTheWay : Problem → List Cell → HaltCause → Type 0
IsHaltOnTheWay p given (Tie proof) = IsTieOnTheWay p proof × IsLedBy p given proof.cell
IsHaltOnTheWay p given (Overflow cell) = IsOf p cell × ¬ (FitsWorking p cell) × IsLedBy p given cell
IsHaltOnTheWay p given OutOfMemory = Unit {0}

-- ---- one cell

-- the cells of the children, the last of them first
abbrev pub followed_by : Children → List Cell
followed_by None = []
followed_by (One first) = first.cell ∷ []
followed_by (Two first second) = second.cell ∷ first.cell ∷ []

-- the cells that are still to go on
abbrev pub left_by : Passage → List Cell
left_by Reached = []
left_by Ended = []
left_by (Followed children) = followed_by children

-- the cell, if it is there
abbrev pub reached_by : Cell → Passage → List Cell
reached_by cell Reached = cell ∷ []
reached_by cell Ended = []
reached_by cell (Followed children) = []

-- what becomes of a cell: it is there alone, no cell behind it is, or its children go on
abbrev pub IsPassage : Problem → Cell → Passage → Type 0
IsPassage p cell Reached = IsAlive p cell time_one × ((tau : Cell) → IsReachedFrom p cell tau → tau ≡ cell)
IsPassage p cell Ended = (tau : Cell) → ¬ (IsReachedFrom p cell tau)
IsPassage p cell (Followed children) = ¬ (IsAlive p cell time_one) × IsChildren p cell (branches_of (children_of children))
    × Each (followed_by children) (IsOnItsWay p)

-- every list of the cells that are reached from the cell has the same cells as this one, each as often
abbrev pub AreReachedFrom : Problem → Cell → List Cell → Type 0
AreReachedFrom p cell found = (all : List Cell) → IsListOf (IsReachedFrom p cell) all → IsPermutation all found
