-- What the walk along a path has found, and why it halted.
use Rattle.std.specs.Prelude.{◌≡◌, ℕ, min, List, length}
use Rattle.cayley.specs.Problems.{Problem}
use Rattle.cayley.specs.Cells.{Cell}
use Rattle.cayley.specs.Shares.{IsShare}
use Rattle.cayley.specs.Files.{File}
use Rattle.cayley.specs.Paths.{path}
use Rattle.searcher.specs.declared.expansions.HaltCause.{HaltCause}
use Rattle.searcher.specs.declared.expansions.HaltCause.TheVariants.{Tie, Overflow, OutOfMemory}
use Rattle.start_system.specs.Started.{start_branch}
use Rattle.searcher.specs.declared.searching.Found.{Found}
use Rattle.searcher.specs.declared.counting.Counted.{Counted}
use Rattle.searcher.specs.Searches.{top}
use Rattle.search_team.specs.PathSearches.{CountsTree}
use Rattle.mixedcells.specs.declared.outcome.Outcome.{Outcome}
use Rattle.mixedcells.specs.declared.outcome.Outcome.TheVariants as variant
use Rattle.mixedcells.specs.Outcomes.{overflow_cell, IsTieLine}
use Rattle.mixedcells.specs.Walks.{AreReachedCells, IsTreeTie, IsTreeUnfit}

-- of a file: the cells to which its path leads, and the size of its tree
pub record HasWalked (file : File) (found : Found) : Type 0 where
  pub cells : AreReachedCells file found.cells.items
  pub tree : CountsTree (path file) found.solves

-- of a path: how many mixed cells it leads to, or the greatest count, and the size of its tree
pub record IsPathCount (p : Problem) (counted : Counted) : Type 0 where
  pub cells : (cells : List Cell) × IsShare p (start_branch p) cells × (counted.cells ≡ min (length cells) top)
  pub tree : CountsTree p counted.solves

-- the same of a file's path
abbrev pub HasCounted : File → Counted → Type 0
HasCounted file counted = IsPathCount (path file) counted

abbrev pub HasHalted : File → HaltCause → Type 0
HasHalted file (Tie proof) = IsTreeTie file proof
HasHalted file (Overflow cell) = IsTreeUnfit file cell
HasHalted file OutOfMemory = Unit {0}

-- the outcome and its line tell the cause; want of memory is told otherwise
abbrev pub TellsCause : HaltCause → Outcome → List ℕ → Type 0
TellsCause (Tie proof) outcome text = (outcome ≡ variant.Tie proof) × IsTieLine proof text
TellsCause (Overflow cell) outcome text = (outcome ≡ variant.OverflowCell cell) × (text ≡ overflow_cell cell)
TellsCause OutOfMemory outcome text = ⊥
