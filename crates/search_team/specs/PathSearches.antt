-- What the search of a path has found, and why it halted.
use Rattle.std.specs.Prelude.{◌≡◌, ℕ, min}
use Rattle.int_vectors.specs.Vectors.{Each}
use Rattle.cayley.specs.Problems.{Problem}
use Rattle.cayley.specs.Paths.{start_cell}
use Rattle.cayley.specs.Parents.{IsInTree}
use Rattle.cayley.specs.Shares.{IsShare}
use Rattle.cayley.specs.Ties.{IsTieFree}
use Rattle.cayley.specs.TieProofs.{IsTieProofAtEnd}
use Rattle.cayley.specs.Stored.{cells_of}
use Rattle.start_system.specs.Started.{start_branch, IsTreeSize}
use Rattle.searcher.specs.declared.expansions.HaltCause.{HaltCause}
use Rattle.searcher.specs.declared.expansions.HaltCause.TheVariants.{Tie, Overflow, OutOfMemory}
use Rattle.searcher.specs.declared.searching.Found.{Found}
use Rattle.searcher.specs.Expansions.{HasLowestNormal}
use Rattle.searcher.specs.Workings.{FitsWorking}
use Rattle.searcher.specs.Searches.{top}

-- the count is the size of the path tree, or the greatest count
abbrev pub CountsTree : Problem → ℕ → Type 0
CountsTree p solves = (tree : ℕ) × IsTreeSize p tree × (solves ≡ min tree top)

-- the share of the start branch, which is in cell order, with the normals in lowest terms and workings that fit, and the size of the path tree
pub record IsWalked (p : Problem) (found : Found) : Type 0 where
  pub cells : IsShare p (start_branch p) (cells_of found.cells.items)
  pub normals : Each found.cells.items (HasLowestNormal p)
  pub workings : Each found.cells.items (λ x. FitsWorking p x.cell)
  pub tree : CountsTree p found.solves

-- a tie at an end of a cell of the path tree, which has one then; or a cell of the path tree whose working doesn't fit
abbrev pub IsHalted : Problem → HaltCause → Type 0
IsHalted p (Tie proof) = ¬ (IsTieFree p) × IsTieProofAtEnd p proof × IsInTree p (start_cell p) proof.cell
IsHalted p (Overflow cell) = IsInTree p (start_cell p) cell × ¬ (FitsWorking p cell)
IsHalted p OutOfMemory = Unit {0}
