use Rattle.std.proofs.Common.{drop, ℕ, List}
use Rattle.std.specs.Prelude.{sum_by}
use Rattle.int_vectors.specs.Vectors.{Each}
use Rattle.cayley.specs.Cells.{Cell}
use Rattle.cayley.specs.Shares.{Branch, GivesShares, GivesSizes, GivesCosts}
use Rattle.cayley.proofs.Searching.Steps.{Keeps, Counts, weight}
use Rattle.cayley.specs.Stored.{cells_of}
use Rattle.searcher.specs.Branches.{branches_of}
use Rattle.searcher.specs.Expansions.{HasLowestNormal}
use Rattle.searcher.specs.Searches.{IsLeft, IsCount, top}
use Rattle.searcher.specs.Walks.{IsMade, IsWalk}
use Rattle.searcher.proofs.Sizes.{size_in}
use Rattle.searcher.proofs.Turns.{HasFit}
use Rattle.searcher.proofs.searching.search_alone.Given as goal

abbrev pub invariant-loop-branch : goal.invariant-loop-branch
invariant-loop-branch g l = record {
  keeps : (share : Branch → List Cell) → GivesShares l.problem share → Keeps share (branches_of l.fn.branches.items) (cells_of l.cells.items) (branches_of l.left.items);
  counts : (size cost : Branch → ℕ) → GivesSizes l.problem size → GivesCosts l.problem size cost → Counts cost top (branches_of l.fn.branches.items) l.solves (branches_of l.left.items);
  count : IsCount l.fn.steps l.steps l.solves;
  normals : Each l.cells.items (HasLowestNormal l.problem);
  fit : Each l.cells.items (HasFit l.problem);
  left : Each l.left.items (IsLeft l.problem l.fn.branches.items);
  walk : IsWalk l.problem l.walk;
  made : Each (drop l.walk.given l.left.items) (IsMade l.problem);
}

abbrev pub decreases-loop-branch : goal.decreases-loop-branch
decreases-loop-branch g l = sum_by (weight (size_in l.problem)) (branches_of l.left.items)
