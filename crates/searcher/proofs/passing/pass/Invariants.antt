use Rattle.std.proofs.Common.{◌≡◌, List, [], ◌∷◌, ◌++◌, map}
use Rattle.std.specs.Prelude.{sum_by}
use Rattle.int_vectors.specs.Vectors.{Each}
use Rattle.cayley.specs.Cells.{Cell}
use Rattle.cayley.specs.Shares.{Branch, GivesSharesOf}
use Rattle.cayley.proofs.Searching.Steps.{Keeps, weight}
use Rattle.searcher.specs.Passes.{IsOnItsWay, IsLedBy}
use Rattle.searcher.proofs.Sizes.{size_in}
use Rattle.searcher.proofs.PassTurns.{AtOne, branch_in}
use Rattle.searcher.proofs.passing.pass.Given as goal

abbrev pub invariant-loop-next : goal.invariant-loop-next
invariant-loop-next g l = record {
  keeps : (more : List Cell) × (l.reached.items ≡ l.fn.reached.items ++ more)
      × ((share : Branch → List Cell) → GivesSharesOf l.problem (AtOne l.problem) share → Keeps share (branch_in l.problem l.fn.cell ∷ []) more (map (branch_in l.problem) l.left.items));
  ways : Each l.left.items (IsOnItsWay l.problem);
  led : Each l.left.items (IsLedBy l.problem (l.fn.cell ∷ []));
}

abbrev pub decreases-loop-next : goal.decreases-loop-next
decreases-loop-next g l = sum_by (weight (size_in l.problem)) (map (branch_in l.problem) l.left.items)
