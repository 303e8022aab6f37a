use Rattle.std.proofs.Common.{◌≡◌, ◌+◌, [], ◌∷◌, length}
use Rattle.std.specs.Prelude.{sum_by}
use Rattle.int_vectors.specs.Vectors.{Each}
use Rattle.cayley.proofs.Searching.Steps.{weight}
use Rattle.searcher.specs.Branches.{branches_of}
use Rattle.searcher.specs.Ends.{IsTiedAtEnd}
use Rattle.searcher.specs.Expansions.{HasLowestNormal}
use Rattle.searcher.specs.Searches.{IsLeft}
use Rattle.searcher.specs.Workings.{FitsWorking}
use Rattle.searcher.proofs.Sizes.{size_in}
use Rattle.search_team.specs.Accounts.{IsBalance}
use Rattle.path_tracer.specs.Nodes.{HasInverse, FitsNumbers}
use Rattle.path_tracer.proofs.Walks.{start_of, IsOnWay}
use Rattle.path_tracer.proofs.tracing.trace_alone.Given as goal

abbrev pub invariant-loop-branch : goal.invariant-loop-branch
invariant-loop-branch g l = record {
  balance : IsBalance l.problem (start_of l.problem ∷ []) l.left.items l.found.items (length l.nodes.items);
  way : IsOnWay l.problem l.left.items l.nodes.items;
  normals : Each l.found.items (HasLowestNormal l.problem);
  inverses : Each l.nodes.items (HasInverse l.problem);
  fits : Each l.nodes.items FitsNumbers;
  workings : Each l.nodes.items (λ node. FitsWorking l.problem node.cell);
  untied : Each l.nodes.items (λ node. ¬ (IsTiedAtEnd l.problem node.cell));
  left : Each l.left.items (IsLeft l.problem (start_of l.problem ∷ []));
  count : l.steps ≡ l.fn.steps + length l.nodes.items;
}

abbrev pub decreases-loop-branch : goal.decreases-loop-branch
decreases-loop-branch g l = sum_by (weight (size_in l.problem)) (branches_of l.left.items)
