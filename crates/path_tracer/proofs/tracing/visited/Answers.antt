use Rattle.std.proofs.Common.{◌∙◌, sym, subst}
use Rattle.cayley.specs.Cells.{IsOf, IsIndependent}
use Rattle.cayley.specs.Rows.{edge_rows}
use Rattle.cayley.proofs.Searching.Shares.{true_of}
use Rattle.inner_normal.specs.Inverses.{FitsInverse}
use Rattle.reduced_rows.specs.CellRefusals.{FitsBeyond}
use Rattle.searcher.specs.Branches.{branch_of}
use Rattle.path_tracer.proofs.FurtherPoints.{branch_independent, branch_fits, inverse_fits}
use Rattle.path_tracer.proofs.tracing.visited.Goals as goal

pub returns-in-Err-clause-step : goal.returns-in-Err-clause-step
returns-in-Err-clause-step g c = c.expand.ensures.step (true_of c.args.problem.now (branch_of c.args.branch) c.requires.begins)

pub node_of-requires-clause-of : goal.node_of-requires-clause-of
node_of-requires-clause-of g c = subst (IsOf c.args.problem.now) (sym (c.copy-cell.ensures ∙ c.cell.ensures)) (true_of c.args.problem.now (branch_of c.args.branch) c.requires.begins)

pub node_of-requires-clause-independent : goal.node_of-requires-clause-independent
node_of-requires-clause-independent g c = subst (IsIndependent c.args.problem.now) (sym (c.copy-cell.ensures ∙ c.cell.ensures)) (branch_independent c.args.problem.now c.args.branch c.requires.begins)

pub node_of-requires-clause-fits : goal.node_of-requires-clause-fits
node_of-requires-clause-fits g c =
    let p = c.args.problem.now in
    subst (λ cell. FitsBeyond p.dimension (edge_rows p cell) FitsInverse) (sym (c.copy-cell.ensures ∙ c.cell.ensures))
    (inverse_fits p c.args.branch.cell (branch_fits p c.args.branch c.in-Ok.expansion c.in-Ok.ensures.answer c.requires.begins) c.requires.further)

pub returns-in-Ok-node_of-clause-step : goal.returns-in-Ok-node_of-clause-step
returns-in-Ok-node_of-clause-step g c = c.expand.ensures.step (true_of c.args.problem.now (branch_of c.args.branch) c.requires.begins)

pub returns-in-Err-node_of-clause-step : goal.returns-in-Err-node_of-clause-step
returns-in-Err-node_of-clause-step g c = c.expand.ensures.step (true_of c.args.problem.now (branch_of c.args.branch) c.requires.begins)
