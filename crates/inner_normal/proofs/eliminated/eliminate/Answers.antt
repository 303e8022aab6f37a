use Rattle.std.proofs.Common.{◌≡◌, ℕ, List, subst₂, ℤ}
use Rattle.std.proofs.lemmas.Result.{err_from_is_err_and}
use Rattle.reduced_rows.specs.CellRefusals.{IsEliminated}
use Rattle.inner_normal.proofs.CellAnswers.{rows_lengths, rows_fault, reduced_widths}
use Rattle.inner_normal.proofs.eliminated.eliminate.Goals as goal

pub reduce-requires-clause-lengths : goal.reduce-requires-clause-lengths
reduce-requires-clause-lengths c = rw (c.in_ok-rows.ensures.value, c.dim.ensures.value) (rows_lengths c.args.problem.now c.args.cell.now c.dim.ensures.valid.shape.problem c.requires)

pub returns-in_err-reduced : goal.returns-in_err-reduced
returns-in_err-reduced c =
    let p = err_from_is_err_and c.from_residual-in_err-reduced.result c.from_residual-in_err-reduced.ensures.1 in
    let w = rw (c.in_ok-rows.ensures.value, c.dim.ensures.value) at c.in_err-reduced.ensures.working in
    let k = rw (c.in_ok-rows.ensures.value, c.dim.ensures.value) at c.in_err-reduced.ensures.kernel in
    rw (p.1, p.2) (rows_fault c.args.problem.now.dimension _ c.in_err-reduced.field-0.0 w k)

pub from_reduced-requires : goal.from_reduced-requires
from_reduced-requires c =
    let w : IsEliminated c.args.problem.now.dimension _ c.in_ok-reduced.reduced = rw (c.in_ok-rows.ensures.value, c.dim.ensures.value) at c.in_ok-reduced.ensures.working in
    reduced_widths c.args.problem.now c.args.cell.now c.dim.ensures.valid.shape.problem c.requires c.in_ok-reduced.reduced w

pub returns : goal.returns
returns c = rw (c.from_reduced.ensures) (rw (c.in_ok-rows.ensures.value, c.dim.ensures.value) at c.in_ok-reduced.ensures.working)
