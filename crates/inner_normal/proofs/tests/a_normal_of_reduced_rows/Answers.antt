use Rattle.std.proofs.Common.{rules}
use Rattle.cayley.specs.Cells.{IsOf}
use Rattle.inner_normal.proofs.CellAnswers.{rows_lengths}
use Rattle.inner_normal.proofs.tests.a_normal_of_reduced_rows.Goals as goal

pub reduce-requires-clause-lengths : goal.reduce-requires-clause-lengths
reduce-requires-clause-lengths g c =
    let of : IsOf c.in_ok-problem.problem c.in-Some.cell = search rules in
    rw (c.in_ok-rows.ensures.value, c.dim.ensures.value) (rows_lengths c.in_ok-problem.problem c.in-Some.cell c.dim.ensures.valid.shape.problem of)
