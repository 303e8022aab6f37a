use Rattle.std.proofs.Common.{ℕ, List, ℤ}
use Rattle.cayley.specs.Cells.{IsIndependent}
use Rattle.cayley.specs.Rows.{edge_rows}
use Rattle.reduced_rows.specs.CellRefusals.{IsEliminated}
use Rattle.reduced_rows.specs.Steps.{FitsElimination}
use Rattle.inner_normal.proofs.CellAnswers.{ok_answer, dependent_answer, kernel_answer, rows_free}
use Rattle.inner_normal.proofs.eliminated.Eliminated.of.Goals as goal

pub returns-clause-answer : goal.returns-clause-answer
returns-clause-answer c =
    let p = c.args.problem.now in
    let cell = c.args.cell.now in
    let well = c.dim-dim.ensures.valid.shape.problem in
    ok_answer (IsEliminated p.dimension (edge_rows p cell)) (FitsElimination p.dimension (edge_rows p cell)) p cell well c.requires (λ made h. h.0) (λ kernel f e. f)
    (λ made. IsEliminated p.dimension (edge_rows p cell) made × IsIndependent p cell) c.eliminate.result (λ made h. (h, rows_free p cell well c.requires made h)) c.eliminate.ensures

pub returns-clause-dependent : goal.returns-clause-dependent
returns-clause-dependent c =
    let p = c.args.problem.now in
    let cell = c.args.cell.now in
    let well = c.dim-dim.ensures.valid.shape.problem in
    dependent_answer (IsEliminated p.dimension (edge_rows p cell)) (FitsElimination p.dimension (edge_rows p cell)) p cell well c.requires (λ made h. h.0) (λ kernel f e. f)
    (rows_free p cell well c.requires) c.eliminate.result c.eliminate.ensures

pub returns-clause-kernel : goal.returns-clause-kernel
returns-clause-kernel c =
    let p = c.args.problem.now in
    let cell = c.args.cell.now in
    let well = c.dim-dim.ensures.valid.shape.problem in
    kernel_answer (IsEliminated p.dimension (edge_rows p cell)) (FitsElimination p.dimension (edge_rows p cell)) p cell well c.requires (λ made h. h.0) (λ kernel f e. f) c.eliminate.result c.eliminate.ensures
