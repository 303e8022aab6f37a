use Rattle.std.proofs.Common.{List, ℤ}
use Rattle.cayley.specs.Problems.{Problem, HasSamePoints}
use Rattle.cayley.specs.Rows.{edge_rows}
use Rattle.inner_normal.specs.Workings.{FitsNormal, FitsNormalWorking, IsNormalOfRows}
use Rattle.inner_normal.specs.MovingNormals.{IsMovingNormal}
use Rattle.std.proofs.Common.{refl}
use Rattle.inner_normal.proofs.CellAnswers.{beyond_kernel, dependent_answer, kernel_answer}
use Rattle.inner_normal.proofs.normals.normal_of.Goals as goal

pub returns-clause-dependent : goal.returns-clause-dependent
returns-clause-dependent c =
    let p = c.args.problem.now in
    let cell = c.args.cell.now in
    dependent_answer (IsNormalOfRows p cell) (FitsNormalWorking p cell) p cell c.dim-dim.ensures.valid.shape.problem c.requires (λ m h. h.0) (beyond_kernel p.dimension (edge_rows p cell) (FitsNormal p.dimension))
    (λ m h. (h.2 p refl).independent) c.normal_of_rows.result c.normal_of_rows.ensures

pub returns-clause-kernel : goal.returns-clause-kernel
returns-clause-kernel c =
    let p = c.args.problem.now in
    let cell = c.args.cell.now in
    kernel_answer (IsNormalOfRows p cell) (FitsNormalWorking p cell) p cell c.dim-dim.ensures.valid.shape.problem c.requires (λ m h. h.0) (beyond_kernel p.dimension (edge_rows p cell) (FitsNormal p.dimension)) c.normal_of_rows.result c.normal_of_rows.ensures
