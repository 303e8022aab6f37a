use Rattle.std.proofs.Common.{arith}
use Rattle.std.proofs.lemmas.Result.{err_from_is_err_and}
use Rattle.cayley.specs.Problems.{version1}
use Rattle.cayley.proofs.Refusals.FileShapes.{given, shape_to, few_points, few_starts, same_points}
use Rattle.cayley.proofs.Refusals.FileFaults.{file_fault, start_fault, file_valid}
use Rattle.cayley.proofs.shapes.check_file.Goals as goal

pub check_points-requires-clause-counts : goal.check_points-requires-clause-counts
check_points-requires-clause-counts c =
    few_points (λ s. s.items) (λ s. s.items) (λ ss. ss.items) version1 c.args.dim c.args.supports.now c.args.starts.now ((c.has_file_shape.ensures version1).0 c.if-not-has_file_shape.false)

pub faulty_start-requires : goal.faulty_start-requires
faulty_start-requires c =
    few_starts (λ s. s.items) (λ s. s.items) (λ ss. ss.items) version1 c.args.dim c.args.supports.now c.args.starts.now ((c.has_file_shape.ensures version1).0 c.if-not-has_file_shape.false)

pub returns-in_err-check_points : goal.returns-in_err-check_points
returns-in_err-check_points c version =
    let p = err_from_is_err_and c.from_residual.result c.from_residual.ensures.1 in
    rw (p.1, p.2) (file_fault (given (λ s. s.items) (λ s. s.items) (λ ss. ss.items) version c.args.dim c.args.supports.now c.args.starts.now) _
    (same_points (λ s. s.items) (λ s. s.items) (λ ss. ss.items) version c.args.dim c.args.supports.now c.args.starts.now)
    ((c.has_file_shape.ensures version).0 c.if-not-has_file_shape.false) c.in_err-check_points.field-0.0 c.in_err-check_points.ensures)

pub returns-in-Some : goal.returns-in-Some
returns-in-Some c version =
    start_fault (given (λ s. s.items) (λ s. s.items) (λ ss. ss.items) version c.args.dim c.args.supports.now c.args.starts.now) _
    (same_points (λ s. s.items) (λ s. s.items) (λ ss. ss.items) version c.args.dim c.args.supports.now c.args.starts.now)
    ((c.has_file_shape.ensures version).0 c.if-not-has_file_shape.false) c.in_ok-check_points.ensures c.in-Some.support c.in-Some.ensures

pub returns-in-None : goal.returns-in-None
returns-in-None c version =
    file_valid (given (λ s. s.items) (λ s. s.items) (λ ss. ss.items) version c.args.dim c.args.supports.now c.args.starts.now) _
    (same_points (λ s. s.items) (λ s. s.items) (λ ss. ss.items) version c.args.dim c.args.supports.now c.args.starts.now)
    ((c.has_file_shape.ensures version).0 c.if-not-has_file_shape.false) c.in_ok-check_points.ensures c.in-None.ensures

pub check_points-requires-clause-few : goal.check_points-requires-clause-few
check_points-requires-clause-few c =
    let h = (shape_to (λ s. s.items) (λ s. s.items) (λ ss. ss.items) version1 c.args.dim c.args.supports.now c.args.starts.now ((c.has_file_shape.ensures version1).0 c.if-not-has_file_shape.false)).0 in
    let a = h.1 in
    let b = h.2 in
    omega (arith, a, b)
