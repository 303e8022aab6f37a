use Rattle.std.proofs.Common.{arith}
use Rattle.std.proofs.lemmas.Result.{MatchResult-weaker}
use Rattle.cayley.specs.Stored.{unranked_of}
use Rattle.cayley.proofs.Refusals.ProblemShapes.{shape_to, counted}
use Rattle.cayley.proofs.Refusals.ProblemFaults.{problem_fault, problem_valid, stored_ranks}
use Rattle.cayley.proofs.problem_shapes.check_problem.Goals as goal

pub check_points-requires : goal.check_points-requires
check_points-requires c =
    let h = c.has_problem_shape.ensures.0 c.if-not-has_problem_shape.false in
    let r = shape_to c.args.dim c.args.supports.now h.0 h.1 in
    let a = r.1 in
    let b = r.2.0 in
    record { few = omega arith; counts = counted c.args.dim c.args.supports.now r.1 r.2 }

pub returns : goal.returns
returns c =
    let shape = c.has_problem_shape.ensures.0 c.if-not-has_problem_shape.false in
    MatchResult-weaker c.check_points.result c.check_points.ensures
    (λ x h. (problem_valid (unranked_of c.args.dim c.args.supports.now) shape.0 shape.1 h (stored_ranks c.args.dim c.args.supports.now), shape.1))
    (λ e h. problem_fault (unranked_of c.args.dim c.args.supports.now) shape.0 shape.1 e h)
