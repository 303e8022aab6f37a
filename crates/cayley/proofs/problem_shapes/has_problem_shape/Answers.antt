use Rattle.cayley.proofs.Refusals.ProblemShapes.{shape_from, shape_to}
use Rattle.cayley.proofs.problem_shapes.has_problem_shape.Goals as goal

pub returns-then-is_dimension : goal.returns-then-is_dimension
returns-then-is_dimension c =
    let d = c.is_dimension.ensures.0 c.if-is_dimension.true in (
      λ t. shape_from c.args.dim c.args.supports.now d.0 d.1 (c.has_supports.ensures.0 t),
      λ h. c.has_supports.ensures.1 (shape_to c.args.dim c.args.supports.now h.0 h.1).2,
    )

pub returns-else-is_dimension : goal.returns-else-is_dimension
returns-else-is_dimension c =
    let n = c.if-is_dimension.false in
    (λ t. absurd (cc), λ h. let r = shape_to c.args.dim c.args.supports.now h.0 h.1 in c.is_dimension.ensures.1 (r.0, r.1))
