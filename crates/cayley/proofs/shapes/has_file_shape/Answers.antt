use Rattle.cayley.proofs.Refusals.FileShapes.{shape_from, shape_to}
use Rattle.cayley.proofs.shapes.has_file_shape.Goals as goal

pub returns-then-has_supports : goal.returns-then-has_supports
returns-then-has_supports c version = (
  λ t. shape_from (λ s. s.items) (λ s. s.items) (λ ss. ss.items) version c.args.dim c.args.supports.now c.args.starts.now
      (c.has_supports.ensures.0 c.if-has_supports.true) (c.have_starts.ensures.0 t),
  λ h. c.have_starts.ensures.1 (shape_to (λ s. s.items) (λ s. s.items) (λ ss. ss.items) version c.args.dim c.args.supports.now c.args.starts.now h).1,
)

pub returns-else-has_supports : goal.returns-else-has_supports
returns-else-has_supports c version =
    let n = c.if-has_supports.false in
    (λ t. absurd (cc), λ h. c.has_supports.ensures.1 (shape_to (λ s. s.items) (λ s. s.items) (λ ss. ss.items) version c.args.dim c.args.supports.now c.args.starts.now h).0)
