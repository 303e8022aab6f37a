use Rattle.std.proofs.Common.{◌-◌, subst, arith, pos, ◌<ℤ◌}
use Rattle.std.proofs.lemmas.Result.{MatchResult-weaker}
use Rattle.inner_normal.proofs.Meaning.{inverse_shape, numbers_however, numbers_count, numbers_last}
use Rattle.inner_normal.proofs.further.coefficients_at.Goals as goal

pub coefficients_by-requires-clause-count : goal.coefficients_by-requires-clause-count
coefficients_by-requires-clause-count c = (inverse_shape c.args.problem.now c.args.cell.now c.dim-dim.ensures.valid.shape.problem c.requires.cell c.args.inverse.now c.requires.inverse).0

pub coefficients_by-requires-clause-columns : goal.coefficients_by-requires-clause-columns
coefficients_by-requires-clause-columns c = (inverse_shape c.args.problem.now c.args.cell.now c.dim-dim.ensures.valid.shape.problem c.requires.cell c.args.inverse.now c.requires.inverse).1

positive_den : (c : goal.After-coefficients_by) → pos 0 <ℤ c.den-den.result
positive_den c = c.den-den.ensures.positive

pub returns-clause-dependency : goal.returns-clause-dependency
returns-clause-dependency c =
    let a = c.requires.point.0 in
    let b = c.requires.point.1 in
    MatchResult-weaker c.coefficients_by.result c.coefficients_by.ensures.value (λ made e.
    numbers_however c.args.problem.now c.args.cell.now (c.args.support - 1) c.args.position c.dim-dim.ensures.valid.shape.problem c.requires.cell (omega (arith, a, b)) c.requires.point.2 c.args.inverse.now c.requires.inverse made e.1 (subst (λ z. pos 0 <ℤ z) c.den-den.ensures.value (positive_den c))) (λ _ _. tt)

pub returns-clause-count : goal.returns-clause-count
returns-clause-count c =
    let a = c.requires.point.0 in
    let b = c.requires.point.1 in
    MatchResult-weaker c.coefficients_by.result c.coefficients_by.ensures.value (λ made e.
    numbers_count c.args.problem.now c.args.cell.now (c.args.support - 1) c.args.position c.dim-dim.ensures.valid.shape.problem c.requires.cell (omega (arith, a, b)) c.requires.point.2 c.args.inverse.now c.requires.inverse made e.1) (λ _ _. tt)

pub returns-clause-last : goal.returns-clause-last
returns-clause-last c =
    let a = c.requires.point.0 in
    let b = c.requires.point.1 in
    MatchResult-weaker c.coefficients_by.result c.coefficients_by.ensures.value (λ made e.
    numbers_last c.args.problem.now c.args.cell.now (c.args.support - 1) c.args.position c.dim-dim.ensures.valid.shape.problem c.requires.cell (omega (arith, a, b)) c.requires.point.2 c.args.inverse.now c.requires.inverse made e.1) (λ _ _. tt)
