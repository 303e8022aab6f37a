use Rattle.std.proofs.Common.{rules, ◌-◌, ◌≤◌, IsTrue, length, arith, sym, subst}
use Rattle.crossing.proofs.Leading.{taken}
use Rattle.inner_normal.specs.Coefficients.{difference, FitsCoefficients}
use Rattle.inner_normal.specs.Inverses.{Inverse}
use Rattle.inner_normal.proofs.CellAnswers.{reduced_widths}
use Rattle.searcher.proofs.AllCircuits.{name_further, inverse_fits}
use Rattle.searcher.proofs.FitWorkings.{unfit_circuits}
use Rattle.searcher.proofs.OnTheWay.{children_on_their_way, ended_before_one}
use Rattle.searcher.proofs.PassedEnds.{inside, wall_ends, wall_point, at_wall, unfit_halt}
use Rattle.searcher.proofs.passing.followed.Goals as goal

pub of-requires : goal.of-requires
of-requires c = record { widths = reduced_widths c.args.problem.now c.args.cell.now c.dim-dim.ensures.valid.shape.problem c.requires.way.3.0 c.args.reduced.now c.requires.answer }

pub returns-in-Err-Overflow : goal.returns-in-Err-Overflow
returns-in-Err-Overflow c =
    let p = c.args.problem.now in
    let well = c.dim-dim.ensures.valid.shape.problem in
    let w = c.requires.walls.1 in
    let lines = c.args.lines.now in
    let i = inside p c.args.cell.now well c.requires.walls.0 lines w c.requires.way c.args.entry.now c.requires.entry c.args.time c.args.which c.requires.exit in
    let l : 1 ≤ length lines = omega (arith, i) in
    let f = name_further p c.args.cell.now c.args.reduced.now lines w.places well.supports in
    let n = rw c.in-Err-Overflow.field-0-is at c.in-Err-Overflow.ensures in
    unfit_halt p c.args.cell.now c.requires.way c.copy.result c.copy.ensures
    (unfit_circuits p c.args.cell.now c.args.reduced.now c.requires.answer (λ g. n (inverse_fits p c.args.cell.now c.args.reduced.now lines l f g)))

pub coefficients_fit_at-requires-clause-point : goal.coefficients_fit_at-requires-clause-point
coefficients_fit_at-requires-clause-point c =
    let p = c.args.problem.now in
    let cell = c.args.cell.now in
    let well = c.dim-dim.ensures.valid.shape.problem in
    let l = c.index-lines-which.result in
    wall_point p cell well c.requires.walls.0 c.args.lines.now c.requires.walls.1 c.requires.way c.args.entry.now c.requires.entry c.args.time c.args.which c.requires.exit
    l (taken c.args.lines.now (c.args.which - 1) l c.index-lines-which.is (inside p cell well c.requires.walls.0 c.args.lines.now c.requires.walls.1 c.requires.way c.args.entry.now c.requires.entry c.args.time c.args.which c.requires.exit))

pub returns-then-not-coefficients_fit_at : goal.returns-then-not-coefficients_fit_at
returns-then-not-coefficients_fit_at c =
    let p = c.args.problem.now in
    let cell = c.args.cell.now in
    let well = c.dim-dim.ensures.valid.shape.problem in
    let l = c.index-lines-which.result in
    let point =
    wall_point p cell well c.requires.walls.0 c.args.lines.now c.requires.walls.1 c.requires.way c.args.entry.now c.requires.entry c.args.time c.args.which c.requires.exit
    l (taken c.args.lines.now (c.args.which - 1) l c.index-lines-which.is (inside p cell well c.requires.walls.0 c.args.lines.now c.requires.walls.1 c.requires.way c.args.entry.now c.requires.entry c.args.time c.args.which c.requires.exit)) in
    let n : ¬ (IsTrue c.coefficients_fit_at.result) = search rules in
    unfit_halt p cell c.requires.way c.copy-then-not-coefficients_fit_at.result c.copy-then-not-coefficients_fit_at.ensures
    (unfit_circuits p cell c.args.reduced.now c.requires.answer (λ g.
    n (c.coefficients_fit_at.ensures.1
    (subst (λ (i : Inverse). FitsCoefficients (l.support - 1) i (difference p cell (l.support - 1) l.position)) (sym c.in-Ok.ensures.1) (g (l.support - 1) l.position point.2).1))))

pub kept_children-requires-clause-point : goal.kept_children-requires-clause-point
kept_children-requires-clause-point c =
    let p = c.args.problem.now in
    let cell = c.args.cell.now in
    let well = c.dim-dim.ensures.valid.shape.problem in
    let l = c.index-lines-which.result in
    wall_point p cell well c.requires.walls.0 c.args.lines.now c.requires.walls.1 c.requires.way c.args.entry.now c.requires.entry c.args.time c.args.which c.requires.exit
    l (taken c.args.lines.now (c.args.which - 1) l c.index-lines-which.is (inside p cell well c.requires.walls.0 c.args.lines.now c.requires.walls.1 c.requires.way c.args.entry.now c.requires.entry c.args.time c.args.which c.requires.exit))

pub kept_children-requires-clause-wall : goal.kept_children-requires-clause-wall
kept_children-requires-clause-wall c =
    let p = c.args.problem.now in
    let cell = c.args.cell.now in
    let well = c.dim-dim.ensures.valid.shape.problem in
    let l = c.index-lines-which.result in
    let i = inside p cell well c.requires.walls.0 c.args.lines.now c.requires.walls.1 c.requires.way c.args.entry.now c.requires.entry c.args.time c.args.which c.requires.exit in
    at_wall p cell well c.requires.walls.0 c.args.lines.now c.requires.walls.1 c.requires.way c.args.entry.now c.requires.entry c.args.time c.args.which c.requires.exit
    l (taken c.args.lines.now (c.args.which - 1) l c.index-lines-which.is i)

pub returns-in-Ok-kept_children : goal.returns-in-Ok-kept_children
returns-in-Ok-kept_children c =
    let p = c.args.problem.now in
    let cell = c.args.cell.now in
    let well = c.dim-dim.ensures.valid.shape.problem in
    let w = wall_ends p cell well c.requires.walls.0 c.args.lines.now c.requires.walls.1 c.requires.way c.args.entry.now c.requires.entry c.args.time c.args.which c.requires.exit in
    let soon = c.requires.soon w.0 w.1 w.2 in (
      ended_before_one p well cell c.requires.way w.0 w.3 soon,
      c.in-Ok-kept_children.ensures,
      children_on_their_way p well cell c.requires.way w.0 w.3 soon c.in-Ok-kept_children.children c.in-Ok-kept_children.ensures,
    )
