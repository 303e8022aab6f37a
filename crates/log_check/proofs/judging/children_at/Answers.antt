use Rattle.std.proofs.Common.{◌≡◌, ◌∙◌, ◌-◌, length, sym, ap, subst, refl}
use Rattle.int_vectors.specs.Vectors.{Each}
use Rattle.inner_normal.specs.Inverses.{Inverse}
use Rattle.inner_normal.specs.Coefficients.{difference, coefficients_of, numbers_of, FitsCoefficients}
use Rattle.cayley.specs.Dependencies.{IsPositiveDependency}
use Rattle.crossing.proofs.Leading.{taken}
use Rattle.path_trace.proofs.Independence.{columns_long, columns_wide}
use Rattle.log_check.proofs.Ending.{inside, wall_point, wall_end}
use Rattle.log_check.proofs.Inverting.{depends}
use Rattle.log_check.proofs.judging.children_at.Goals as goal

pub signs_by-requires-clause-point : goal.signs_by-requires-clause-point
signs_by-requires-clause-point c =
    let p = c.args.problem.now in
    let node = c.args.node.now in
    let well = c.dim-dim.ensures.valid.shape.problem in
    let lines = c.args.lines.now in
    let r = c.requires in
    let l = c.index-lines-which.result in
    let is = taken lines (c.args.which - 1) l c.index-lines-which.is (inside p node well lines r.lines r.alive c.args.time c.args.which r.exit) in
    let w = wall_point p node well lines r.lines r.alive c.args.time c.args.which r.exit l is in
    w

pub signs_by-requires-clause-count : goal.signs_by-requires-clause-count
signs_by-requires-clause-count c =
    let n = c.args.problem.now.dimension in
    ap (λ (i : Inverse). length i.columns) c.requires.inverse ∙ columns_long n 0 n c.args.node.now.inverse

pub signs_by-requires-clause-columns : goal.signs_by-requires-clause-columns
signs_by-requires-clause-columns c =
    let n = c.args.problem.now.dimension in
    subst (λ (i : Inverse). Each i.columns (λ column. length column ≡ n)) (sym c.requires.inverse) (columns_wide n 0 n c.args.node.now.inverse)

pub signs_by-requires-clause-fits : goal.signs_by-requires-clause-fits
signs_by-requires-clause-fits c =
    let p = c.args.problem.now in
    let node = c.args.node.now in
    let well = c.dim-dim.ensures.valid.shape.problem in
    let lines = c.args.lines.now in
    let r = c.requires in
    let l = c.index-lines-which.result in
    let is = taken lines (c.args.which - 1) l c.index-lines-which.is (inside p node well lines r.lines r.alive c.args.time c.args.which r.exit) in
    let w = wall_point p node well lines r.lines r.alive c.args.time c.args.which r.exit l is in
    subst (λ (i : Inverse). FitsCoefficients (l.support - 1) i (difference p node.cell (l.support - 1) l.position)) (sym r.inverse) (r.fit.numbers.circuits (l.support - 1) l.position w.2)

pub signs_by-requires-clause-depends : goal.signs_by-requires-clause-depends
signs_by-requires-clause-depends c =
    let p = c.args.problem.now in
    let node = c.args.node.now in
    let well = c.dim-dim.ensures.valid.shape.problem in
    let lines = c.args.lines.now in
    let r = c.requires in
    let l = c.index-lines-which.result in
    let is = taken lines (c.args.which - 1) l c.index-lines-which.is (inside p node well lines r.lines r.alive c.args.time c.args.which r.exit) in
    let w = wall_point p node well lines r.lines r.alive c.args.time c.args.which r.exit l is in
    subst (λ (i : Inverse). IsPositiveDependency p node.cell (l.support - 1) l.position (numbers_of (coefficients_of (l.support - 1) i (difference p node.cell (l.support - 1) l.position)))) (sym r.inverse)
    (depends p node well r.alive.1.0 r.fit.inverse (l.support - 1) l.position w.2 p refl)

pub kept_by-requires-clause-point : goal.kept_by-requires-clause-point
kept_by-requires-clause-point c =
    let p = c.args.problem.now in
    let node = c.args.node.now in
    let well = c.dim-dim.ensures.valid.shape.problem in
    let lines = c.args.lines.now in
    let r = c.requires in
    let l = c.index-lines-which.result in
    let is = taken lines (c.args.which - 1) l c.index-lines-which.is (inside p node well lines r.lines r.alive c.args.time c.args.which r.exit) in
    let w = wall_point p node well lines r.lines r.alive c.args.time c.args.which r.exit l is in
    w

pub kept_by-requires-clause-wall : goal.kept_by-requires-clause-wall
kept_by-requires-clause-wall c =
    let p = c.args.problem.now in
    let node = c.args.node.now in
    let well = c.dim-dim.ensures.valid.shape.problem in
    let lines = c.args.lines.now in
    let r = c.requires in
    let l = c.index-lines-which.result in
    let is = taken lines (c.args.which - 1) l c.index-lines-which.is (inside p node well lines r.lines r.alive c.args.time c.args.which r.exit) in
    wall_end p node well lines r.lines r.alive c.args.time c.args.which r.exit l is
