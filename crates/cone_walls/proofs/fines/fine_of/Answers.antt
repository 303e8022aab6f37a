use Rattle.std.proofs.Common.{rules, ◌-◌, ◌≤◌, ◌∙◌, length, arith, ap, sym, subst, FitsSigned, to_z-of_z}
use Rattle.std.specs.Int.{w128}
use Rattle.int_vectors.specs.Fits.{AllFit}
use Rattle.inner_normal.specs.Coefficients.{difference, products, last_of}
use Rattle.inner_normal.proofs.PairNumbers.{last-coefficients}
use Rattle.inner_normal.proofs.Reading.{support_read}
use Rattle.cone_walls.proofs.Fining.{fine_is, count_by}
use Rattle.cone_walls.proofs.fines.fine_of.Goals as goal

pub parts_of-requires-clause-count : goal.parts_of-requires-clause-count
parts_of-requires-clause-count c =
    let e = c.in_ok-numbers.ensures in
    count_by c.args.problem.now c.args.cell.now c.args.inverse.now (c.args.support - 1) (difference c.args.problem.now c.args.cell.now (c.args.support - 1) c.args.position) c.in_ok-numbers.numbers e.valid.shape.problem c.requires.cell c.requires.count e.value.1

pub parts_of-requires-clause-position : goal.parts_of-requires-clause-position
parts_of-requires-clause-position c =
    let f = c.requires.point.2 in
    let p = c.args.problem.now in
    (f.0, subst (λ s. c.args.position ≤ length s) (sym (support_read p.supports (c.args.support - 1))) f.1)

pub returns : goal.returns
returns c =
    let a = c.requires.point.0 in
    let b = c.requires.point.1 in
    let p = c.args.problem.now in
    let i = c.args.inverse.now in
    let v = difference p c.args.cell.now (c.args.support - 1) c.args.position in
    let e = c.in_ok-numbers.ensures in
    let d = c.den-last.ensures in
    let f : FitsSigned w128 c.den-last.result = search rules in
    let s = c.as_slice-entries.ensures in
    let count = count_by p c.args.cell.now i (c.args.support - 1) v c.in_ok-numbers.numbers e.valid.shape.problem c.requires.cell c.requires.count e.value.1 in
    let last = ap last_of e.value.1 ∙ last-coefficients 0 (c.args.support - 1) i.den (products v i.columns) in (
      e.value.0,
      fine_is p c.args.cell.now i (c.args.support - 1) c.args.position c.in_ok-numbers.numbers c.den-last.result c.from_vec.result e.valid c.requires.cell (omega (arith, a, b)) c.requires.point.2
          e.value.1 (subst AllFit s.value s.fits) count last d.value d.fits (c.from_vec.ensures ∙ (simp to_z-of_z at c.in_ok-parts.ensures)),
    )
