use Rattle.std.proofs.Common.{rules, ◌≡◌, ◌≤◌, length, sym, subst}
use Rattle.std.specs.Prelude.{IsTrue}
use Rattle.std.proofs.lemmas.Result.{err_from_is_err_and}
use Rattle.int_vectors.specs.Vectors.{Each}
use Rattle.inner_normal.specs.Inverses.{Inverse, FitsInverse}
use Rattle.inner_normal.proofs.CellAnswers.{reduced_widths}
use Rattle.inner_normal.proofs.Faults.{fault_other}
use Rattle.searcher.specs.LineCircuits.{FitsItsCircuit}
use Rattle.searcher.specs.Workings.{FitAllCircuits}
use Rattle.searcher.proofs.AllCircuits.{name_further, no_circuits, all_circuits, each_circuit, inverse_fits, no_line}
use Rattle.searcher.proofs.circuits.fitting_inverse.Goals as goal

pub returns-then-is_empty : goal.returns-then-is_empty
returns-then-is_empty c =
    let e : length c.args.lines.now ≡ 0 = search (rules, c.is_empty.ensures, c.if-is_empty.true) in
    let n = no_line c.args.lines.now e in
    (no_circuits c.args.problem.now c.args.cell.now c.args.reduced.now c.args.lines.now c.requires.places n, n)

pub of-requires : goal.of-requires
of-requires c = record { widths = reduced_widths c.args.problem.now c.args.cell.now c.dim-dim.ensures.valid.shape.problem c.requires.cell c.args.reduced.now c.requires.answer }

pub returns-in_err-inverse : goal.returns-in_err-inverse
returns-in_err-inverse c =
    let l : 1 ≤ length c.args.lines.now = search (rules, c.is_empty.ensures, c.if-is_empty.false) in
    let f = name_further c.args.problem.now c.args.cell.now c.args.reduced.now c.args.lines.now c.requires.places c.dim-dim.ensures.valid.shape.problem.supports in
    let p = err_from_is_err_and c.from_residual.result c.from_residual.ensures.1 in
    rw (p.1, p.2) (fault_other (FitsInverse c.args.reduced.now) (FitAllCircuits c.args.problem.now c.args.cell.now c.args.reduced.now) c.in_err-inverse.field-0.0
    (λ n g. n (inverse_fits c.args.problem.now c.args.cell.now c.args.reduced.now c.args.lines.now l f g)) c.in_err-inverse.ensures)

pub circuits_fit-requires-clause-inverse : goal.circuits_fit-requires-clause-inverse
circuits_fit-requires-clause-inverse c = (c.args.reduced.now, c.requires.answer, c.in_ok-inverse.ensures.1)

pub circuits_fit-requires-clause-further : goal.circuits_fit-requires-clause-further
circuits_fit-requires-clause-further c = name_further c.args.problem.now c.args.cell.now c.args.reduced.now c.args.lines.now c.requires.places c.dim-dim.ensures.valid.shape.problem.supports

pub returns-then-not-circuits_fit : goal.returns-then-not-circuits_fit
returns-then-not-circuits_fit c =
    let n : ¬ (IsTrue c.circuits_fit.result) = search rules in
    let f = name_further c.args.problem.now c.args.cell.now c.args.reduced.now c.args.lines.now c.requires.places c.dim-dim.ensures.valid.shape.problem.supports in
    λ g. n (c.circuits_fit.ensures.1
    (subst (λ (i : Inverse). Each c.args.lines.now (FitsItsCircuit c.args.problem.now c.args.cell.now i)) (sym c.in_ok-inverse.ensures.1)
    (each_circuit c.args.problem.now c.args.cell.now c.args.reduced.now c.args.lines.now f g)))

pub returns : goal.returns
returns c =
    let t : IsTrue c.circuits_fit.result = search rules in (
      all_circuits c.args.problem.now c.args.cell.now c.args.reduced.now c.args.lines.now c.requires.places c.in_ok-inverse.ensures.0
          (subst (λ (i : Inverse). Each c.args.lines.now (FitsItsCircuit c.args.problem.now c.args.cell.now i)) c.in_ok-inverse.ensures.1 (c.circuits_fit.ensures.0 t)),
      c.in_ok-inverse.ensures.1,
    )
