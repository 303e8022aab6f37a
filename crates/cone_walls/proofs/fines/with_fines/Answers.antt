use Rattle.std.proofs.Common.{rules, ◌≡◌, ◌≢◌, [], ◌∙◌, length, sym}
use Rattle.std.proofs.lemmas.List.{nil_from_length}
use Rattle.std.proofs.lemmas.Result.{err_from_is_err_and}
use Rattle.inner_normal.proofs.Meaning.{inverse_shape}
use Rattle.cone_walls.proofs.Fining.{with_nothing, with_none, no_inverse, no_circuit, with_parts}
use Rattle.cone_walls.proofs.fines.with_fines.Goals as goal

pub returns-then-version-eq1 : goal.returns-then-version-eq1
returns-then-version-eq1 c =
    let r = c.requires in
    with_nothing c.args.problem.now c.args.cell.now c.dim-dim.ensures.valid c.args.eliminated.now r.cell c.args.lines.items r.places r.points (sym c.version.ensures ∙ c.if-version-eq1.true) r.coarse r.fit

pub returns-then-is_empty : goal.returns-then-is_empty
returns-then-is_empty c =
    let r = c.requires in
    let z : length c.args.lines.items ≡ 0 = search rules in
    let e : c.args.lines.items ≡ [] = nil_from_length c.args.lines.items z in
    with_none c.args.problem.now c.args.cell.now c.dim-dim.ensures.valid c.args.eliminated.now r.cell c.args.lines.items r.places r.points e r.fit

pub refine_all-requires-clause-count : goal.refine_all-requires-clause-count
refine_all-requires-clause-count c =
    (inverse_shape c.args.problem.now c.args.cell.now c.dim-dim.ensures.valid.shape.problem c.requires.cell c.in_ok-inverse.inverse (c.args.eliminated.now, c.requires.answer, c.in_ok-inverse.ensures.1)).0

pub refine_all-requires-clause-columns : goal.refine_all-requires-clause-columns
refine_all-requires-clause-columns c =
    (inverse_shape c.args.problem.now c.args.cell.now c.dim-dim.ensures.valid.shape.problem c.requires.cell c.in_ok-inverse.inverse (c.args.eliminated.now, c.requires.answer, c.in_ok-inverse.ensures.1)).1

pub returns-in_err-inverse : goal.returns-in_err-inverse
returns-in_err-inverse c =
    let r = c.requires in
    let n : c.version.result ≢ 1 = search rules in
    let d : c.args.lines.items ≢ [] = search rules in
    let e = err_from_is_err_and c.from_residual.result c.from_residual.ensures.1 in
    rw (e.1, e.2) (no_inverse c.args.problem.now c.args.cell.now c.dim-dim.ensures.valid c.args.eliminated.now r.cell c.args.lines.items r.places r.points (λ q. n (c.version.ensures ∙ q)) d c.in_err-inverse.field-0.0 c.in_err-inverse.ensures)

pub returns-in_err-made : goal.returns-in_err-made
returns-in_err-made c =
    let r = c.requires in
    let n : c.version.result ≢ 1 = search rules in
    let e = err_from_is_err_and c.from_residual-in_err-made.result c.from_residual-in_err-made.ensures.1 in
    rw (e.1, e.2) (no_circuit c.args.problem.now c.args.cell.now c.dim-dim.ensures.valid c.args.eliminated.now r.cell c.args.lines.items r.places r.points (λ q. n (c.version.ensures ∙ q)) c.in_ok-inverse.inverse c.in_ok-inverse.ensures.1
    c.in_err-made.field-0.0 c.in_err-made.ensures)

pub returns : goal.returns
returns c =
    let r = c.requires in
    let m = c.in_ok-made.ensures in
    with_parts c.args.problem.now c.args.cell.now c.dim-dim.ensures.valid c.args.eliminated.now r.cell c.args.lines.items r.places r.points r.coarse c.in_ok-inverse.inverse c.in_ok-inverse.ensures.1 c.in_ok-inverse.ensures.0 c.in_ok-made.made.items m.0 m.1
