use Rattle.std.proofs.Common.{◌≡◌, ◌∙◌, [], length, sym, subst}
use Rattle.std.proofs.lemmas.Result.{err_from_is_err_and}
use Rattle.int_vectors.specs.Vectors.{Each}
use Rattle.inner_normal.specs.Workings.{FitsNormal}
use Rattle.inner_normal.proofs.CellAnswers.{of_each}
use Rattle.inner_normal.proofs.Faults.{fault_other}
use Rattle.cone_walls.specs.Parts.{IsFurtherLine}
use Rattle.cone_walls.specs.Places.{AreOfFurtherPoints}
use Rattle.cone_walls.specs.Workings.{FitsRest, FitsWalls, FitsCircuits}
use Rattle.cone_walls.proofs.FurtherLines.{of_further_points, further_lines, no_parts}
use Rattle.cone_walls.proofs.Outcomes.{normal_fits, rest_from, walls_from}
use Rattle.cone_walls.proofs.walls.walls_within.Goals as goal

pub returns-in_err-normal : goal.returns-in_err-normal
returns-in_err-normal c =
    let p = c.args.problem.now in
    let cell = c.args.cell.now in
    let e = err_from_is_err_and c.from_residual.result c.from_residual.ensures.1 in
    rw (e.1, e.2) (fault_other (FitsNormal (length c.args.eliminated) c.args.eliminated) (FitsRest p cell c.args.eliminated) c.in_err-normal.field-0.0
    (λ n f. n (normal_fits p cell c.args.eliminated c.dim-dim.ensures.valid.shape.problem c.requires.of c.requires.answer f)) c.in_err-normal.ensures.working)

pub returns-in_err-coarse : goal.returns-in_err-coarse
returns-in_err-coarse c =
    let p = c.args.problem.now in
    let cell = c.args.cell.now in
    let e = err_from_is_err_and c.from_residual-in_err-coarse.result c.from_residual-in_err-coarse.ensures.1 in
    rw (e.1, e.2) (fault_other (FitsWalls p cell c.in_ok-normal.normal) (FitsRest p cell c.args.eliminated) c.in_err-coarse.field-0.0
    (λ n f. n (walls_from p cell c.args.eliminated c.in_ok-normal.normal c.in_ok-normal.ensures.working.1 f)) c.in_err-coarse.ensures.made)

pub with_fines-requires-clause-places : goal.with_fines-requires-clause-places
with_fines-requires-clause-places c =
    subst (AreOfFurtherPoints c.args.problem.now c.args.cell.now) (sym c.in_ok-coarse.ensures.made.1) (of_further_points c.in_ok-normal.normal c.args.problem.now c.args.cell.now c.requires.of)

pub with_fines-requires-clause-points : goal.with_fines-requires-clause-points
with_fines-requires-clause-points c =
    subst (λ ls. Each ls (IsFurtherLine c.args.problem.now c.args.cell.now)) (sym c.in_ok-coarse.ensures.made.1)
    (further_lines c.in_ok-normal.normal c.args.problem.now c.args.cell.now c.dim-dim.ensures.valid.shape.problem.supports)

pub with_fines-requires-clause-coarse : goal.with_fines-requires-clause-coarse
with_fines-requires-clause-coarse c = subst (λ ls. Each ls (λ line. line.fine ≡ [])) (sym c.in_ok-coarse.ensures.made.1) (no_parts c.in_ok-normal.normal c.args.problem.now c.args.cell.now)

pub returns-in_err-lines : goal.returns-in_err-lines
returns-in_err-lines c =
    let p = c.args.problem.now in
    let cell = c.args.cell.now in
    let e = err_from_is_err_and c.from_residual-in_err-lines.result c.from_residual-in_err-lines.ensures.1 in
    rw (e.1, e.2) (fault_other (FitsCircuits p cell c.args.eliminated) (FitsRest p cell c.args.eliminated) c.in_err-lines.field-0.0 (λ n f. n f.2) c.in_err-lines.ensures)

pub returns : goal.returns
returns c =
    let p = c.args.problem.now in
    let cell = c.args.cell.now in
    let w = c.in_ok-normal.ensures.working in
    let l = c.in_ok-coarse.ensures in
    let k = c.in_ok-lines.ensures in
    let well = c.dim-dim.ensures.valid.shape.problem in
    rw c.into_reduced.ensures (record {
      answer = c.requires.answer;
      from = w.1;
      moving = λ q same. of_each p q cell c.args.eliminated c.in_ok-normal.normal well c.requires.of c.requires.answer c.in_ok-normal.ensures.normal same;
      made = k.1 ∙ l.made.1;
      fine = k.2;
      rest = rest_from p cell c.args.eliminated c.in_ok-normal.normal well c.requires.of c.requires.answer w.1 w.0 l.made.0 k.0;
      fit = k.3;
    })
