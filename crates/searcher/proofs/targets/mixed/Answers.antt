use Rattle.std.proofs.Common.{rules, IsTrue, ◌∙◌, subst}
use Rattle.cayley.specs.Cells.{IsOf}
use Rattle.cayley.specs.Problems.{file_points}
use Rattle.cayley.proofs.Searching.FilePoints.{file_points_well}
use Rattle.cayley.proofs.Order.Lines.{next, before_next}
use Rattle.searcher.proofs.FileTargets.{files_long, mixed_alive, resting_normal}
use Rattle.searcher.proofs.targets.mixed.Goals as goal

pub target_normal-requires-clause-still : goal.target_normal-requires-clause-still
target_normal-requires-clause-still c =
    let t : IsTrue c.has_file_points.result = search rules in
    let of = subst (IsOf (file_points c.args.problem.now)) c.cell.ensures (c.has_file_points.ensures.0 t) in
    resting_normal c.args.problem.now c.args.branch.now.cell c.args.normal c.dim-dim.ensures.valid c.requires.still of c.requires.normal

pub returns : goal.returns
returns c =
    let p = c.args.problem.now in
    let b = c.args.branch.now in
    let valid = c.dim-dim.ensures.valid in
    let t : IsTrue c.has_file_points.result = search rules in
    let of = subst (IsOf (file_points p)) c.cell.ensures (c.has_file_points.ensures.0 t) in
    let late = c.requires.late in
    let e = c.copy.ensures ∙ c.cell-2.ensures in
    let well = file_points_well p valid.shape.problem (files_long p valid) in (
      (c.requires.settled, c.requires.untied, late, of),
      e,
      mixed_alive p b.cell valid c.requires.still of (next late.0) (late.1 (next late.0) (before_next late.0)),
      rw e (c.target_normal.ensures.of_file_points p b.cell well of c.requires.normal),
    )
