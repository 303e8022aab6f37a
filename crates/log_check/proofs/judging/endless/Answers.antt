use Rattle.std.proofs.Common.{rules, IsTrue, sym, subst}
use Rattle.cayley.proofs.Searching.FilePoints.{file_points_well}
use Rattle.inner_normal.specs.MovingNormals.{IsMovingNormal}
use Rattle.searcher.proofs.FileTargets.{files_long, resting_normal}
use Rattle.log_check.proofs.Inverting.{moves}
use Rattle.log_check.proofs.judging.endless.Goals as goal

pub target_normal-requires-clause-still : goal.target_normal-requires-clause-still
target_normal-requires-clause-still c =
    let p = c.args.problem.now in
    let node = c.args.node.now in
    let t : IsTrue c.has_file_points.result = search rules in
    let m = moves p node c.dim-dim.ensures.valid.shape.problem c.requires.of c.requires.fit.inverse in
    resting_normal p node.cell c.args.walls.normal c.dim-dim.ensures.valid c.requires.still (c.has_file_points.ensures.0 t) (subst (IsMovingNormal p node.cell) (sym c.requires.walls.normal) m)

pub returns : goal.returns
returns c =
    let p = c.args.problem.now in
    let node = c.args.node.now in
    let valid = c.dim-dim.ensures.valid in
    let t : IsTrue c.has_file_points.result = search rules in
    let of = c.has_file_points.ensures.0 t in
    let m = moves p node valid.shape.problem c.requires.of c.requires.fit.inverse in
    let well = file_points_well p valid.shape.problem (files_long p valid) in (
      c.requires.fit,
      c.requires.untied,
      c.requires.late,
      of,
      c.copy.ensures,
      rw c.copy.ensures (c.target_normal.ensures.of_file_points p node.cell well of (subst (IsMovingNormal p node.cell) (sym c.requires.walls.normal) m)),
    )
