use Rattle.std.proofs.Common.{rules, FitsSigned, to_z-of_z}
use Rattle.std.specs.Int.{w128}
use Rattle.cone_walls.proofs.Fining.{two_more}
use Rattle.cone_walls.proofs.fines.push_pair.Goals as goal

pub returns : goal.returns
returns c =
    let f : FitsSigned w128 c.args.numbers.0 = search rules in
    let g : FitsSigned w128 c.args.numbers.1 = search rules in
    two_more _ _ _ _ _ (simp to_z-of_z at c.in_ok-push_point.ensures) (simp to_z-of_z at c.in_ok-push_point-2.ensures)
