use Rattle.std.proofs.Common.{rules, FitsSigned, to_z-of_z}
use Rattle.std.specs.Int.{w128}
use Rattle.inner_normal.specs.LowestForms.{IsLowestForm}
use Rattle.inner_normal.proofs.CommonFactors.{lowest_normal}
use Rattle.inner_normal.proofs.FileNormals.{of_file_points}
use Rattle.inner_normal.proofs.lowest.target_normal.Goals as goal

lowest_of : (c : goal.After-drop-moving) → IsLowestForm c.args.moving.p c.args.moving.den c.in_lowest_terms.result.v c.in_lowest_terms.result.den
lowest_of c =
    let fd : FitsSigned w128 c.args.moving.den = search rules in
    simp to_z-of_z at c.in_lowest_terms.ensures

pub returns-clause-normal : goal.returns-clause-normal
returns-clause-normal c = λ p cell n. lowest_normal p cell c.args.moving _ _ (lowest_of c) n

pub returns-clause-of_file_points : goal.returns-clause-of_file_points
returns-clause-of_file_points c = λ p cell well of n. lowest_normal p cell c.args.moving _ _ (lowest_of c) (of_file_points p cell c.args.moving well of n)
