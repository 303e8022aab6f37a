use Rattle.std.proofs.Common.{sym, ◌∙◌, Less, Greater, Equal, FitsSigned, to_z-of_z}
use Rattle.std.specs.Int.{w128}
use Rattle.std.proofs.lemmas.Int.{fits_signed_from_abs}
use Rattle.std.proofs.lemmas.Cmp.{ranked}
use Rattle.lex_height.proofs.Heads.{arm_less, arm_even, arm_greater}
use Rattle.lex_height.proofs.order.compare_heads.Goals as goal

pub returns-in-Less : goal.returns-in-Less
returns-in-Less c = arm_less c.args.first_den c.args.second_den c.requires.first_den c.requires.second_den c.cmp-in-Less.result c.args.first.now c.args.second.now (ranked _ _ Less (sym c.in-Less.is ∙ c.cmp.ensures)) c.cmp-in-Less.ensures

pub returns-in-Equal : goal.returns-in-Equal
returns-in-Equal c = λ more others ha hb.
    let fa : FitsSigned w128 c.args.first.now.num = fits_signed_from_abs w128 _ ha.2 in
    let fb : FitsSigned w128 c.args.second.now.num = fits_signed_from_abs w128 _ hb.2 in
    let fp : FitsSigned w128 c.args.first_den = c.ranges.first_den in
    let fq : FitsSigned w128 c.args.second_den = c.ranges.second_den in
    arm_even c.args.first_den c.args.second_den c.requires.first_den c.requires.second_den c.compare.result c.args.first.now c.args.second.now (ranked _ _ Equal (sym c.in-Equal.is ∙ c.cmp.ensures)) (simp to_z-of_z at c.compare.ensures) more others ha hb

pub returns-in-Greater : goal.returns-in-Greater
returns-in-Greater c = arm_greater c.args.first_den c.args.second_den c.requires.first_den c.requires.second_den c.cmp-in-Greater.result c.args.first.now c.args.second.now (ranked _ _ Greater (sym c.in-Greater.is ∙ c.cmp.ensures)) c.cmp-in-Greater.ensures
