use Rattle.std.proofs.Common.{rules, ℤ, ◌+◌, ◌*◌, ◌-◌, ◌<◌, ◌∙◌, sym, ap₂, length, arith, FitsSigned, to_z-of_z}
use Rattle.std.specs.Int.{w128}
use Rattle.inner_normal.proofs.PairNumbers.{pair_first, pair_second}
use Rattle.cone_walls.proofs.fines.numbers_at.Goals as goal

pub returns : goal.returns
returns c =
    let place = 2 * (c.args.i - 1) in
    let l : 2 * (c.args.i - 1) + 1 < length c.args.numbers.now = c.requires.greatest in
    let f : FitsSigned w128 c.get.result = search rules in
    let g : FitsSigned w128 c.get-2.result = search rules in
    simp to_z-of_z (ap₂ (λ (x y : ℤ). (x, y))
    (c.get.ensures.value ∙ sym (pair_first c.args.numbers.now (c.args.i - 1) place (omega arith) l))
    (c.get-2.ensures.value ∙ sym (pair_second c.args.numbers.now (c.args.i - 1) place (omega arith) l)))
