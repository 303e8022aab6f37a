use Rattle.std.proofs.Common.{rules, ◌∷◌, [], ◌+◌, ◌*◌, ◌-◌, ◌<◌, ◌∙◌, sym, ap, ap₂, length, FitsSigned, to_z-of_z, arith}
use Rattle.std.specs.Int.{w128}
use Rattle.cayley.specs.declared.found.Sign.{Sign}
use Rattle.cayley.specs.declared.found.Sign.TheVariants.{Plus}
use Rattle.cayley.specs.Signs.{sign_of}
use Rattle.inner_normal.proofs.PairNumbers.{pair_first, pair_second}
use Rattle.circuit.proofs.circuits.Circuit.signs.Goals as goal

pub returns : goal.returns
returns c =
    let form = c.requires.1 in
    let place = 2 * (c.args.self.now.support - 1) in
    let count = form.count in
    let most = form.support.1 in
    let least = form.support.0 in
    let l : 2 * (c.args.self.now.support - 1) + 1 < length c.args.self.now.coefficients = omega (arith, count, most, least) in
    let ff : FitsSigned w128 c.get.result = search rules in
    let fs : FitsSigned w128 c.get-2.result = search rules in
    let a = (simp to_z-of_z at c.sign_of-first.ensures) ∙ ap sign_of (c.get.ensures.value ∙ sym (pair_first c.args.self.now.coefficients (c.args.self.now.support - 1) place (omega arith) l)) in
    let b = (simp to_z-of_z at c.sign_of-second.ensures) ∙ ap sign_of (c.get-2.ensures.value ∙ sym (pair_second c.args.self.now.coefficients (c.args.self.now.support - 1) place (omega arith) l)) in
    ap₂ (λ (x y : Sign). x ∷ y ∷ Plus ∷ []) a b
