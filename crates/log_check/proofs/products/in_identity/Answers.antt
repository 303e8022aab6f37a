use Rattle.std.proofs.Common.{rules, ◌≡◌, sym, FitsSigned, to_z-of_z}
use Rattle.std.specs.Int.{w128}
use Rattle.log_check.proofs.ProductSteps.{identity_here, identity_elsewhere}
use Rattle.log_check.proofs.products.in_identity.Goals as goal

pub returns-then-i-k : goal.returns-then-i-k
returns-then-i-k c =
    let f : FitsSigned w128 c.args.g = c.ranges.g in
    let e : c.args.i ≡ c.args.k = search rules in
    simp to_z-of_z (sym (identity_here c.args.g c.args.i c.args.k e))

pub returns-else-i-k : goal.returns-else-i-k
returns-else-i-k c =
    let n : ¬ (c.args.i ≡ c.args.k) = search rules in
    sym (identity_elsewhere c.args.g c.args.i c.args.k n)
