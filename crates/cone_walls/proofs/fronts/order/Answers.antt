use Rattle.std.proofs.Common.{rules, ◌≡◌, ◌*ℤ◌, neg_ℤ, FitsSigned, to_z-of_z, sym, subst}
use Rattle.std.specs.Int.{w64, w128}
use Rattle.int_vectors.specs.Bounds.{IsNarrow}
use Rattle.cone_walls.proofs.LeadingLines.{order_by}
use Rattle.cone_walls.proofs.NarrowPoints.{narrow_neg}
use Rattle.cone_walls.proofs.fronts.order.Goals as goal

pub wide_product-own-requires-clause-y : goal.wide_product-own-requires-clause-y
wide_product-own-requires-clause-y c =
    let ft : FitsSigned w64 c.steepness-other.result = search rules in
    simp to_z-of_z (subst IsNarrow (sym c.steepness-other.ensures) (narrow_neg c.args.second.now.beta c.requires.second.2))

pub wide_product-theirs-requires-clause-y : goal.wide_product-theirs-requires-clause-y
wide_product-theirs-requires-clause-y c =
    let fs : FitsSigned w64 c.steepness-steep.result = search rules in
    simp to_z-of_z (subst IsNarrow (sym c.steepness-steep.ensures) (narrow_neg c.args.first.now.beta c.requires.first.2))

pub returns : goal.returns
returns c =
    let fa : FitsSigned w64 c.args.first.now.alpha = search rules in
    let fb : FitsSigned w64 c.args.second.now.alpha = search rules in
    let fs : FitsSigned w64 c.steepness-steep.result = search rules in
    let ft : FitsSigned w64 c.steepness-other.result = search rules in
    let fo : FitsSigned w128 c.wide_product-own.result = search rules in
    let fh : FitsSigned w128 c.wide_product-theirs.result = search rules in
    let o : c.wide_product-own.result ≡ c.args.first.now.alpha *ℤ neg_ℤ c.args.second.now.beta = rw c.steepness-other.ensures at (simp to_z-of_z at c.wide_product-own.ensures) in
    let h : c.wide_product-theirs.result ≡ c.args.second.now.alpha *ℤ neg_ℤ c.args.first.now.beta = rw c.steepness-steep.ensures at (simp to_z-of_z at c.wide_product-theirs.ensures) in
    let m = rw (o, h) at (simp to_z-of_z at c.compared.ensures) in
    order_by c.args.first.now c.args.second.now c.compared.result m
