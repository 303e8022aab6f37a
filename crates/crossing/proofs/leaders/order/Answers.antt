use Rattle.std.proofs.Common.{subst, sym, rules, arith, FitsSigned, to_z-of_z}
use Rattle.std.specs.Int.{w128}
use Rattle.std.proofs.lemmas.Int.{fits_signed_from_abs}
use Rattle.lex_height.specs.Values.{AreParts}
use Rattle.lex_height.proofs.Ranks.{weaker}
use Rattle.crossing.proofs.Parts.{order_fine, order_first}
use Rattle.crossing.proofs.leaders.order.Goals as goal

pub compare_parts-requires-clause-first : goal.compare_parts-requires-clause-first
compare_parts-requires-clause-first c = subst (AreParts 0) (sym c.as_slice.ensures) (weaker 1 0 c.args.first.now.fine (omega arith) c.requires.first_fits.3)

pub compare_parts-requires-clause-second : goal.compare_parts-requires-clause-second
compare_parts-requires-clause-second c = subst (AreParts 0) (sym c.as_slice-in-Equal.ensures) (weaker 1 0 c.args.second.now.fine (omega arith) c.requires.second_fits.3)

pub returns-in-Equal : goal.returns-in-Equal
returns-in-Equal c =
    let fa : FitsSigned w128 c.args.first.now.alpha = fits_signed_from_abs w128 _ c.requires.first_fits.0 in
    let fb : FitsSigned w128 c.args.second.now.alpha = fits_signed_from_abs w128 _ c.requires.second_fits.0 in
    let fs : FitsSigned w128 c.steepness-steep.result = search rules in
    let ft : FitsSigned w128 c.steepness-other.result = search rules in
    let e = rw (c.steepness-steep.ensures.value, c.steepness-other.ensures.value) at (simp to_z-of_z at c.in-Equal.ensures) in
    let m = rw (c.as_slice.ensures, c.as_slice-in-Equal.ensures, c.steepness-steep.ensures.value, c.steepness-other.ensures.value) at (simp to_z-of_z at c.compare_parts.ensures) in
    order_fine c.args.way c.args.first.now c.args.second.now c.compare_parts.result c.requires.first_fits c.requires.second_fits e m

pub returns-in_default : goal.returns-in_default
returns-in_default c =
    let fa : FitsSigned w128 c.args.first.now.alpha = fits_signed_from_abs w128 _ c.requires.first_fits.0 in
    let fb : FitsSigned w128 c.args.second.now.alpha = fits_signed_from_abs w128 _ c.requires.second_fits.0 in
    let fs : FitsSigned w128 c.steepness-steep.result = search rules in
    let ft : FitsSigned w128 c.steepness-other.result = search rules in
    let m = rw (c.steepness-steep.ensures.value, c.steepness-other.ensures.value) at (simp to_z-of_z at c.compare.ensures) in
    order_first c.args.way c.args.first.now c.args.second.now c.compare.result c.in_default.not-Equal m
