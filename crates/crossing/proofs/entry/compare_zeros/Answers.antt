use Rattle.std.proofs.Common.{subst, sym, ◌∙◌, pos, ◌-ℤ◌, FitsSigned, to_z-of_z}
use Rattle.std.specs.Int.{w128}
use Rattle.std.proofs.lemmas.Int.{fits_signed_from_abs}
use Rattle.wide_int.proofs.Signed.{neg_signed, is_neg}
use Rattle.lex_height.specs.Values.{AreParts}
use Rattle.crossing.specs.declared.leaders.Way.TheVariants.{Falling, Rising}
use Rattle.crossing.proofs.Parts.{zero_are, zeros_order, firsts_order}
use Rattle.crossing.proofs.entry.compare_zeros.Goals as goal

pub compare_parts-requires-clause-first : goal.compare_parts-requires-clause-first
compare_parts-requires-clause-first c = subst (AreParts 0) (sym (c.as_slice.ensures.parts ∙ c.zero_parts.ensures)) (zero_are Rising c.args.rise.now c.requires.rise_fits)

pub compare_parts-requires-clause-second : goal.compare_parts-requires-clause-second
compare_parts-requires-clause-second c = subst (AreParts 0) (sym (c.as_slice-in-Equal.ensures.parts ∙ c.zero_parts-in-Equal.ensures)) (zero_are Falling c.args.fall.now c.requires.fall_fits)

pub returns-in-Equal : goal.returns-in-Equal
returns-in-Equal c =
    let fb : FitsSigned w128 c.args.rise.now.beta = fits_signed_from_abs w128 _ c.requires.rise_fits.1 in
    let fd : FitsSigned w128 c.args.fall.now.beta = fits_signed_from_abs w128 _ c.requires.fall_fits.1 in
    let nd : FitsSigned w128 (pos 0 -ℤ c.args.fall.now.beta) = neg_signed c.args.fall.now.beta c.requires.fall_fits.1 in
    let m = rw (is_neg c.args.fall.now.beta) at (simp to_z-of_z at c.compare_parts.ensures) in
    let n = rw (c.as_slice.ensures.parts, c.zero_parts.ensures, c.as_slice-in-Equal.ensures.parts, c.zero_parts-in-Equal.ensures) at m in
    zeros_order c.args.rise.now c.args.fall.now c.compare_parts.result c.requires.rise_fits c.requires.fall_fits n

pub returns-in_default : goal.returns-in_default
returns-in_default c =
    let fa : FitsSigned w128 c.args.rise.now.alpha = fits_signed_from_abs w128 _ c.requires.rise_fits.0 in
    let fb : FitsSigned w128 c.args.rise.now.beta = fits_signed_from_abs w128 _ c.requires.rise_fits.1 in
    let fc : FitsSigned w128 c.args.fall.now.alpha = fits_signed_from_abs w128 _ c.requires.fall_fits.0 in
    let fd : FitsSigned w128 c.args.fall.now.beta = fits_signed_from_abs w128 _ c.requires.fall_fits.1 in
    let na : FitsSigned w128 (pos 0 -ℤ c.args.rise.now.alpha) = neg_signed c.args.rise.now.alpha c.requires.rise_fits.0 in
    let nd : FitsSigned w128 (pos 0 -ℤ c.args.fall.now.beta) = neg_signed c.args.fall.now.beta c.requires.fall_fits.1 in
    let m = rw (is_neg c.args.rise.now.alpha, is_neg c.args.fall.now.beta) at (simp to_z-of_z at c.compare.ensures) in
    firsts_order c.args.rise.now c.args.fall.now c.compare.result c.in_default.not-Equal m
