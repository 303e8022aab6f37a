use Rattle.std.proofs.Common.{◌≡◌, rules, FitsSigned, of_z}
use Rattle.std.specs.Int.{w128}
use Rattle.std.proofs.lemmas.Int.{fits_signed_from_abs}
use Rattle.wide_int.proofs.Signed.{is_zero}
use Rattle.crossing.proofs.Parts.{first_test}
use Rattle.crossing.proofs.entry.is_positive.Goals as goal

pub returns-in-len1-up : goal.returns-in-len1-up
returns-in-len1-up c =
    let fa : FitsSigned w128 c.args.line.now.alpha = fits_signed_from_abs w128 _ c.requires.0 in
    let z : of_z w128 c.args.line.now.alpha ≡ 0 = search rules in
    first_test c.as_slice.result.now c.args.line.now.fine c.args.line.now.alpha c.as_slice.ensures c.requires.3 (is_zero c.args.line.now.alpha fa z) c.in-len1-up.len_at_least
