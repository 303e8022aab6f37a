use Rattle.std.proofs.Common.{rules, ◌≡◌, ◌-ℤ◌, FitsSigned, to_z-of_z}
use Rattle.std.proofs.lemmas.Int.{fits_signed_from_abs}
use Rattle.std.specs.Int.{w64, w128}
use Rattle.cone_walls.proofs.sums.checked_line.Goals as goal

pub returns-in_err-beta-clause-value : goal.returns-in_err-beta-clause-value
returns-in_err-beta-clause-value c =
    let fd : FitsSigned w128 c.args.normal.now.den = search rules in
    let fa : FitsSigned w64 c.args.a.now.speed = search rules in
    let fc : FitsSigned w64 c.args.c.now.speed = search rules in
    let d : c.speed_difference.result ≡ c.args.c.now.speed -ℤ c.args.a.now.speed = simp to_z-of_z at c.speed_difference.ensures.value in
    let fs : FitsSigned w128 (c.args.c.now.speed -ℤ c.args.a.now.speed) = fits_signed_from_abs w128 _ (rw d at c.speed_difference.ensures.fits) in
    let r = rw (d, c.as_slice-2.ensures.value) at c.in_err-beta.ensures.value in
    let n = simp to_z-of_z at r in
    rw c.from_residual-in_err-beta.ensures (λ f. n f.1)
