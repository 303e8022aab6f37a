use Rattle.std.proofs.Common.{◌*ℤ◌, refl, FitsSigned, to_z-of_z}
use Rattle.std.specs.Int.{w64, w128}
use Rattle.std.proofs.lemmas.Int.{fits_signed_from_abs}
use Rattle.cone_walls.proofs.NarrowPoints.{whole, product_below}
use Rattle.cone_walls.proofs.fronts.wide_product.Goals as goal

pub overflow_mul-result : goal.overflow_mul-result
overflow_mul-result c =
    let fx : FitsSigned w64 c.args.x = c.ranges.x in
    let fy : FitsSigned w64 c.args.y = c.ranges.y in
    let gx : FitsSigned w128 c.args.x = fits_signed_from_abs w128 _ (whole _ c.requires.x) in
    let gy : FitsSigned w128 c.args.y = fits_signed_from_abs w128 _ (whole _ c.requires.y) in
    simp to_z-of_z (fits_signed_from_abs w128 _ (product_below c.args.x c.args.y c.requires.x c.requires.y))

pub returns : goal.returns
returns c =
    let fx : FitsSigned w64 c.args.x = c.ranges.x in
    let fy : FitsSigned w64 c.args.y = c.ranges.y in
    let gx : FitsSigned w128 c.args.x = fits_signed_from_abs w128 _ (whole _ c.requires.x) in
    let gy : FitsSigned w128 c.args.y = fits_signed_from_abs w128 _ (whole _ c.requires.y) in
    let gp : FitsSigned w128 (c.args.x *ℤ c.args.y) = fits_signed_from_abs w128 _ (product_below c.args.x c.args.y c.requires.x c.requires.y) in
    simp to_z-of_z refl
