use Rattle.std.proofs.Common.{rules, ◌≡◌, ◌-ℤ◌, ◌*ℤ◌, FitsSigned, to_z-of_z}
use Rattle.std.specs.Int.{w64, w128}
use Rattle.int_vectors.specs.Vectors.{sub}
use Rattle.int_vectors.proofs.BoundSums.{room_fits}
use Rattle.cone_walls.proofs.sums.wide_line.Goals as goal

pub dot_between_unchecked-alpha-requires-clause-fits : goal.dot_between_unchecked-alpha-requires-clause-fits
dot_between_unchecked-alpha-requires-clause-fits c =
    let fd : FitsSigned w128 c.args.normal.now.den = search rules in
    let fa : FitsSigned w64 c.args.a.now.base = search rules in
    let fc : FitsSigned w64 c.args.c.now.base = search rules in
    let fr : FitsSigned w128 c.base_difference.result = search rules in
    let fs : FitsSigned w128 c.wide_scaled-start.result = search rules in
    let r : c.base_difference.result ≡ c.args.c.now.base -ℤ c.args.a.now.base = simp to_z-of_z at c.base_difference.ensures.value in
    let s : c.wide_scaled-start.result ≡ c.args.normal.now.den *ℤ c.base_difference.result = simp to_z-of_z at c.wide_scaled-start.ensures in
    simp to_z-of_z (rw (s, r, c.as_slice.ensures.value, c.as_slice-from.ensures.value, c.as_slice-to.ensures.value) (room_fits _ (sub c.args.c.now.coords c.args.a.now.coords) c.args.normal.now.p c.requires.alpha))

pub dot_between_unchecked-beta-requires-clause-fits : goal.dot_between_unchecked-beta-requires-clause-fits
dot_between_unchecked-beta-requires-clause-fits c =
    let fd : FitsSigned w128 c.args.normal.now.den = search rules in
    let fa : FitsSigned w64 c.args.a.now.speed = search rules in
    let fc : FitsSigned w64 c.args.c.now.speed = search rules in
    let fr : FitsSigned w128 c.speed_difference.result = search rules in
    let fs : FitsSigned w128 c.wide_scaled-other.result = search rules in
    let r : c.speed_difference.result ≡ c.args.c.now.speed -ℤ c.args.a.now.speed = simp to_z-of_z at c.speed_difference.ensures.value in
    let s : c.wide_scaled-other.result ≡ c.args.normal.now.den *ℤ c.speed_difference.result = simp to_z-of_z at c.wide_scaled-other.ensures in
    simp to_z-of_z (rw (s, r, c.as_slice-2.ensures.value, c.as_slice-from.ensures.value, c.as_slice-to.ensures.value) (room_fits _ (sub c.args.c.now.coords c.args.a.now.coords) c.args.normal.now.q c.requires.beta))
