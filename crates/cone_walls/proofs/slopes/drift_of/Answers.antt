use Rattle.std.proofs.Common.{rules, ◌≡◌, ◌*ℤ◌, FitsSigned, to_z-of_z}
use Rattle.std.specs.Int.{w64, w128}
use Rattle.cone_walls.proofs.slopes.drift_of.Goals as goal

pub sum_along-requires-clause-room : goal.sum_along-requires-clause-room
sum_along-requires-clause-room c =
    let fn : FitsSigned w128 c.args.normal.now.den = search rules in
    let fa : FitsSigned w64 c.args.x.now.speed = search rules in
    let fd : FitsSigned w64 c.narrowed-den.result = search rules in
    let fs : FitsSigned w64 c.scaled-first.result = search rules in
    let d : c.narrowed-den.result ≡ c.args.normal.now.den = simp to_z-of_z at c.narrowed-den.ensures in
    let s : c.scaled-first.result ≡ c.narrowed-den.result *ℤ c.args.x.now.speed = simp to_z-of_z at c.scaled-first.ensures in
    simp to_z-of_z (rw (s, d, c.as_slice.ensures.value, c.as_slice-2.ensures.value) c.requires.room)
