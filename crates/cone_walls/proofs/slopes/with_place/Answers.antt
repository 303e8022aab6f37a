use Rattle.std.proofs.Common.{rules, ◌≡◌, ◌^◌, ◌+ℤ◌, ◌*ℤ◌, pos, get_or, FitsSigned, to_z-of_z, arith, length, ◌<◌}
use Rattle.std.specs.Int.{w64, w128}
use Rattle.int_vectors.specs.Bounds.{IsNarrow}
use Rattle.int_vectors.proofs.BoundSums.{room_at}
use Rattle.int_vectors.proofs.DifferenceSums.{each_at}
use Rattle.cayley.specs.Valid.{IsCornerCoordinate}
use Rattle.cone_walls.proofs.Drifts.{place_value, place_room}
use Rattle.cone_walls.proofs.slopes.with_place.Goals as goal

pub short-d-requires : goal.short-d-requires
short-d-requires c =
    let f : FitsSigned w128 (get_or c.args.c.now c.args.i (pos 0)) = search rules in
    simp to_z-of_z (each_at IsCornerCoordinate c.args.c.now c.args.i (let l = c.requires.length in let p = c.requires.place in omega (arith, l, p)) c.requires.c_small)

pub narrowed-x-requires : goal.narrowed-x-requires
narrowed-x-requires c =
    let f : FitsSigned w128 (get_or c.args.v.now c.args.i (pos 0)) = search rules in
    simp to_z-of_z (each_at IsNarrow c.args.v.now c.args.i c.requires.place c.requires.v_small)

pub plus_product-requires-clause-product : goal.plus_product-requires-clause-product
plus_product-requires-clause-product c =
    let fc : FitsSigned w128 (get_or c.args.c.now c.args.i (pos 0)) = search rules in
    let fv : FitsSigned w128 (get_or c.args.v.now c.args.i (pos 0)) = search rules in
    let ft : FitsSigned w64 c.args.t = c.ranges.t in
    let fd : FitsSigned w64 c.short-d.result = search rules in
    let fx : FitsSigned w64 c.narrowed-x.result = search rules in
    let d : c.short-d.result ≡ get_or c.args.c.now c.args.i (pos 0) = simp to_z-of_z at c.short-d.ensures in
    let x : c.narrowed-x.result ≡ get_or c.args.v.now c.args.i (pos 0) = simp to_z-of_z at c.narrowed-x.ensures in
    let lc : c.args.i < length c.args.c.now = (let l = c.requires.length in let p = c.requires.place in omega (arith, l, p)) in
    let r = room_at (2 ^ 62) c.args.t c.args.c.now c.args.v.now c.args.i lc c.requires.place c.requires.room in
    simp to_z-of_z (rw (d, x) r.0)

pub plus_product-requires-clause-sum : goal.plus_product-requires-clause-sum
plus_product-requires-clause-sum c =
    let fc : FitsSigned w128 (get_or c.args.c.now c.args.i (pos 0)) = search rules in
    let fv : FitsSigned w128 (get_or c.args.v.now c.args.i (pos 0)) = search rules in
    let ft : FitsSigned w64 c.args.t = c.ranges.t in
    let fd : FitsSigned w64 c.short-d.result = search rules in
    let fx : FitsSigned w64 c.narrowed-x.result = search rules in
    let d : c.short-d.result ≡ get_or c.args.c.now c.args.i (pos 0) = simp to_z-of_z at c.short-d.ensures in
    let x : c.narrowed-x.result ≡ get_or c.args.v.now c.args.i (pos 0) = simp to_z-of_z at c.narrowed-x.ensures in
    let lc : c.args.i < length c.args.c.now = (let l = c.requires.length in let p = c.requires.place in omega (arith, l, p)) in
    let r = room_at (2 ^ 62) c.args.t c.args.c.now c.args.v.now c.args.i lc c.requires.place c.requires.room in
    simp to_z-of_z (rw (d, x) r.1)

pub returns-clause-value : goal.returns-clause-value
returns-clause-value c =
    let fc : FitsSigned w128 (get_or c.args.c.now c.args.i (pos 0)) = search rules in
    let fv : FitsSigned w128 (get_or c.args.v.now c.args.i (pos 0)) = search rules in
    let ft : FitsSigned w64 c.args.t = c.ranges.t in
    let fd : FitsSigned w64 c.short-d.result = search rules in
    let fx : FitsSigned w64 c.narrowed-x.result = search rules in
    let fr : FitsSigned w64 c.plus_product.result = search rules in
    let d : c.short-d.result ≡ get_or c.args.c.now c.args.i (pos 0) = simp to_z-of_z at c.short-d.ensures in
    let x : c.narrowed-x.result ≡ get_or c.args.v.now c.args.i (pos 0) = simp to_z-of_z at c.narrowed-x.ensures in
    let lc : c.args.i < length c.args.c.now = (let l = c.requires.length in let p = c.requires.place in omega (arith, l, p)) in
    let e : c.plus_product.result ≡ c.args.t +ℤ get_or c.args.c.now c.args.i (pos 0) *ℤ get_or c.args.v.now c.args.i (pos 0) = rw (d, x) at (simp to_z-of_z at c.plus_product.ensures) in
    simp to_z-of_z (place_value c.args.t c.plus_product.result c.args.c.now c.args.v.now c.args.i lc c.requires.place e)

pub returns-clause-room : goal.returns-clause-room
returns-clause-room c =
    let fc : FitsSigned w128 (get_or c.args.c.now c.args.i (pos 0)) = search rules in
    let fv : FitsSigned w128 (get_or c.args.v.now c.args.i (pos 0)) = search rules in
    let ft : FitsSigned w64 c.args.t = c.ranges.t in
    let fd : FitsSigned w64 c.short-d.result = search rules in
    let fx : FitsSigned w64 c.narrowed-x.result = search rules in
    let fr : FitsSigned w64 c.plus_product.result = search rules in
    let d : c.short-d.result ≡ get_or c.args.c.now c.args.i (pos 0) = simp to_z-of_z at c.short-d.ensures in
    let x : c.narrowed-x.result ≡ get_or c.args.v.now c.args.i (pos 0) = simp to_z-of_z at c.narrowed-x.ensures in
    let lc : c.args.i < length c.args.c.now = (let l = c.requires.length in let p = c.requires.place in omega (arith, l, p)) in
    let e : c.plus_product.result ≡ c.args.t +ℤ get_or c.args.c.now c.args.i (pos 0) *ℤ get_or c.args.v.now c.args.i (pos 0) = rw (d, x) at (simp to_z-of_z at c.plus_product.ensures) in
    simp to_z-of_z (place_room c.args.t c.plus_product.result c.args.c.now c.args.v.now c.args.i lc c.requires.place e c.requires.room)
