use Rattle.std.proofs.Common.{rules, ◌≡◌, ◌^◌, ◌+ℤ◌, ◌-ℤ◌, ◌*ℤ◌, pos, get_or, FitsSigned, to_z-of_z, arith}
use Rattle.std.specs.Int.{w64, w128}
use Rattle.int_vectors.specs.Bounds.{IsNarrow}
use Rattle.int_vectors.proofs.DifferenceSums.{each_at, room_between}
use Rattle.cayley.specs.Valid.{IsCornerCoordinate}
use Rattle.cone_walls.proofs.Drifts.{difference_value, difference_room}
use Rattle.cone_walls.proofs.slopes.with_difference.Goals as goal

pub between-d-requires-clause-a_small : goal.between-d-requires-clause-a_small
between-d-requires-clause-a_small c =
    let f : FitsSigned w128 (get_or c.args.a.now c.args.i (pos 0)) = search rules in
    simp to_z-of_z (each_at IsCornerCoordinate c.args.a.now c.args.i (let l = c.requires.a_length in let p = c.requires.place in omega (arith, l, p)) c.requires.a_small)

pub between-d-requires-clause-c_small : goal.between-d-requires-clause-c_small
between-d-requires-clause-c_small c =
    let f : FitsSigned w128 (get_or c.args.c.now c.args.i (pos 0)) = search rules in
    simp to_z-of_z (each_at IsCornerCoordinate c.args.c.now c.args.i (let l = c.requires.c_length in let p = c.requires.place in omega (arith, l, p)) c.requires.c_small)

pub narrowed-x-requires : goal.narrowed-x-requires
narrowed-x-requires c =
    let f : FitsSigned w128 (get_or c.args.v.now c.args.i (pos 0)) = search rules in
    simp to_z-of_z (each_at IsNarrow c.args.v.now c.args.i c.requires.place c.requires.v_small)

pub plus_product-requires-clause-product : goal.plus_product-requires-clause-product
plus_product-requires-clause-product c =
    let fc : FitsSigned w128 (get_or c.args.c.now c.args.i (pos 0)) = search rules in
    let fa : FitsSigned w128 (get_or c.args.a.now c.args.i (pos 0)) = search rules in
    let fv : FitsSigned w128 (get_or c.args.v.now c.args.i (pos 0)) = search rules in
    let ft : FitsSigned w64 c.args.t = c.ranges.t in
    let fd : FitsSigned w64 c.between-d.result = search rules in
    let fx : FitsSigned w64 c.narrowed-x.result = search rules in
    let d : c.between-d.result ≡ get_or c.args.c.now c.args.i (pos 0) -ℤ get_or c.args.a.now c.args.i (pos 0) = simp to_z-of_z at c.between-d.ensures in
    let x : c.narrowed-x.result ≡ get_or c.args.v.now c.args.i (pos 0) = simp to_z-of_z at c.narrowed-x.ensures in
    let r = room_between c.args.t c.args.t c.args.a.now c.args.c.now c.args.v.now c.args.i c.requires.a_length c.requires.c_length c.requires.place (2 ^ 62) c.requires.room in
    simp to_z-of_z (rw (d, x) r.0)

pub plus_product-requires-clause-sum : goal.plus_product-requires-clause-sum
plus_product-requires-clause-sum c =
    let fc : FitsSigned w128 (get_or c.args.c.now c.args.i (pos 0)) = search rules in
    let fa : FitsSigned w128 (get_or c.args.a.now c.args.i (pos 0)) = search rules in
    let fv : FitsSigned w128 (get_or c.args.v.now c.args.i (pos 0)) = search rules in
    let ft : FitsSigned w64 c.args.t = c.ranges.t in
    let fd : FitsSigned w64 c.between-d.result = search rules in
    let fx : FitsSigned w64 c.narrowed-x.result = search rules in
    let d : c.between-d.result ≡ get_or c.args.c.now c.args.i (pos 0) -ℤ get_or c.args.a.now c.args.i (pos 0) = simp to_z-of_z at c.between-d.ensures in
    let x : c.narrowed-x.result ≡ get_or c.args.v.now c.args.i (pos 0) = simp to_z-of_z at c.narrowed-x.ensures in
    let r = room_between c.args.t c.args.t c.args.a.now c.args.c.now c.args.v.now c.args.i c.requires.a_length c.requires.c_length c.requires.place (2 ^ 62) c.requires.room in
    simp to_z-of_z (rw (d, x) r.1)

pub returns-clause-value : goal.returns-clause-value
returns-clause-value c =
    let fc : FitsSigned w128 (get_or c.args.c.now c.args.i (pos 0)) = search rules in
    let fa : FitsSigned w128 (get_or c.args.a.now c.args.i (pos 0)) = search rules in
    let fv : FitsSigned w128 (get_or c.args.v.now c.args.i (pos 0)) = search rules in
    let ft : FitsSigned w64 c.args.t = c.ranges.t in
    let fd : FitsSigned w64 c.between-d.result = search rules in
    let fx : FitsSigned w64 c.narrowed-x.result = search rules in
    let fr : FitsSigned w64 c.plus_product.result = search rules in
    let d : c.between-d.result ≡ get_or c.args.c.now c.args.i (pos 0) -ℤ get_or c.args.a.now c.args.i (pos 0) = simp to_z-of_z at c.between-d.ensures in
    let x : c.narrowed-x.result ≡ get_or c.args.v.now c.args.i (pos 0) = simp to_z-of_z at c.narrowed-x.ensures in
    let e : c.plus_product.result ≡ c.args.t +ℤ (get_or c.args.c.now c.args.i (pos 0) -ℤ get_or c.args.a.now c.args.i (pos 0)) *ℤ get_or c.args.v.now c.args.i (pos 0) = rw (d, x) at (simp to_z-of_z at c.plus_product.ensures) in
    simp to_z-of_z (difference_value c.args.t c.plus_product.result c.args.a.now c.args.c.now c.args.v.now c.args.i c.requires.a_length c.requires.c_length c.requires.place e)

pub returns-clause-room : goal.returns-clause-room
returns-clause-room c =
    let fc : FitsSigned w128 (get_or c.args.c.now c.args.i (pos 0)) = search rules in
    let fa : FitsSigned w128 (get_or c.args.a.now c.args.i (pos 0)) = search rules in
    let fv : FitsSigned w128 (get_or c.args.v.now c.args.i (pos 0)) = search rules in
    let ft : FitsSigned w64 c.args.t = c.ranges.t in
    let fd : FitsSigned w64 c.between-d.result = search rules in
    let fx : FitsSigned w64 c.narrowed-x.result = search rules in
    let fr : FitsSigned w64 c.plus_product.result = search rules in
    let d : c.between-d.result ≡ get_or c.args.c.now c.args.i (pos 0) -ℤ get_or c.args.a.now c.args.i (pos 0) = simp to_z-of_z at c.between-d.ensures in
    let x : c.narrowed-x.result ≡ get_or c.args.v.now c.args.i (pos 0) = simp to_z-of_z at c.narrowed-x.ensures in
    let e : c.plus_product.result ≡ c.args.t +ℤ (get_or c.args.c.now c.args.i (pos 0) -ℤ get_or c.args.a.now c.args.i (pos 0)) *ℤ get_or c.args.v.now c.args.i (pos 0) = rw (d, x) at (simp to_z-of_z at c.plus_product.ensures) in
    simp to_z-of_z (difference_room c.args.t c.plus_product.result c.args.a.now c.args.c.now c.args.v.now c.args.i c.requires.a_length c.requires.c_length c.requires.place e c.requires.room)
