use Rattle.std.proofs.Common.{rules, ◌≡◌, ◌^◌, ◌+ℤ◌, ◌*ℤ◌, pos, get_or, FitsSigned, to_z-of_z, arith}
use Rattle.std.specs.Int.{w64}
use Rattle.int_vectors.proofs.BoundSums.{room_at}
use Rattle.carried_inverse.proofs.EntrySteps.{place_value}
use Rattle.carried_inverse.proofs.entries.plus_place.Goals as goal

pub plus_product-requires-clause-product : goal.plus_product-requires-clause-product
plus_product-requires-clause-product c =
    let ft : FitsSigned w64 c.args.total = c.ranges.total in
    let fx : FitsSigned w64 (get_or c.args.row.now c.args.i (pos 0)) = search rules in
    let fy : FitsSigned w64 (get_or c.args.column.now c.args.i (pos 0)) = search rules in
    let r = room_at (2 ^ 62) c.args.total c.args.row.now c.args.column.now c.args.i (omega (arith, c.requires.lengths, c.requires.place)) c.requires.place c.requires.room in
    simp to_z-of_z r.0

pub plus_product-requires-clause-sum : goal.plus_product-requires-clause-sum
plus_product-requires-clause-sum c =
    let ft : FitsSigned w64 c.args.total = c.ranges.total in
    let fx : FitsSigned w64 (get_or c.args.row.now c.args.i (pos 0)) = search rules in
    let fy : FitsSigned w64 (get_or c.args.column.now c.args.i (pos 0)) = search rules in
    let r = room_at (2 ^ 62) c.args.total c.args.row.now c.args.column.now c.args.i (omega (arith, c.requires.lengths, c.requires.place)) c.requires.place c.requires.room in
    simp to_z-of_z r.1

pub returns-clause-value : goal.returns-clause-value
returns-clause-value c =
    let ft : FitsSigned w64 c.args.total = c.ranges.total in
    let fx : FitsSigned w64 (get_or c.args.row.now c.args.i (pos 0)) = search rules in
    let fy : FitsSigned w64 (get_or c.args.column.now c.args.i (pos 0)) = search rules in
    let fr : FitsSigned w64 c.plus_product.result = search rules in
    let e : c.plus_product.result ≡ c.args.total +ℤ get_or c.args.row.now c.args.i (pos 0) *ℤ get_or c.args.column.now c.args.i (pos 0) = simp to_z-of_z at c.plus_product.ensures in
    simp to_z-of_z (rw e (place_value c.args.total c.args.row.now c.args.column.now c.args.i (omega (arith, c.requires.lengths, c.requires.place)) c.requires.place))

pub returns-clause-room : goal.returns-clause-room
returns-clause-room c =
    let ft : FitsSigned w64 c.args.total = c.ranges.total in
    let fx : FitsSigned w64 (get_or c.args.row.now c.args.i (pos 0)) = search rules in
    let fy : FitsSigned w64 (get_or c.args.column.now c.args.i (pos 0)) = search rules in
    let fr : FitsSigned w64 c.plus_product.result = search rules in
    let e : c.plus_product.result ≡ c.args.total +ℤ get_or c.args.row.now c.args.i (pos 0) *ℤ get_or c.args.column.now c.args.i (pos 0) = simp to_z-of_z at c.plus_product.ensures in
    let r = room_at (2 ^ 62) c.args.total c.args.row.now c.args.column.now c.args.i (omega (arith, c.requires.lengths, c.requires.place)) c.requires.place c.requires.room in
    simp to_z-of_z (rw e r.2)
