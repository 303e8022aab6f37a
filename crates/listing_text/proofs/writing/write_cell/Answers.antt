use Rattle.std.proofs.Common.{FitsSigned, to_z-of_z, rules}
use Rattle.std.specs.Int.{w128}
use Rattle.std.proofs.lemmas.Result.{on_ok_weaker}
use Rattle.listing_text.proofs.Written.{cell_written}
use Rattle.listing_text.proofs.writing.write_cell.Goals as goal

pub returns : goal.returns
returns c =
    let fits : FitsSigned w128 c.args.cell.now.normal.den = search rules in
    on_ok_weaker _ (cell_written _ _ _ _ _ _ _ _ c.args.cell.now c.in_ok-write_bytes.ensures.ok (rw c.pairs.ensures.same at c.in_ok-write_positions.ensures)
    c.in_ok-write_bytes-2.ensures.ok (rw c.as_slice.ensures.value at c.in_ok-write_vector.ensures) c.in_ok-write_bytes-3.ensures.ok
    (simp to_z-of_z at c.in_ok-write_int.ensures.ok)) c.write_bytes-4.ensures.ok
