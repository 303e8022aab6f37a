use Rattle.std.proofs.Common.{FitsSigned, to_z-of_z, rules}
use Rattle.std.specs.Int.{w128}
use Rattle.std.proofs.lemmas.Result.{on_ok_weaker}
use Rattle.homotopy_rows.specs.Stored.{row}
use Rattle.homotopy_rows.proofs.Written.{scale_written}
use Rattle.homotopy_rows.proofs.writing.write_scale.Goals as goal

pub returns : goal.returns
returns c =
    let fits : FitsSigned w128 c.args.r.now.scale = search rules in
    on_ok_weaker _ (scale_written _ _ _ _ _ _ (row c.args.r.now) c.in_ok-write_bytes.ensures.ok (rw c.pairs.ensures.same at c.in_ok-write_positions.ensures)
    c.in_ok-write_bytes-2.ensures.ok (simp to_z-of_z at c.in_ok-write_int.ensures.ok)) c.write_bytes-3.ensures.ok
