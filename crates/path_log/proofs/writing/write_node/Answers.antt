use Rattle.std.proofs.Common.{FitsSigned, to_z-of_z, rules}
use Rattle.std.specs.Int.{w128}
use Rattle.std.proofs.lemmas.Result.{on_ok_weaker}
use Rattle.path_log.proofs.Written.{node_written}
use Rattle.path_log.proofs.writing.write_node.Goals as goal

pub returns : goal.returns
returns c =
    let fits : FitsSigned w128 c.args.node.now.scale = search rules in
    on_ok_weaker _ (node_written _ _ _ _ _ _ _ _ c.args.node.now c.in_ok-write_bytes.ensures.ok (rw c.pairs.ensures.same at c.in_ok-write_positions.ensures)
    c.in_ok-write_bytes-2.ensures.ok (simp to_z-of_z at c.in_ok-write_int.ensures.ok) c.in_ok-write_bytes-3.ensures.ok
    (rw c.as_slice.ensures.value at c.in_ok-write_vector.ensures)) c.write_bytes-4.ensures.ok
