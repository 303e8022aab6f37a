use Rattle.std.proofs.Common.{FitsSigned, to_z-of_z, rules}
use Rattle.std.specs.Int.{w64}
use Rattle.std.proofs.lemmas.Result.{on_ok_weaker}
use Rattle.cayley.specs.Stored.{file_point}
use Rattle.support_text.proofs.Written.{point_written}
use Rattle.support_text.proofs.writing.write_point.Goals as goal

pub returns : goal.returns
returns c =
    let fits : FitsSigned w64 c.args.point.now.height = search rules in
    on_ok_weaker _ (point_written _ _ _ _ _ (file_point c.args.point.now) (rw c.as_slice.ensures.value at c.in_ok-write_numbers.ensures) c.in_ok-write_bytes.ensures.ok
    (simp to_z-of_z at c.in_ok-write_height.ensures)) c.write_bytes-2.ensures.ok
