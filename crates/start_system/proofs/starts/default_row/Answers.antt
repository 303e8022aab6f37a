use Rattle.std.proofs.Common.{rules, FitsSigned, w64}
use Rattle.std.proofs.Math.Facts.{to_z-of_z}
use Rattle.start_system.proofs.Started.DefaultRows.{row_own, row_other, row_end}
use Rattle.start_system.proofs.starts.default_row.Goals as goal
use Rattle.start_system.proofs.starts.default_row.Goals.{then-k-i+in_ok-push, else-k-i}

pub loop-place-preserved : goal.loop-place-preserved
loop-place-preserved c = elim c.if-k-i.branch [
  | then-k-i+in_ok-push w ↦
      let f : FitsSigned w64 w.default_start.result = search rules in
      let p = simp to_z-of_z at w.in_ok-push.ensures in
      rw (w.made-is, p) (row_other c.args.i c.loop-place.place c.args.dim c.loop-place.made.items _ w.default_start.result c.loop-place-test.true w.if-k-i.true w.default_start.ensures c.loop-place.invariant)
  | else-k-i w ↦ rw w.made-is (row_own c.args.i c.loop-place.place c.args.dim c.loop-place.made.items _ c.loop-place-test.true w.if-k-i.false c.loop-place.invariant)
]

pub returns : goal.returns
returns c = row_end c.args.i c.loop-place.place c.args.dim c.loop-place.made.items _ (search rules) c.loop-place.invariant
