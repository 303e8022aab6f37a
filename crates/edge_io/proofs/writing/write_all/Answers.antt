use Rattle.std.proofs.Common.{arith, take, drop}
use Rattle.std.proofs.Math.Seq.{take-add}
use Rattle.std.proofs.lemmas.Grind.{common_steps}
use Rattle.edge_io.proofs.Bytes.{appends_more}
use Rattle.edge_io.proofs.writing.write_all.Goals as goal

pub loop-done-preserved : goal.loop-done-preserved
loop-done-preserved g c = (
  rw take-add (appends_more _ _ _ (take c.loop-done.done c.args.bytes.now) (take c.in_ok-count.count (drop c.loop-done.done c.args.bytes.now))
      c.loop-done.invariant.0 (grind (arith, common_steps, c.in_ok-count.ensures.bytes))),
  omega (arith, c.in_ok-count.ensures.cause.later),
  grind (arith, common_steps, c.in_ok-count.ensures.bound),
)
