use Rattle.std.proofs.Common.{arith, eq-eqb}
use Rattle.line_text.specs.Tokens as spec
use Rattle.line_text.proofs.Places.{first_at, none_at}
use Rattle.line_text.proofs.bytes.line_end.Goals as goal

pub returns-else-bytes-end-ne10-clause-place : goal.returns-else-bytes-end-ne10-clause-place
returns-else-bytes-end-ne10-clause-place c =
    first_at spec.is_line_feed c.args.bytes.now c.loop-end.end c.loop-end.invariant.0 c.loop-end.invariant.1 (eq-eqb _ _ c.if-bytes-end-ne10.false)

pub returns-after-loop-end-clause-place : goal.returns-after-loop-end-clause-place
returns-after-loop-end-clause-place c =
    none_at spec.is_line_feed c.args.bytes.now c.loop-end.end c.loop-end.invariant.0 c.loop-end.invariant.1 (omega arith)
