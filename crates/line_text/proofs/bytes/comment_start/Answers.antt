use Rattle.std.proofs.Common.{arith, eq-eqb}
use Rattle.line_text.specs.Tokens as spec
use Rattle.line_text.proofs.Places.{first_at, none_at}
use Rattle.line_text.proofs.bytes.comment_start.Goals as goal

pub returns-else-text-start-ne35-clause-place : goal.returns-else-text-start-ne35-clause-place
returns-else-text-start-ne35-clause-place c =
    first_at spec.is_comment c.args.text.now c.loop-start.start c.loop-start.invariant.0 c.loop-start.invariant.1 (eq-eqb _ _ c.if-text-start-ne35.false)

pub returns-after-loop-start-clause-place : goal.returns-after-loop-start-clause-place
returns-after-loop-start-clause-place c =
    none_at spec.is_comment c.args.text.now c.loop-start.start c.loop-start.invariant.0 c.loop-start.invariant.1 (omega arith)
