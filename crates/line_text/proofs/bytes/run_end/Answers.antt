use Rattle.std.proofs.Common.{arith, sym}
use Rattle.line_text.specs.Tokens as spec
use Rattle.line_text.proofs.Places.{first_at, none_at}
use Rattle.line_text.proofs.bytes.run_end.Goals as goal

pub returns-else-not-ends_token-clause-place : goal.returns-else-not-ends_token-clause-place
returns-else-not-ends_token-clause-place c =
    first_at spec.ends_token c.args.bytes.now c.loop-end.end c.loop-end.invariant.0 c.loop-end.invariant.1 (sym c.if-not-ends_token.ensures)

pub returns-after-loop-end-clause-place : goal.returns-after-loop-end-clause-place
returns-after-loop-end-clause-place c =
    none_at spec.ends_token c.args.bytes.now c.loop-end.end c.loop-end.invariant.0 c.loop-end.invariant.1 (omega arith)
