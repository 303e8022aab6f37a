use Rattle.std.proofs.Common.{◌≡◌, ℕ, ◌+◌, ◌-◌, ◌≤◌, drop, length}
use Rattle.line_text.specs.Tokens.{tokens}
use Rattle.line_text.proofs.bytes.blanks_end.Given as goal

abbrev pub invariant-loop-end : goal.invariant-loop-end
invariant-loop-end l = (l.end ≤ length l.bytes) × ((place : ℕ) → tokens place l.bytes ≡ tokens (place + l.end) (drop l.end l.bytes))

abbrev pub decreases-loop-end : goal.decreases-loop-end
decreases-loop-end l = length l.bytes - l.end
