use Rattle.std.proofs.Common.{◌≡◌, ℕ, ◌-◌, ◌<◌, ◌≤◌, false, get_or, length}
use Rattle.line_text.specs.Tokens as spec
use Rattle.line_text.proofs.bytes.run_end.Given as goal

abbrev pub invariant-loop-end : goal.invariant-loop-end
invariant-loop-end l = (l.end ≤ length l.bytes) × ((k : ℕ) → k < l.end → spec.ends_token (get_or l.bytes k 0) ≡ false)

abbrev pub decreases-loop-end : goal.decreases-loop-end
decreases-loop-end l = length l.bytes - l.end
