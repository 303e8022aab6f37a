use Rattle.std.proofs.Common.{take, reverse}
use Rattle.log_check.proofs.DueTurns.{IsOnWay}
use Rattle.log_check.proofs.walking.expected_cells.Given as goal

abbrev pub invariant-loop-noted : goal.invariant-loop-noted
invariant-loop-noted l = IsOnWay l.log (take l.noted-index l.log.nodes.items) (reverse l.due.items) l.expected.items
