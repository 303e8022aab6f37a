use Rattle.std.proofs.Common.{◌≡◌}
use Rattle.search_team.proofs.turning.stolen.Given as goal

abbrev pub invariant-loop-from : goal.invariant-loop-from
invariant-loop-from g l = l.seat ≡ l.fn.seat
