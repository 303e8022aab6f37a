use Rattle.std.proofs.Common.{◌≡◌, length}
use Rattle.search_core.proofs.tests.searched.Given as goal

-- there are two searchers
abbrev pub invariant-loop-k : goal.invariant-loop-k
invariant-loop-k l = length l.core ≡ 2
