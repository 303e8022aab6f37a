use Rattle.std.proofs.Common.{◌≡◌, map, take, length, List}
use Rattle.cayley.specs.Problems.{Point}
use Rattle.plain_lister.proofs.counting.counts_of.Given as goal

abbrev pub invariant-loop-i : goal.invariant-loop-i
invariant-loop-i l = l.counts.items ≡ map (λ (s : List Point). length s) (take l.i l.problem.supports)
