use Rattle.std.proofs.Common.{◌↔◌, drop}
use Rattle.plain_lister.specs.Choices.{HavePairs}
use Rattle.plain_lister.proofs.counting.have_pairs.Given as goal

abbrev pub invariant-loop-count : goal.invariant-loop-count
invariant-loop-count l = HavePairs l.counts ↔ HavePairs (drop l.count-index l.counts)
