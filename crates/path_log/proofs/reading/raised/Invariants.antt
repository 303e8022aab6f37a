use Rattle.std.proofs.Common.{◌≡◌, ◌+◌, map, take}
use Rattle.path_log.proofs.reading.raised.Given as goal

abbrev pub invariant-loop-count : goal.invariant-loop-count
invariant-loop-count l = l.spans.items ≡ map (λ m. m + l.more) (take l.count-index l.counts)
