use Rattle.std.proofs.Common.{◌≡◌, map, length}
use Rattle.std.proofs.Common.{take}
use Rattle.listing_text.proofs.reading.lengths.Given as goal

abbrev pub invariant-loop-points : goal.invariant-loop-points
invariant-loop-points l = l.counts.items ≡ map (λ s. length s.items) (take l.points-index l.supports)
