use Rattle.std.proofs.Common.{◌≡◌, ◌-◌, map}
use Rattle.std.specs.List.{range_with_len}
use Rattle.family_gen.specs.Cyclic.{windows}
use Rattle.family_gen.proofs.cycles.supports.Given as goal

abbrev pub invariant-loop-k : goal.invariant-loop-k
invariant-loop-k l = map (λ s. s.items) l.made.items ≡ map (windows l.n) (range_with_len 1 (l.k - 1))
