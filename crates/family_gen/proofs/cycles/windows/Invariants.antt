use Rattle.std.proofs.Common.{◌≡◌, map}
use Rattle.std.specs.List.{range_with_len}
use Rattle.family_gen.specs.Cyclic.{window}
use Rattle.family_gen.proofs.cycles.windows.Given as goal

abbrev pub invariant-loop-i : goal.invariant-loop-i
invariant-loop-i l = l.made.items ≡ map (window l.n l.k) (range_with_len 0 l.i)
