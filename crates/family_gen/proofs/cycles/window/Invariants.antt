use Rattle.std.proofs.Common.{◌≡◌, map}
use Rattle.std.specs.List.{range_with_len}
use Rattle.family_gen.specs.Cyclic.{entry_of}
use Rattle.family_gen.proofs.cycles.window.Given as goal

abbrev pub invariant-loop-p : goal.invariant-loop-p
invariant-loop-p l = l.entries.items ≡ map (entry_of l.n l.k l.i) (range_with_len 0 l.p)
