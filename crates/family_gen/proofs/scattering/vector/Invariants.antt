use Rattle.std.proofs.Common.{◌≡◌, map, take, pos}
use Rattle.family_gen.proofs.scattering.vector.Given as goal

abbrev pub invariant-loop-c : goal.invariant-loop-c
invariant-loop-c l = l.entries.items ≡ map pos (take l.c-index l.coords)
