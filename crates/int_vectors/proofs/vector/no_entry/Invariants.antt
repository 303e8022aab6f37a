use Rattle.std.proofs.Common.{◌↔◌, drop}
use Rattle.int_vectors.specs.Vectors.{IsZero}
use Rattle.int_vectors.proofs.vector.no_entry.Given as goal

abbrev pub invariant-loop-x : goal.invariant-loop-x
invariant-loop-x l = IsZero l.entries ↔ IsZero (drop l.x-index l.entries)
