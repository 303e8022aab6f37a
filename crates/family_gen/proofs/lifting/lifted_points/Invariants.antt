use Rattle.std.proofs.Common.{◌≡◌, ◌++◌, map, length}
use Rattle.std.specs.Vec.Iter.{into_iter_items, into_iter_len}
use Rattle.cayley.specs.Stored.{file_point}
use Rattle.family_gen.specs.Generator.{number}
use Rattle.family_gen.specs.Lifts.{lifted}
use Rattle.family_gen.proofs.lifting.lifted_points.Given as goal

abbrev pub invariant-loop-coords : goal.invariant-loop-coords
invariant-loop-coords l = record {
  points : map file_point l.made.items ++ lifted l.generator.last 0 (into_iter_items l.coords-iterator) ≡ lifted l.fn.generator.last 0 l.fn.points.items;
  last : number l.generator.last (length (into_iter_items l.coords-iterator)) ≡ number l.fn.generator.last (length l.fn.points.items);
  count : into_iter_len l.coords-iterator ≡ length (into_iter_items l.coords-iterator);
}
