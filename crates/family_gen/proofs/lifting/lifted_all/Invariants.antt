use Rattle.std.proofs.Common.{◌≡◌, ◌++◌, map, length}
use Rattle.std.specs.Vec.Iter.{into_iter_items, into_iter_len}
use Rattle.cayley.specs.Stored.{file_point}
use Rattle.family_gen.specs.Lifts.{lifted_supports}
use Rattle.family_gen.proofs.lifting.lifted_all.Given as goal

abbrev pub invariant-loop-points : goal.invariant-loop-points
invariant-loop-points l = record {
  supports : map (λ s. map file_point s.items) l.made.items ++ lifted_supports l.generator.last 0 (map (λ s. s.items) (into_iter_items l.points-iterator))
      ≡ lifted_supports l.initial.generator.last 0 (map (λ s. s.items) l.fn.supports.items);
  count : into_iter_len l.points-iterator ≡ length (into_iter_items l.points-iterator);
}
