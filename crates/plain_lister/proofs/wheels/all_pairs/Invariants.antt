use Rattle.std.specs.Prelude.{◌≡◌, ◌++◌, map}
use Rattle.std.specs.List.{range_with_len}
use Rattle.itertools.specs.Pool.{combination_left}
use Rattle.plain_lister.specs.Order.{all_pairs}
use Rattle.plain_lister.proofs.Picking.{Inside, places_pair}
use Rattle.plain_lister.proofs.wheels.all_pairs.Given as goal

abbrev pub invariant-loop-pair : goal.invariant-loop-pair
invariant-loop-pair l = record {
  pool : l.pair-iterator.combinations.pool.items ≡ range_with_len 1 l.count;
  left : l.made.items ++ map places_pair (combination_left l.pair-iterator.combinations) ≡ all_pairs l.count;
  inside : Inside l.count (combination_left l.pair-iterator.combinations);
}
