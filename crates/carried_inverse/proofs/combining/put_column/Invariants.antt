use Rattle.std.proofs.Common.{◌≡◌, length}
use Rattle.int_vectors.specs.Vectors.{Each}
use Rattle.carried_inverse.specs.Exchanges.{IsDividedTo}
use Rattle.carried_inverse.proofs.combining.put_column.Given as goal

abbrev pub invariant-loop-turn : goal.invariant-loop-turn
invariant-loop-turn l = record {
  divided : IsDividedTo l.k l.start l.g l.pivot l.shares l.columns l.by l.made.items;
  count : length l.made.items ≡ length l.columns;
  long : Each l.made.items (λ column. length column ≡ length l.by);
}
