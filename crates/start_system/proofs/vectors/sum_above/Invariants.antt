use Rattle.std.proofs.Common.{◌≡◌, ◌*◌, ◌≤ℤ◌}
use Rattle.std.proofs.Math.IntN.{pos, ◌+ℤ◌}
use Rattle.cayley.specs.Paths.{sum_of}
use Rattle.int_vectors.specs.Vectors.{sub}
use Rattle.start_system.proofs.Making.Entries.{left_sum}
use Rattle.start_system.proofs.vectors.sum_above.Given as goal

abbrev pub invariant-loop-k : goal.invariant-loop-k
invariant-loop-k l = record {
  sum : l.total +ℤ left_sum l.x l.m l.k ≡ sum_of (sub l.x l.m);
  high : l.total ≤ℤ pos (2000000 * l.k);
  low : pos 0 ≤ℤ (l.total +ℤ pos (2000000 * l.k));
}
