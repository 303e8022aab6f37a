use Rattle.std.proofs.Common.{ℕ, ◌<ℤ◌, pos, unsigned_abs}
use Prim.Native.Nat.{◌∣◌}
use Rattle.int_vectors.specs.Contents.{DividesEach}
use Rattle.int_vectors.specs.Vectors.{Each}
use Rattle.carried_inverse.specs.Exchanges.{combined}
use Rattle.carried_inverse.proofs.combining.divisor_along.Given as goal

abbrev pub invariant-loop-k : goal.invariant-loop-k
invariant-loop-k l = record {
  positive : pos 0 <ℤ l.g;
  divides : unsigned_abs l.g ∣ unsigned_abs l.start;
  greatest : (d : ℕ) → d ∣ unsigned_abs l.start → Each (combined l.pivot l.shares l.columns l.by) (DividesEach d) → d ∣ unsigned_abs l.g;
}
