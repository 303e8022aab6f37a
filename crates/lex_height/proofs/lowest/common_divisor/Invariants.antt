use Rattle.std.proofs.Common.{ℕ, drop, ◌↔◌, pos, ◌<ℤ◌, unsigned_abs}
use Prim.Native.Nat.{◌∣◌}
use Rattle.wide_int.specs.Whole.{FitsWhole}
use Rattle.lex_height.specs.Divisors.{DividesEach}
use Rattle.lex_height.specs.Values.{AreParts}
use Rattle.lex_height.proofs.lowest.common_divisor.Given as goal

-- the divisors of all are those of the divisor so far and of the parts that are left
abbrev pub invariant-loop-part : goal.invariant-loop-part
invariant-loop-part l = record {
  positive : pos 0 <ℤ l.divisor;
  fits : FitsWhole l.divisor;
  rest : (n : ℕ) × AreParts n (drop l.part-index l.parts);
  same : (d : ℕ) → ((d ∣ unsigned_abs l.den) × DividesEach d l.parts) ↔ ((d ∣ unsigned_abs l.divisor) × DividesEach d (drop l.part-index l.parts));
}
