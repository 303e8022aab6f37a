use Rattle.std.proofs.Common.{ℕ, ◌≡◌, drop, take, unsigned_abs, length}
use Rattle.lex_height.specs.Divisors.{DividesEach, AreQuotients}
use Rattle.lex_height.specs.Values.{AreParts}
use Rattle.lex_height.proofs.lowest.quotients.Given as goal

abbrev pub invariant-loop-part : goal.invariant-loop-part
invariant-loop-part l = record {
  done : AreQuotients l.divisor l.all (take l.part-index l.parts);
  rest : (n : ℕ) × AreParts n (drop l.part-index l.parts);
  divides : DividesEach (unsigned_abs l.divisor) (drop l.part-index l.parts);
}
