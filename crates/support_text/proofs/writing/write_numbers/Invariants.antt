use Rattle.std.proofs.Common.{◌≡◌, ◌++◌, take, codes, flat_map}
use Rattle.std.specs.Fmt.{signed_decimal}
use Rattle.support_text.proofs.writing.write_numbers.Given as goal

abbrev pub invariant-loop-z : goal.invariant-loop-z
invariant-loop-z l = l.out.items ≡ l.fn.out.items ++ flat_map (λ z. signed_decimal z ++ codes " ") (take l.z-index l.numbers)
