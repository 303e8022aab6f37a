use Rattle.std.proofs.Common.{◌≡◌, ◌++◌, take, codes, flat_map}
use Rattle.std.specs.Fmt.{signed_decimal}
use Rattle.homotopy_rows.proofs.writing.write_each.Given as goal

abbrev pub invariant-loop-z : goal.invariant-loop-z
invariant-loop-z l = l.out.items ≡ l.fn.out.items ++ flat_map (λ z. codes " " ++ signed_decimal z) (take l.z-index l.numbers)
