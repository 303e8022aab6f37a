use Rattle.std.proofs.Common.{◌≡◌, ◌++◌, take, codes, flat_map}
use Rattle.std.specs.Fmt.{signed_decimal}
use Rattle.listing_text.proofs.writing.write_vector.Given as goal

abbrev pub invariant-loop-entry : goal.invariant-loop-entry
invariant-loop-entry l = l.out.items ≡ l.fn.out.items ++ flat_map (λ z. codes " " ++ signed_decimal z) (take l.entry-index l.entries)
