use Rattle.std.proofs.Common.{◌≡◌, ◌++◌, take, codes, flat_map}
use Rattle.std.specs.Fmt.{signed_decimal}
use Rattle.support_text.proofs.writing.write_heights.Given as goal

abbrev pub invariant-loop-height : goal.invariant-loop-height
invariant-loop-height l = l.out.items ≡ l.fn.out.items ++ flat_map (λ h. codes " " ++ signed_decimal h) (take l.height-index l.heights)
