use Rattle.std.proofs.Common.{◌≡◌, ◌++◌, take, codes, decimal, flat_map}
use Rattle.listing_text.proofs.writing.write_positions.Given as goal

abbrev pub invariant-loop-pair : goal.invariant-loop-pair
invariant-loop-pair l = l.out.items ≡ l.fn.out.items ++ flat_map (λ x. (codes " " ++ decimal x.0) ++ (codes " " ++ decimal x.1)) (take l.pair-index l.pairs)
