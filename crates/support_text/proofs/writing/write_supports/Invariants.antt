use Rattle.std.proofs.Common.{◌≡◌, ◌++◌, map, take, flat_map}
use Rattle.cayley.specs.Stored.{file_point}
use Rattle.support_text.specs.Words.{text_of}
use Rattle.support_text.specs.Writing.{support_lines}
use Rattle.support_text.proofs.writing.write_supports.Given as goal

abbrev pub invariant-loop-points : goal.invariant-loop-points
invariant-loop-points l = l.out.items ≡ l.fn.out.items ++ flat_map (λ s. text_of (support_lines (map file_point s.items))) (take l.points-index l.supports)
