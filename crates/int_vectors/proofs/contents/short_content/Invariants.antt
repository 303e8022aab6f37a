use Rattle.std.proofs.Common.{take}
use Rattle.int_vectors.specs.Contents.{IsContent}
use Rattle.int_vectors.proofs.contents.short_content.Given as goal

abbrev pub invariant-loop-x : goal.invariant-loop-x
invariant-loop-x l = IsContent (take l.x-index l.entries) l.g
