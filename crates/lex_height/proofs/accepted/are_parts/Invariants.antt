use Rattle.std.proofs.Common.{drop, ◌↔◌}
use Rattle.lex_height.specs.Values.{AreParts}
use Rattle.lex_height.proofs.accepted.are_parts.Given as goal

abbrev pub invariant-loop-part : goal.invariant-loop-part
invariant-loop-part l = AreParts 0 l.parts ↔ AreParts l.least (drop l.part-index l.parts)
