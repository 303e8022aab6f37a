use Rattle.std.proofs.Common.{◌≡◌, ◌++◌, map, take}
use Rattle.crossing.specs.Zeros.{turned_part, first_part}
use Rattle.crossing.proofs.zeros.zero_parts.Given as goal

abbrev pub invariant-loop-part : goal.invariant-loop-part
invariant-loop-part l = record {
  items : l.part-items ≡ l.line.fine;
  done : l.parts ≡ map (turned_part l.way) (first_part l.line.alpha ++ take l.part-index l.part-items);
}
