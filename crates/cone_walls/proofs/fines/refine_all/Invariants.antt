use Rattle.std.proofs.Common.{◌≡◌, ◌++◌, length, List}
use Rattle.std.specs.Vec.Iter.{into_iter_items, into_iter_len}
use Rattle.int_vectors.specs.Vectors.{Each}
use Rattle.crossing.specs.declared.line.WallLine.{WallLine}
use Rattle.cone_walls.specs.Parts.{FitsCircuitOf, AreRefined}
use Rattle.cone_walls.proofs.fines.refine_all.Given as goal

abbrev pub invariant-loop-line : goal.invariant-loop-line
invariant-loop-line l = record {
  made : (done : List WallLine) × AreRefined l.problem l.cell l.inverse done l.made.items × Each done (FitsCircuitOf l.problem l.cell l.inverse) × (done ++ into_iter_items l.line-iterator ≡ l.fn.lines.items);
  count : into_iter_len l.line-iterator ≡ length (into_iter_items l.line-iterator);
}
