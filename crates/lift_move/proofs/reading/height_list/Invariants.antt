use Rattle.std.proofs.Common.{◌≡◌, ◌-◌, []}
use Rattle.support_text.specs.Faults.{series}
use Rattle.support_text.specs.Words.{words}
use Rattle.lift_move.specs.MoveText.{second_height}
use Rattle.lift_move.proofs.reading.height_list.Given as goal

abbrev pub invariant-loop-turn : goal.invariant-loop-turn
invariant-loop-turn l = record {
  so_far : series (l.count - l._turn) (second_height l.line.number) l.heights.items (words l.line) ≡ series l.count (second_height l.fn.line.number) [] (words l.fn.line);
  number : l.line.number ≡ l.fn.line.number;
}
