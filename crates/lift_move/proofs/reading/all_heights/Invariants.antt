use Rattle.std.proofs.Common.{◌≡◌, ◌-◌, [], map, length}
use Rattle.support_text.specs.Stored.{heights_view}
use Rattle.support_text.specs.Faults.{series}
use Rattle.lift_move.specs.MoveText.{heights_at}
use Rattle.lift_move.proofs.reading.all_heights.Given as goal

abbrev pub invariant-loop-place : goal.invariant-loop-place
invariant-loop-place l = record {
  so_far : series (length l.counts - l.place) (heights_at l.counts l.lines.end_line) (map heights_view l.second.items) l.lines.rows ≡ series (length l.counts) (heights_at l.counts l.fn.lines.end_line) [] l.fn.lines.rows;
  end_line : l.lines.end_line ≡ l.fn.lines.end_line;
  size : length (map heights_view l.second.items) ≡ l.place;
}
