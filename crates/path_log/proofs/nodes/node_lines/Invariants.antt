use Rattle.std.proofs.Common.{◌≡◌, ◌-◌, []}
use Rattle.support_text.specs.Faults.{series}
use Rattle.path_log.specs.LogText.{node_at}
use Rattle.path_log.proofs.nodes.node_lines.Given as goal

abbrev pub invariant-loop-turn : goal.invariant-loop-turn
invariant-loop-turn l = record {
  so_far : series (l.count - l._turn) (node_at l.spans l.lines.end_line) l.nodes.items l.lines.rows ≡ series l.count (node_at l.spans l.fn.lines.end_line) [] l.fn.lines.rows;
  end_line : l.lines.end_line ≡ l.fn.lines.end_line;
}
