use Rattle.std.proofs.Common.{◌≡◌, ◌-◌, []}
use Rattle.support_text.specs.Faults.{series}
use Rattle.support_text.specs.Words.{words}
use Rattle.support_text.specs.ProblemText.{start_height}
use Rattle.support_text.proofs.endings.height_list.Given as goal

abbrev pub invariant-loop-turn : goal.invariant-loop-turn
invariant-loop-turn l = record {
  so_far : series (l.count - l._turn) (start_height l.line.number) l.heights.items (words l.line) ≡ series l.count (start_height l.fn.line.number) [] (words l.fn.line);
  number : l.line.number ≡ l.fn.line.number;
}
