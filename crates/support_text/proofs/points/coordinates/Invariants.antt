use Rattle.std.proofs.Common.{◌≡◌, ◌-◌, []}
use Rattle.int_vectors.specs.Fits.{AllFit}
use Rattle.support_text.specs.Faults.{series}
use Rattle.support_text.specs.Words.{words}
use Rattle.support_text.specs.ProblemText.{coordinate}
use Rattle.support_text.proofs.points.coordinates.Given as goal

abbrev pub invariant-loop-turn : goal.invariant-loop-turn
invariant-loop-turn l = record {
  so_far : series (l.n - l._turn) (coordinate l.line.number) l.entries.items (words l.line) ≡ series l.n (coordinate l.fn.line.number) [] (words l.fn.line);
  number : l.line.number ≡ l.fn.line.number;
  fits : AllFit l.entries.items;
}
