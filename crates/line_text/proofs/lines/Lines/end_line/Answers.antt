use Rattle.std.proofs.Common.{arith}
use Rattle.line_text.proofs.LineLemmas.{lines_within}
use Rattle.line_text.proofs.lines.Lines.end_line.Goals as goal

pub overflow_add-result : goal.overflow_add-result
overflow_add-result c = omega (arith, lines_within c.self.inside.rest.now, c.line_count.ensures, c.self.invariant.1)
