use Rattle.std.proofs.Common.{◌∙◌, sym, arith}
use Rattle.std.proofs.lemmas.Bool.Decides.{nat_tests}
use Rattle.line_text.proofs.LineLemmas.{no_rows_left}
use Rattle.line_text.proofs.lines.Lines.next_line.Goals as goal

pub returns-clause-next : goal.returns-clause-next
returns-clause-next c =
    let lines = c.loop-self.self-inside in
    sym c.loop-self.invariant.0 ∙ no_rows_left lines.at lines.number lines.rest.now (grind (arith, nat_tests, c.loop-self-test.ensures))

pub returns-clause-ended : goal.returns-clause-ended
returns-clause-ended c =
    let lines = c.loop-self.self-inside in
    no_rows_left lines.at lines.number lines.rest.now (grind (arith, nat_tests, c.loop-self-test.ensures))
