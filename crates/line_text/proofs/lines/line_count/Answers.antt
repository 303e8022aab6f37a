use Rattle.std.proofs.Common.{◌≡◌, length, arith}
use Rattle.std.proofs.lemmas.Bool.Decides.{nat_tests}
use Rattle.line_text.specs.Lines.{split}
use Rattle.line_text.proofs.LineLemmas.{no_lines_left}
use Rattle.line_text.proofs.lines.line_count.Goals as goal

pub returns : goal.returns
returns c =
    let none : length (split c.loop-rest.rest.now) ≡ 0 = no_lines_left c.loop-rest.rest.now (grind (arith, nat_tests, c.loop-rest-test.ensures)) in
    omega (arith, none, c.loop-rest.invariant.0)
