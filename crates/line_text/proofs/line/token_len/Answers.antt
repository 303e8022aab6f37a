use Rattle.std.proofs.Common.{arith, sym}
use Rattle.std.proofs.lemmas.Bool.Decides.{nat_tests}
use Rattle.line_text.proofs.TokenLemmas.{no_token, mark_first, run_first}
use Rattle.line_text.proofs.line.token_len.Goals as goal

pub returns-then-is_empty-clause-none : goal.returns-then-is_empty-clause-none
returns-then-is_empty-clause-none c = λ nought. no_token c.args.bytes.now (grind (arith, nat_tests, c.if-is_empty.ensures))

pub returns-then-is_mark-clause-some : goal.returns-then-is_mark-clause-some
returns-then-is_mark-clause-some c = λ some. mark_first c.args.bytes.now (grind (arith, nat_tests, c.if-is_empty.ensures)) (sym c.if-is_mark.ensures)

pub returns-clause-some : goal.returns-clause-some
returns-clause-some c = λ some.
    run_first c.args.bytes.now (grind (arith, nat_tests, c.if-is_empty.ensures)) c.requires (sym c.if-is_mark.ensures) c.run_end.result c.run_end.ensures.place
