use Rattle.std.proofs.Common.{refl, sym, append-nil}
use Rattle.searcher.specs.declared.expansions.Expansion.TheVariants.{Stranger}
use Rattle.searcher.proofs.turning.plain_turn.Goals as goal

pub returns-in-Ok-Some-clause-answer : goal.returns-in-Ok-Some-clause-answer
returns-in-Ok-Some-clause-answer g c = (c.in-Ok-Some.expansion, rw c.in-Ok-Some.field-0-is at c.in-Ok-Some.ensures.answer, c.put_opened.ensures.left, c.put_opened.ensures.found)

pub returns-in-Ok-None-clause-answer : goal.returns-in-Ok-None-clause-answer
returns-in-Ok-None-clause-answer g c = (Stranger c.args.branch.now, (rw c.in-Ok-None.field-0-is at c.in-Ok-None.ensures.answer, refl), sym (append-nil c.args.left.now.items), refl)
