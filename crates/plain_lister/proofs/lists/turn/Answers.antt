use Rattle.std.proofs.Common.{subst}
use Rattle.plain_lister.specs.Order.{IsChoice}
use Rattle.plain_lister.proofs.Growing.{choice_to, search_fault, advanced}
use Rattle.plain_lister.proofs.lists.turn.Goals as goal

pub try_choice-requires-clause-of : goal.try_choice-requires-clause-of
try_choice-requires-clause-of g c =
    let r = c.requires in
    choice_to c.args.problem.now.supports c.args.pairs.now (subst (λ l. IsChoice l c.args.pairs.now) r.1.1.1.1.0 r.1.1.1.1.1.0)

pub returns-in-Err : goal.returns-in-Err
returns-in-Err g c =
    let r = c.requires in
    search_fault c.args.problem.now c.args.pairs.now c.args.found.now.items c.in-Err.fault (choice_to c.args.problem.now.supports c.args.pairs.now (subst (λ l. IsChoice l c.args.pairs.now) r.1.1.1.1.0 r.1.1.1.1.1.0)) r.1.1.1.1.1.1.1 c.in-Err.ensures

pub returns : goal.returns
returns g c =
    let r = c.requires in
    let a = c.advance.ensures in
    advanced c.args.problem.now r.1.0 r.1.1.1.0 g.counts r.1.1.1.1.0 c.advance.result c.args.pairs.now c.advance.new.pairs c.advance.new.wheels c.try_choice.new.found.items a.shown a.next a.last c.in_default.ensures
