use Rattle.std.proofs.Common.{subst}
use Rattle.plain_lister.specs.Order.{IsChoice}
use Rattle.plain_lister.specs.TieProgress.{IsTieAt}
use Rattle.plain_lister.proofs.Growing.{choice_to}
use Rattle.plain_lister.proofs.TieSearch.{advanced_tie, least_tie, least_fault}
use Rattle.plain_lister.proofs.ties.take_turn.Goals as goal

pub tie_at-requires-clause-of : goal.tie_at-requires-clause-of
tie_at-requires-clause-of g c =
    let r = c.requires in
    choice_to c.args.problem.now.supports c.args.pairs.now (subst (λ l. IsChoice l c.args.pairs.now) r.1.1.0 r.1.1.1.0)

pub returns-in-Ok-None : goal.returns-in-Ok-None
returns-in-Ok-None g c =
    let r = c.requires in
    let a = c.advance.ensures in
    advanced_tie c.args.problem.now g.counts r.1.1.0 c.advance.result c.args.pairs.now c.advance.new.pairs c.advance.new.wheels a.shown a.next a.last r.1.1.1.1.1 (subst (IsTieAt c.args.problem.now c.args.pairs.now) c.in-Ok-None.field-0-is c.in-Ok-None.ensures)

pub returns-in-Ok-Some : goal.returns-in-Ok-Some
returns-in-Ok-Some g c =
    let r = c.requires in
    least_tie c.args.problem.now c.args.pairs.now c.in-Ok-Some.tie r.1.0.shape.problem (choice_to c.args.problem.now.supports c.args.pairs.now (subst (λ l. IsChoice l c.args.pairs.now) r.1.1.0 r.1.1.1.0)) r.1.1.1.1.1
    (subst (IsTieAt c.args.problem.now c.args.pairs.now) c.in-Ok-Some.field-0-is c.in-Ok-Some.ensures)

pub returns-in-Err : goal.returns-in-Err
returns-in-Err g c =
    let r = c.requires in
    least_fault c.args.problem.now c.args.pairs.now c.in-Err.fault (choice_to c.args.problem.now.supports c.args.pairs.now (subst (λ l. IsChoice l c.args.pairs.now) r.1.1.0 r.1.1.1.0)) r.1.1.1.1.1 c.in-Err.ensures
