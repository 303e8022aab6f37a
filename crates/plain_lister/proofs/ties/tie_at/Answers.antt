use Rattle.std.proofs.Common.{refl, subst}
use Rattle.cone_walls.specs.Workings.{FitsWallWorking}
use Rattle.plain_lister.proofs.Growing.{valid_cell}
use Rattle.plain_lister.proofs.TieSearch.{at_none, at_some}
use Rattle.plain_lister.proofs.ties.tie_at.Goals as goal

pub unreachable-requires : goal.unreachable-requires
unreachable-requires g c = c.in_default.ensures.none.0 refl (valid_cell c.args.problem.now c.args.pairs.now c.requires.valid c.requires.of)

pub returns-in-Ok-None : goal.returns-in-Ok-None
returns-in-Ok-None g c =
    at_none c.args.problem.now c.in-Some.cell c.args.pairs.now c.in-Some.ensures.same c.in-Ok-None.field-0 c.in-Ok-None.field-0-is c.in-Ok-None.ensures

pub returns-in-Ok-Some : goal.returns-in-Ok-Some
returns-in-Ok-Some g c =
    at_some c.args.problem.now c.in-Some.cell c.args.pairs.now c.in-Some.ensures.same c.in-Ok-Some.field-0 c.in-Ok-Some.tie c.in-Ok-Some.field-0-is c.in-Ok-Some.ensures

pub returns-in-Err-Overflow : goal.returns-in-Err-Overflow
returns-in-Err-Overflow g c =
    let same = c.in-Some.ensures.same in
    let n = rw c.in-Err-Overflow.field-0-is at c.in-Err-Overflow.ensures in
    (same, subst (λ k. ¬ (FitsWallWorking c.args.problem.now k)) same n)
