use Rattle.std.proofs.Common.{◌≡◌}
use Rattle.start_system.proofs.Making.Parts.{if_ok_weaker}
use Rattle.mixedcells.specs.declared.outcome.Outcome.TheVariants as variant
use Rattle.mixedcells.specs.Outcomes.{IsTieLine, overflow_cell}
use Rattle.mixedcells.specs.Walks.{IsTieReply}
use Rattle.mixedcells.proofs.AlongPaths.{free_reply, tied_reply, unfit_reply}
use Rattle.mixedcells.proofs.along.generic.Goals as goal

pub returns-in-Ok-None : goal.returns-in-Ok-None
returns-in-Ok-None c =
    free_reply c.args.file.now c.in_ok-problem.problem c.in_ok-problem.ensures.path c.in_ok-text-in-Ok-None.text.items c.in_ok-text-in-Ok-None.ensures c.in-Ok-None.ensures.few
    (rw c.in-Ok-None.field-0-is at c.in-Ok-None.ensures.free) (rw c.in-Ok-None.field-0-is at c.in-Ok-None.ensures.fits)

pub returns-in-Ok-Some : goal.returns-in-Ok-Some
returns-in-Ok-Some c =
    let named = (rw c.in-Ok-Some.field-0-is at c.in-Ok-Some.ensures.named) in
    if_ok_weaker c.tied.result (λ r. (r.outcome ≡ variant.Tie c.in-Ok-Some.proof) × IsTieLine c.in-Ok-Some.proof r.text.items) (λ r. IsTieReply c.args.file.now r.outcome r.text.items)
    (λ r told. tied_reply c.args.file.now c.in_ok-problem.problem c.in_ok-problem.ensures.path c.in-Ok-Some.proof r.outcome r.text.items c.in-Ok-Some.ensures.few named c.tied.ensures.lowest told)
    c.tied.ensures.told

pub returns-in-Err-Overflow : goal.returns-in-Err-Overflow
returns-in-Err-Overflow c =
    let refused = (rw c.in-Err-Overflow.field-0-is at c.in-Err-Overflow.ensures.refused) in
    if_ok_weaker c.unfit.result (λ r. (r.outcome ≡ variant.OverflowCell c.in-Err-Overflow.cell) × (r.text.items ≡ overflow_cell c.in-Err-Overflow.cell)) (λ r. IsTieReply c.args.file.now r.outcome r.text.items)
    (λ r told. unfit_reply c.args.file.now c.in_ok-problem.problem c.in_ok-problem.ensures.path c.in-Err-Overflow.cell r.outcome r.text.items refused told)
    c.unfit.ensures
