use Rattle.std.proofs.Common.{rules, ◌∙◌, FitsSigned, to_z, to_z-of_z, arith}
use Rattle.std.specs.Int.{w64}
use Rattle.carried_inverse.proofs.EntrySteps.{dot_end}
use Rattle.carried_inverse.proofs.entries.product_of_all.Goals as goal

pub loop-i-preserved : goal.loop-i-preserved
loop-i-preserved c =
    let g : FitsSigned w64 c.plus_place-total.result = search rules in
    let v = c.loop-i.invariant in
    simp to_z-of_z (record {
      value = c.plus_place-total.ensures.value ∙ v.value;
      room = c.plus_place-total.ensures.room;
    })

pub returns : goal.returns
returns c =
    let v = c.loop-i.invariant in
    dot_end (to_z w64 c.loop-i.total-bits) c.args.row.now c.args.column.now c.loop-i.i (omega arith) v.value
