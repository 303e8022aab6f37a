use Rattle.std.proofs.Common.{rules, ◌∙◌, FitsSigned, to_z, to_z-of_z}
use Rattle.std.specs.Int.{w64}
use Rattle.cone_walls.proofs.Drifts.{sum_end}
use Rattle.cone_walls.proofs.slopes.sum_of_all.Goals as goal

pub loop-i-preserved : goal.loop-i-preserved
loop-i-preserved c =
    let fs : FitsSigned w64 c.args.start = c.ranges.start in
    let g : FitsSigned w64 c.with_place-total.result = search rules in
    let e = c.with_place-total.ensures.value in
    let r = c.with_place-total.ensures.room in
    let w = simp to_z-of_z at c.loop-i.invariant.value in
    simp to_z-of_z (record {
      value = e ∙ w;
      room = r;
    })

pub returns : goal.returns
returns c =
    let fs : FitsSigned w64 c.args.start = c.ranges.start in
    sum_end c.args.start (to_z w64 c.loop-i.total-bits) c.args.c.now c.args.v.now c.loop-i.i c.requires.length c.loop-i-test.false (simp to_z-of_z at c.loop-i.invariant.value)
