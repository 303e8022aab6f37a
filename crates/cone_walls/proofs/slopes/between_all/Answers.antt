use Rattle.std.proofs.Common.{rules, ◌∙◌, FitsSigned, to_z, to_z-of_z}
use Rattle.std.specs.Int.{w64}
use Rattle.cone_walls.proofs.Drifts.{difference_end}
use Rattle.cone_walls.proofs.slopes.between_all.Goals as goal

pub loop-i-preserved : goal.loop-i-preserved
loop-i-preserved c =
    let fs : FitsSigned w64 c.args.start = c.ranges.start in
    let g : FitsSigned w64 c.with_difference-total.result = search rules in
    let e = c.with_difference-total.ensures.value in
    let r = c.with_difference-total.ensures.room in
    let w = simp to_z-of_z at c.loop-i.invariant.value in
    simp to_z-of_z (record {
      value = e ∙ w;
      room = r;
    })

pub returns : goal.returns
returns c =
    let fs : FitsSigned w64 c.args.start = c.ranges.start in
    difference_end c.args.start (to_z w64 c.loop-i.total-bits) c.args.a.now c.args.c.now c.args.v.now c.loop-i.i c.requires.a_length c.requires.c_length c.loop-i-test.false (simp to_z-of_z at c.loop-i.invariant.value)
