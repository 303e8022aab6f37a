use Rattle.std.proofs.Common.{rules, ◌∙◌, sym, subst, FitsSigned, to_z-of_z, arith}
use Rattle.std.specs.Int.{w128}
use Rattle.int_vectors.specs.Fits.{AllFit}
use Rattle.int_vectors.proofs.Differences.{all-append}
use Rattle.carried_inverse.proofs.PairFalls.{support_inside, pair_inside, bases_more, speeds_more, falls_all}
use Rattle.log_check.proofs.numbers.falls_of.Goals as goal

pub fall_of-base-requires-clause-greatest : goal.fall_of-base-requires-clause-greatest
fall_of-base-requires-clause-greatest c = support_inside c.args.problem.now c.args.cell.now c.pairs-pairs.result.now c.pairs-pairs.ensures.same c.requires c.loop-i.i c.loop-i-test.true c.dim-dim.ensures.valid

pub fall_of-base-requires-clause-pair : goal.fall_of-base-requires-clause-pair
fall_of-base-requires-clause-pair c = pair_inside c.args.problem.now c.args.cell.now c.pairs-pairs.result.now c.pairs-pairs.ensures.same c.requires c.loop-i.i c.loop-i-test.true c.dim-dim.ensures.valid

pub loop-i-preserved : goal.loop-i-preserved
loop-i-preserved c =
    let fb : FitsSigned w128 c.fall_of-base.result.0 = search rules in
    let fs : FitsSigned w128 c.fall_of-base.result.1 = search rules in
    let hb = simp to_z-of_z at c.in_default.ensures.items in
    let hs = simp to_z-of_z at c.in_default-push.ensures.items in
    let v = c.loop-i.invariant in
    let e = c.fall_of-base.ensures in
    record {
      bases = hb ∙ bases_more c.args.problem.now c.args.cell.now c.pairs-pairs.result.now c.pairs-pairs.ensures.same c.requires c.loop-i.i c.loop-i-test.true c.dim-dim.ensures.valid c.loop-i.bases.items c.fall_of-base.result.0 v.bases e.base;
      speeds = hs ∙ speeds_more c.args.problem.now c.args.cell.now c.pairs-pairs.result.now c.pairs-pairs.ensures.same c.requires c.loop-i.i c.loop-i-test.true c.dim-dim.ensures.valid c.loop-i.speeds.items c.fall_of-base.result.1 v.speeds e.speed;
      bases_fit = subst AllFit (sym hb) (all-append c.loop-i.bases.items c.fall_of-base.result.0 v.bases_fit e.base_fits);
      speeds_fit = subst AllFit (sym hs) (all-append c.loop-i.speeds.items c.fall_of-base.result.1 v.speeds_fit e.speed_fits);
    }

pub returns : goal.returns
returns c =
    let v = c.loop-i.invariant in
    let e = falls_all c.args.problem.now c.args.cell.now c.pairs-pairs.result.now c.pairs-pairs.ensures.same c.requires c.loop-i.i (omega arith) in
    (c.from_vec.ensures ∙ v.bases ∙ e.0, c.from_vec-2.ensures ∙ v.speeds ∙ e.1)
