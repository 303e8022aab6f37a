use Rattle.std.proofs.Common.{◌<◌, refl, pos, length, get_or, arith, rules, FitsSigned, to_z-of_z}
use Rattle.std.specs.Int.{w128}
use Rattle.int_vectors.specs.RowSteps.{eliminated, FitsEliminated}
use Rattle.int_vectors.proofs.Fitting.{fits-set}
use Rattle.int_vectors.proofs.TakingOff.{off_set, off_fits, off_not, off_end}
use Rattle.int_vectors.proofs.row_steps.take_off.Goals as goal

pub loop-i-init : goal.loop-i-init
unfolding eliminated FitsEliminated
loop-i-init c = record { made = refl; fitted = tt; all = c.requires.fits; count = refl }

pub returns-in-None-clause-value : goal.returns-in-None-clause-value
returns-in-None-clause-value c =
    let fp : FitsSigned w128 c.args.pivot = c.ranges.pivot in
    let ff : FitsSigned w128 c.args.factor = c.ranges.factor in
    let fx : FitsSigned w128 (get_or c.loop-i.entries c.loop-i.i (pos 0)) = search rules in
    let fy : FitsSigned w128 (get_or c.args.by.now c.loop-i.i (pos 0)) = search rules in
    let n = simp to_z-of_z at c.in-None.ensures in
    let v = simp to_z-of_z at c.loop-i.invariant in
    let lt : c.loop-i.i < length c.args.entries.now = omega arith in
    off_not c.args.pivot c.args.factor c.args.entries.now c.args.by.now c.loop-i.entries c.loop-i.i c.requires.lengths lt v.made n

pub loop-i-preserved : goal.loop-i-preserved
loop-i-preserved c =
    let fp : FitsSigned w128 c.args.pivot = c.ranges.pivot in
    let ff : FitsSigned w128 c.args.factor = c.ranges.factor in
    let fx : FitsSigned w128 (get_or c.loop-i.entries c.loop-i.i (pos 0)) = search rules in
    let fy : FitsSigned w128 (get_or c.args.by.now c.loop-i.i (pos 0)) = search rules in
    let fe : FitsSigned w128 c.in-Some.entry = search rules in
    let s = simp to_z-of_z at c.in-Some.ensures in
    let v = simp to_z-of_z at c.loop-i.invariant in
    let lt : c.loop-i.i < length c.args.entries.now = omega arith in
    simp to_z-of_z (record {
      made = off_set c.args.pivot c.args.factor c.args.entries.now c.args.by.now c.loop-i.entries c.loop-i.i c.requires.lengths lt v.made c.in-Some.entry s.1;
      fitted = off_fits c.args.pivot c.args.factor c.args.entries.now c.args.by.now c.loop-i.entries c.loop-i.i c.requires.lengths lt v.made v.fitted s.0;
      all = fits-set c.loop-i.entries c.loop-i.i c.in-Some.entry v.all (rw s.1 s.0.2);
      count = refl;
    })

pub returns-clause-value : goal.returns-clause-value
returns-clause-value c =
    let fp : FitsSigned w128 c.args.pivot = c.ranges.pivot in
    let ff : FitsSigned w128 c.args.factor = c.ranges.factor in
    let v = simp to_z-of_z at c.loop-i.invariant in
    off_end c.args.pivot c.args.factor c.args.entries.now c.args.by.now c.loop-i.entries c.loop-i.i c.requires.lengths (omega arith) v.made v.fitted
