use Rattle.std.proofs.Common.{rules, ◌^◌, ◌<◌, ◌+◌, ◌*◌, unsigned_abs, FitsSigned, to_z-of_z}
use Rattle.std.specs.Int.{w128}
use Rattle.int_vectors.proofs.BoundRows.{behind_fits, step_wider}
use Rattle.int_vectors.specs.Bounds.{IsNarrowStep}
use Rattle.int_vectors.proofs.bounds.take_off_behind.Goals as goal

pub returns-then-step_fits-clause-value : goal.returns-then-step_fits-clause-value
returns-then-step_fits-clause-value c =
    let fp : FitsSigned w128 c.args.pivot = c.ranges.pivot in
    let ff : FitsSigned w128 c.args.factor = c.ranges.factor in
    let below : unsigned_abs c.args.pivot * c.args.u + unsigned_abs c.args.factor * c.args.v < 2 ^ 127 = (simp to_z-of_z at c.step_fits.ensures).0 c.if-step_fits.true in
    let value = simp to_z-of_z at c.take_off_unchecked.ensures in
    let r = behind_fits c.args.pivot c.args.factor c.args.entries.now c.args.by.now c.take_off_unchecked.new.entries (c.args.u, c.args.v, c.requires.changed, c.requires.other, below) value in
    (r.0, r.1)

pub returns-then-step_fits-clause-fits : goal.returns-then-step_fits-clause-fits
returns-then-step_fits-clause-fits c =
    let fp : FitsSigned w128 c.args.pivot = c.ranges.pivot in
    let ff : FitsSigned w128 c.args.factor = c.ranges.factor in
    let below : unsigned_abs c.args.pivot * c.args.u + unsigned_abs c.args.factor * c.args.v < 2 ^ 127 = (simp to_z-of_z at c.step_fits.ensures).0 c.if-step_fits.true in
    let value = simp to_z-of_z at c.take_off_unchecked.ensures in
    (behind_fits c.args.pivot c.args.factor c.args.entries.now c.args.by.now c.take_off_unchecked.new.entries (c.args.u, c.args.v, c.requires.changed, c.requires.other, below) value).2

pub take_off_narrow-requires-clause-pivot : goal.take_off_narrow-requires-clause-pivot
take_off_narrow-requires-clause-pivot c =
    let fp : FitsSigned w128 c.args.pivot = c.ranges.pivot in
    let ff : FitsSigned w128 c.args.factor = c.ranges.factor in
    let below : IsNarrowStep c.args.pivot c.args.u c.args.factor c.args.v = (simp to_z-of_z at c.narrow_fits.ensures) c.if-narrow_fits.true in
    simp to_z-of_z below.0

pub take_off_narrow-requires-clause-factor : goal.take_off_narrow-requires-clause-factor
take_off_narrow-requires-clause-factor c =
    let fp : FitsSigned w128 c.args.pivot = c.ranges.pivot in
    let ff : FitsSigned w128 c.args.factor = c.ranges.factor in
    let below : IsNarrowStep c.args.pivot c.args.u c.args.factor c.args.v = (simp to_z-of_z at c.narrow_fits.ensures) c.if-narrow_fits.true in
    simp to_z-of_z below.1

pub returns-then-narrow_fits-clause-value : goal.returns-then-narrow_fits-clause-value
returns-then-narrow_fits-clause-value c =
    let fp : FitsSigned w128 c.args.pivot = c.ranges.pivot in
    let ff : FitsSigned w128 c.args.factor = c.ranges.factor in
    let below : IsNarrowStep c.args.pivot c.args.u c.args.factor c.args.v = (simp to_z-of_z at c.narrow_fits.ensures) c.if-narrow_fits.true in
    let value = simp to_z-of_z at c.take_off_narrow.ensures in
    let r = behind_fits c.args.pivot c.args.factor c.args.entries.now c.args.by.now c.take_off_narrow.new.entries
    (step_wider c.args.pivot c.args.factor c.args.entries.now c.args.by.now (c.args.u, c.args.v, c.requires.changed, c.requires.other, below)) value in
    (r.0, r.1)

pub returns-then-narrow_fits-clause-fits : goal.returns-then-narrow_fits-clause-fits
returns-then-narrow_fits-clause-fits c =
    let fp : FitsSigned w128 c.args.pivot = c.ranges.pivot in
    let ff : FitsSigned w128 c.args.factor = c.ranges.factor in
    let below : IsNarrowStep c.args.pivot c.args.u c.args.factor c.args.v = (simp to_z-of_z at c.narrow_fits.ensures) c.if-narrow_fits.true in
    let value = simp to_z-of_z at c.take_off_narrow.ensures in
    (behind_fits c.args.pivot c.args.factor c.args.entries.now c.args.by.now c.take_off_narrow.new.entries
    (step_wider c.args.pivot c.args.factor c.args.entries.now c.args.by.now (c.args.u, c.args.v, c.requires.changed, c.requires.other, below)) value).2
