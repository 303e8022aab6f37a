use Rattle.std.proofs.Common.{◌+◌, length, unsigned_abs, FitsSigned, to_z-of_z, arith, ◌∙◌}
use Rattle.std.specs.Int.{w128}
use Rattle.inner_normal.proofs.InverseSteps.{columns_more, each_wide}
use Rattle.carried_inverse.proofs.beginning.short_columns.Goals as goal

pub scaled_column-requires-clause-column : goal.scaled_column-requires-clause-column
scaled_column-requires-clause-column c =
    let e = c.count-count.ensures in
    each_wide (length c.args.reduced.now) (c.count-count.result + 2 + c.loop-i.i) c.args.reduced.now (let t = c.loop-i-test.true in omega (arith, e, t)) c.requires.widths

pub loop-i-preserved : goal.loop-i-preserved
loop-i-preserved c =
    let fd : FitsSigned w128 c.args.den = c.ranges.den in
    let h = simp to_z-of_z at c.in_ok-wide.ensures in
    let inv = simp to_z-of_z at c.loop-i.invariant in
    let k = c.in_ok-column.ensures ∙ c.as_slice.ensures.value in
    simp to_z-of_z
    (columns_more (length c.args.reduced.now) (unsigned_abs c.args.den) c.loop-i.i c.count-count.result c.args.reduced.now c.count-count.ensures c.loop-i.made.items c.push.new.self.items c.in_ok-column.column inv (k ∙ h.1) c.in_default-push.ensures.items)
