use Rattle.std.proofs.Common.{rules, ◌<◌, ◌≤◌, length, ap, arith}
use Rattle.log_check.proofs.LogSteps.{line_refused, cell_missing}
use Rattle.log_check.proofs.comparing.compare.Goals as goal

pub returns-in_default : goal.returns-in_default
returns-in_default c =
    let log = c.args.log.now in
    let e = c.deref-listed-items.ensures.value in
    let h : c.loop-listed.listed-index < length log.part.cells.items = omega (arith, c.loop-listed-test.true, ap length e) in
    let i = rw e at c.listed-item.is in
    line_refused log c.args.expected.now c.requires c.loop-listed.listed-index c.listed-item.result h i c.loop-listed.left.now c.loop-listed.invariant c.in_default.ensures

pub returns-then-not-is_empty : goal.returns-then-not-is_empty
returns-then-not-is_empty c =
    let log = c.args.log.now in
    let e = c.deref-listed-items.ensures.value in
    let h : length log.part.cells.items ≤ c.loop-listed.listed-index = omega (arith, c.loop-listed-test.false, ap length e) in
    let some : 1 ≤ length c.loop-listed.left.now = search rules in
    cell_missing log c.args.expected.now c.requires c.loop-listed.listed-index h c.loop-listed.left.now c.loop-listed.invariant some
