use Rattle.std.proofs.Common.{◌+◌, length, unsigned_abs, FitsSigned, to_z-of_z, arith}
use Rattle.std.specs.Int.{w128}
use Rattle.std.proofs.lemmas.Result.{err_from_is_err_and}
use Rattle.reduced_rows.specs.Denominators.{FitsShares}
use Rattle.inner_normal.specs.Inverses.{FitsColumns}
use Rattle.inner_normal.proofs.Faults.{fault_other}
use Rattle.inner_normal.proofs.InverseSteps.{columns_more, fits_more, fits_not, each_wide}
use Rattle.path_tracer.proofs.columns.columns_of.Goals as goal

pub scaled_column-requires-clause-column : goal.scaled_column-requires-clause-column
scaled_column-requires-clause-column c =
    let e = c.count-count.ensures in
    each_wide (length c.args.reduced.now) (c.count-count.result + 2 + c.loop-i.i) c.args.reduced.now (let t = c.loop-i-test.true in omega (arith, e, t)) c.requires.widths

pub returns-in_err-column : goal.returns-in_err-column
returns-in_err-column c =
    let fd : FitsSigned w128 c.args.den = c.ranges.den in
    let l = unsigned_abs c.args.den in
    let p = err_from_is_err_and c.from_residual-in_err-column.result c.from_residual-in_err-column.ensures.1 in
    let h = simp to_z-of_z at c.in_err-column.ensures in
    rw (p.1, p.2) (fault_other (FitsShares (c.count-count.result + 2 + c.loop-i.i) 0 l c.args.reduced.now) (FitsColumns (length c.args.reduced.now) (length c.args.reduced.now + 2) l c.args.reduced.now) c.in_err-column.field-0.0
    (fits_not (length c.args.reduced.now) l c.loop-i.i c.count-count.result c.args.reduced.now c.count-count.ensures c.loop-i-test.true) h)

pub loop-i-preserved : goal.loop-i-preserved
loop-i-preserved c =
    let fd : FitsSigned w128 c.args.den = c.ranges.den in
    let h = simp to_z-of_z at c.in_ok-column.ensures in
    let inv = simp to_z-of_z at c.loop-i.invariant in
    simp to_z-of_z (record {
      columns = columns_more (length c.args.reduced.now) (unsigned_abs c.args.den) c.loop-i.i c.count-count.result c.args.reduced.now c.count-count.ensures c.loop-i.made.items c.push.new.self.items c.in_ok-column.column inv.columns h.1 c.in_ok-push.ensures.items;
      fits = fits_more (length c.args.reduced.now) (unsigned_abs c.args.den) c.loop-i.i c.count-count.result c.args.reduced.now c.count-count.ensures inv.fits h.0;
    })
