use Rattle.std.proofs.Common.{rules, ◌≡◌, ◌<◌, ◌^◌, pos, get_or, length, unsigned_abs, FitsSigned, arith}
use Rattle.std.specs.Int.{w128}
use Rattle.int_vectors.proofs.BoundRows.{size_more, size_not, size_end}
use Rattle.int_vectors.proofs.bounds.row_size.Goals as goal

pub returns-in_err-total : goal.returns-in_err-total
returns-in_err-total c =
    let fx : FitsSigned w128 (get_or c.args.a.now c.loop-x.x-index (pos 0)) = search rules in
    let u : c.unsigned_abs.result ≡ unsigned_abs (get_or c.args.a.now c.loop-x.x-index (pos 0)) = search rules in
    let n = rw u at c.in_err-total.ensures in
    rw c.from_residual.ensures (size_not c.args.a.now c.loop-x.x-index c.loop-x.total (2 ^ 128) (omega arith) c.loop-x.invariant.sum n)

pub loop-x-preserved : goal.loop-x-preserved
loop-x-preserved c =
    let fx : FitsSigned w128 (get_or c.args.a.now c.loop-x.x-index (pos 0)) = search rules in
    let u : c.unsigned_abs.result ≡ unsigned_abs (get_or c.args.a.now c.loop-x.x-index (pos 0)) = search rules in
    let n = c.in_ok-total.ensures in
    let lt : c.loop-x.x-index < length c.args.a.now = omega arith in
    let e = c.loop-x.invariant.sum in
    let m = size_more c.args.a.now c.loop-x.x-index lt in
    record { sum = omega (arith, n.1, e, m, u); below = omega (arith, n.0, n.1) }

pub returns : goal.returns
returns c = size_end c.args.a.now c.loop-x.x-index c.loop-x.total (2 ^ 128) (omega arith) c.loop-x.invariant.sum c.loop-x.invariant.below
