use Rattle.std.proofs.Common.{rules, ◌∙◌, take, arith, sym, subst, FitsSigned, to_z-of_z, pos}
use Rattle.std.specs.Int.{w128}
use Rattle.std.proofs.Math.IntN.{+ℤ_idl}
use Rattle.int_vectors.specs.Fits.{AllFit, FitsDot}
use Rattle.int_vectors.specs.Vectors.{dot}
use Rattle.int_vectors.proofs.Differences.{all-append}
use Rattle.log_check.specs.Numbers.{row_products, FitsRows}
use Rattle.log_check.proofs.MatrixSteps.{tail_long, sums_more, sums_end, rows_more, rows_not, rows_end}
use Rattle.log_check.proofs.numbers.row_sums.Goals as goal

pub returns-in_default : goal.returns-in_default
returns-in_default c =
    let n = c.args.n in
    let rest = c.loop-row.rest.now in
    let bs = c.args.falls.now in
    let i = c.loop-row.invariant in
    let v = c.in_default.ensures in
    let f : ¬ (FitsDot (pos 0) (take n rest) bs) = rw c.split_at.ensures.front at v.value in
    rows_not n c.loop-row._row c.loop-row-test.true (FitsRows n n c.args.matrix.now bs) rest bs i.fits f

pub loop-row-preserved : goal.loop-row-preserved
loop-row-preserved c =
    let n = c.args.n in
    let rest = c.loop-row.rest.now in
    let bs = c.args.falls.now in
    let lt = c.loop-row-test.true in
    let i = c.loop-row.invariant in
    let s : FitsSigned w128 c.in-Some.sum = search rules in
    let h = simp to_z-of_z at c.in_default-push.ensures.items in
    let v = rw c.split_at.ensures.front at c.in-Some.ensures.value in
    rw c.split_at.ensures.back (record {
      sums = sums_more n c.loop-row._row lt c.loop-row.sums.items c.push.new.self.items c.in-Some.sum rest h bs (row_products n n c.args.matrix.now bs) (v.1 ∙ +ℤ_idl (dot (take n rest) bs)) i.sums;
      fits = rows_more n c.loop-row._row lt (FitsRows n n c.args.matrix.now bs) rest bs i.fits v.0;
      long = tail_long n c.loop-row._row lt rest i.long;
      whole = subst AllFit (sym h) (all-append c.loop-row.sums.items c.in-Some.sum i.whole c.in-Some.ensures.fits);
    })

pub returns : goal.returns
returns c =
    let n = c.args.n in
    let rest = c.loop-row.rest.now in
    let bs = c.args.falls.now in
    let i = c.loop-row.invariant in (
      rows_end n c.loop-row._row (omega arith) (FitsRows n n c.args.matrix.now bs) rest bs i.fits,
      c.from_vec.ensures ∙ sums_end n c.loop-row._row (omega arith) c.loop-row.sums.items rest bs (row_products n n c.args.matrix.now bs) i.sums,
    )
