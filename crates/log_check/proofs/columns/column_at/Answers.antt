use Rattle.std.proofs.Common.{◌<◌, length, refl, arith, FitsSigned, to_z-of_z, subst, sym, ◌∙◌}
use Rattle.std.proofs.lemmas.Int.{fits_signed_from_abs}
use Rattle.std.specs.Int.{w128}
use Rattle.wide_int.specs.Whole.{FitsWhole}
use Rattle.int_vectors.specs.Fits.{AllFit}
use Rattle.int_vectors.specs.Vectors.{at}
use Rattle.int_vectors.proofs.Differences.{all-append}
use Rattle.path_trace.specs.Matrices.{column}
use Rattle.log_check.proofs.MatrixSteps.{fits_drop, head_long, tail_long, column_more, column_end, fits_at}
use Rattle.log_check.proofs.columns.column_at.Goals as goal

pub loop-row-preserved : goal.loop-row-preserved
loop-row-preserved c =
    let i = c.loop-row.invariant in
    let n = c.args.n in
    let k = c.args.k in
    let lt = c.loop-row-test.true in
    let rest = c.loop-row.rest.now in
    let e = c.requires.place in
    let b : k < length rest = (let h = head_long n c.loop-row._row lt rest i.long in omega (arith, h, e)) in
    let f : FitsWhole (at rest k) = fits_at k rest b i.fits in
    let s : FitsSigned w128 (at rest k) = fits_signed_from_abs w128 (at rest k) f in
    let h = simp to_z-of_z at c.in_default.ensures.items in
    rw c.split_at.ensures.back (record {
      entries = column_more n c.loop-row._row lt c.loop-row.entries.items c.push.new.self.items (at rest k) rest h k (column n k n c.args.matrix.now) refl i.entries;
      long = tail_long n c.loop-row._row lt rest i.long;
      fits = fits_drop n rest i.fits;
      whole = subst AllFit (sym h) (all-append c.loop-row.entries.items (at rest k) i.whole f);
    })

pub returns : goal.returns
returns c =
    let i = c.loop-row.invariant in
    c.from_vec.ensures ∙ column_end c.args.n c.loop-row._row (omega arith) c.args.k c.loop-row.entries.items c.loop-row.rest.now (column c.args.n c.args.k c.args.n c.args.matrix.now) i.entries
