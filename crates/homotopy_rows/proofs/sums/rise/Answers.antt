use Rattle.std.proofs.Common.{rules, ◌≡◌, ◌-ℤ◌, ◌*ℤ◌, sym, subst, FitsSigned, to_z-of_z}
use Rattle.std.specs.Int.{w128}
use Rattle.wide_int.specs.Whole.{FitsWhole}
use Rattle.int_vectors.specs.Bounds.{IsNarrow}
use Rattle.int_vectors.specs.Vectors.{Each, sub}
use Rattle.cayley.proofs.Lists.Reaching.{plain_narrow}
use Rattle.cayley.specs.Resting.{rise}
use Rattle.inner_normal.proofs.CoefficientSteps.{fits_total}
use Rattle.cell_certificate.specs.Sides.{seen}
use Rattle.homotopy_rows.proofs.sums.rise.Goals as goal

pub dot_between_unchecked-requires-clause-a_small : goal.dot_between_unchecked-requires-clause-a_small
dot_between_unchecked-requires-clause-a_small c = subst (λ xs. Each xs IsNarrow) (sym c.as_slice.ensures.value) (plain_narrow c.args.a.now.coords c.requires.a_near.1.0)

pub dot_between_unchecked-requires-clause-c_small : goal.dot_between_unchecked-requires-clause-c_small
dot_between_unchecked-requires-clause-c_small c = subst (λ xs. Each xs IsNarrow) (sym c.as_slice-2.ensures.value) (plain_narrow c.args.x.now.coords c.requires.x_near.1.0)

pub returns-clause-fits : goal.returns-clause-fits
returns-clause-fits c =
    let den = c.args.normal.now.den in
    let fr : FitsSigned w128 c.dot_between_unchecked.result = search rules in
    let e : c.dot_between_unchecked.result ≡ rise c.args.normal.now.den c.args.normal.now.v (seen c.args.a.now) (seen c.args.x.now) = search rules in
    subst FitsWhole (sym (to_z-of_z {w = w128} {z = c.dot_between_unchecked.result} fr)) (subst FitsWhole (sym e) (fits_total (den *ℤ (c.args.x.now.height -ℤ c.args.a.now.height)) (sub c.args.x.now.coords c.args.a.now.coords) c.args.normal.now.v c.requires.fits.1))
