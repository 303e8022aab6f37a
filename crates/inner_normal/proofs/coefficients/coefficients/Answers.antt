use Rattle.std.proofs.Common.{◌≡◌, ◌∙◌, ◌^◌, pos, sym, ap, subst, length, FitsSigned, to_z-of_z, arith, List, ℤ}
use Rattle.std.specs.Int.{w128}
use Rattle.int_vectors.specs.Bounds.{SumBelow}
use Rattle.int_vectors.specs.Vectors.{sub}
use Rattle.int_vectors.proofs.Each.{all_each, same_read}
use Rattle.inner_normal.specs.Coefficients.{products, coefficients_from}
use Rattle.inner_normal.proofs.Bounded.{less_start}
use Rattle.inner_normal.proofs.CoefficientSteps.{fits_to, fits_from, fits_more, fits_not, items_more, all_more, items_end, fits_end, all_end}
use Rattle.inner_normal.proofs.coefficients.coefficients.Goals as goal

pub pair_of-requires-clause-first : goal.pair_of-requires-clause-first
pair_of-requires-clause-first c =
    sym (ap length (c.as_slice.ensures.value ∙ c.index-columns-i.is) ∙ all_each (λ (column : List ℤ). length column ≡ length c.args.c.now) c.args.columns.now c.requires.columns c.loop-i.i _ c.loop-i-test.true)

pub pair_of-requires-clause-second : goal.pair_of-requires-clause-second
pair_of-requires-clause-second c =
    c.requires.points
    ∙ sym (ap length (c.as_slice.ensures.value ∙ c.index-columns-i.is) ∙ all_each (λ (column : List ℤ). length column ≡ length c.args.c.now) c.args.columns.now c.requires.columns c.loop-i.i _ c.loop-i-test.true)

pub pair_of-requires-clause-bound : goal.pair_of-requires-clause-bound
pair_of-requires-clause-bound c =
    let fd : FitsSigned w128 c.args.den = c.ranges.den in
    λ t. subst (λ (column : List ℤ). SumBelow (2 ^ 127) 66000000 (pos 0) column) (sym (c.as_slice.ensures.value ∙ c.index-columns-i.is))
    (less_start c.args.den _ (all_each (λ (column : List ℤ). SumBelow (2 ^ 127) 66000000 c.args.den column) c.args.columns.now (c.requires.bound t) c.loop-i.i _ c.loop-i-test.true))

pub returns-in_default : goal.returns-in_default
returns-in_default c =
    let fd : FitsSigned w128 c.args.den = c.ranges.den in
    let v = sub c.args.c.now c.args.a.now in
    let columns = c.args.columns.now in
    let column = c.as_slice.result.now in
    let is = c.as_slice.ensures.value ∙ c.index-columns-i.is ∙ same_read columns c.loop-i.i _ column c.loop-i-test.true in
    let inv = simp to_z-of_z at c.loop-i.invariant in
    let n = simp to_z-of_z at c.in_default.ensures in
    λ f. fits_not c.args.place c.args.den v columns c.loop-i.i column c.loop-i-test.true is inv.fits n (fits_from c.args.place c.args.den v columns c.requires.place f.0 f.1)

pub loop-i-preserved : goal.loop-i-preserved
loop-i-preserved c =
    let fd : FitsSigned w128 c.args.den = c.ranges.den in
    let v = sub c.args.c.now c.args.a.now in
    let columns = c.args.columns.now in
    let column = c.as_slice.result.now in
    let is = c.as_slice.ensures.value ∙ c.index-columns-i.is ∙ same_read columns c.loop-i.i _ column c.loop-i-test.true in
    let inv = simp to_z-of_z at c.loop-i.invariant in
    let h = simp to_z-of_z at c.in-Some.ensures in
    let all = coefficients_from 0 c.args.place c.args.den (products v columns) in
    simp to_z-of_z (record {
      items = items_more c.args.place c.args.den v columns c.loop-i.i column c.loop-i-test.true is c.loop-i.made.items c.extend_from_slice.new.self.items c.in-Some.pair all inv.items h.1 c.in_ok-extend_from_slice.ensures.items;
      fits = fits_more c.args.place c.args.den v columns c.loop-i.i column c.loop-i-test.true is inv.fits h.0.0 h.0.1;
      all = all_more c.args.place c.args.den v columns c.loop-i.i column c.loop-i-test.true is c.loop-i.made.items c.extend_from_slice.new.self.items c.in-Some.pair inv.all h.0.0 h.0.1 h.1 c.in_ok-extend_from_slice.ensures.items;
    })

pub returns : goal.returns
returns c =
    let fd : FitsSigned w128 c.args.den = c.ranges.den in
    let v = sub c.args.c.now c.args.a.now in
    let columns = c.args.columns.now in
    let inv = simp to_z-of_z at c.loop-i.invariant in
    let all = coefficients_from 0 c.args.place c.args.den (products v columns) in
    let f = fits_to c.args.place c.args.den v columns c.requires.place (fits_end c.args.place c.args.den v columns c.loop-i.i (omega arith) inv.fits) in
    let push = simp to_z-of_z at c.in_ok-push.ensures.items in (
      f,
      items_end c.args.place c.args.den v columns c.loop-i.i c.loop-i.made.items c.push.new.self.items all (omega arith) inv.items push,
      all_end c.args.den c.loop-i.made.items c.push.new.self.items inv.all c.requires.fits push,
    )
