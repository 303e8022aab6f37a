use Rattle.std.proofs.Common.{rules, ◌≡◌, ◌∙◌, sym, ap, length, false, FitsSigned, to_z-of_z, arith, List, ℤ}
use Rattle.std.specs.Int.{w128}
use Rattle.std.specs.Prelude.{IsTrue}
use Rattle.int_vectors.specs.Vectors.{sub}
use Rattle.int_vectors.proofs.Each.{all_each, same_read}
use Rattle.inner_normal.proofs.Bounded.{within_sub}
use Rattle.inner_normal.proofs.WithinBounds.{all_within}
use Rattle.inner_normal.proofs.CoefficientSteps.{fits_to, fits_from, fits_more, fits_not, fits_end}
use Rattle.inner_normal.proofs.coefficients.coefficients_fit.Goals as goal

pub returns-then-bounded : goal.returns-then-bounded
returns-then-bounded c =
    let fd : FitsSigned w128 c.args.den = c.ranges.den in
    let b = c.requires.bound c.if-bounded.true in
    let w = within_sub c.args.c.now c.args.a.now (sym c.requires.points) c.requires.c_near c.requires.a_near in
    let a = all_within c.args.den (sub c.args.c.now c.args.a.now) c.args.columns.now c.args.place w c.requires.place b in
    ((λ t. a), (λ h. search rules))

pub pair_of-requires-clause-first : goal.pair_of-requires-clause-first
pair_of-requires-clause-first c =
    sym (ap length (c.as_slice.ensures.value ∙ c.index-columns-i.is) ∙ all_each (λ (column : List ℤ). length column ≡ length c.args.c.now) c.args.columns.now c.requires.columns c.loop-i.i _ c.loop-i-test.true)

pub pair_of-requires-clause-second : goal.pair_of-requires-clause-second
pair_of-requires-clause-second c =
    c.requires.points
    ∙ sym (ap length (c.as_slice.ensures.value ∙ c.index-columns-i.is) ∙ all_each (λ (column : List ℤ). length column ≡ length c.args.c.now) c.args.columns.now c.requires.columns c.loop-i.i _ c.loop-i-test.true)

pub returns-in_default : goal.returns-in_default
returns-in_default c =
    let fd : FitsSigned w128 c.args.den = c.ranges.den in
    let v = sub c.args.c.now c.args.a.now in
    let columns = c.args.columns.now in
    let column = c.as_slice.result.now in
    let is = c.as_slice.ensures.value ∙ c.index-columns-i.is ∙ same_read columns c.loop-i.i _ column c.loop-i-test.true in
    let inv = simp to_z-of_z at c.loop-i.invariant in
    let n = simp to_z-of_z at c.in_default.ensures in
    let u : ¬ (IsTrue false) = search rules in
    ((λ t. absurd (u t)), (λ f. absurd (fits_not c.args.place c.args.den v columns c.loop-i.i column c.loop-i-test.true is inv n (fits_from c.args.place c.args.den v columns c.requires.place f.0 f.1))))

pub loop-i-preserved : goal.loop-i-preserved
loop-i-preserved c =
    let fd : FitsSigned w128 c.args.den = c.ranges.den in
    let v = sub c.args.c.now c.args.a.now in
    let columns = c.args.columns.now in
    let column = c.as_slice.result.now in
    let is = c.as_slice.ensures.value ∙ c.index-columns-i.is ∙ same_read columns c.loop-i.i _ column c.loop-i-test.true in
    let inv = simp to_z-of_z at c.loop-i.invariant in
    let h = simp to_z-of_z at c.in-Some.ensures in
    simp to_z-of_z (fits_more c.args.place c.args.den v columns c.loop-i.i column c.loop-i-test.true is inv h.0.0 h.0.1)

pub returns : goal.returns
returns c =
    let fd : FitsSigned w128 c.args.den = c.ranges.den in
    let v = sub c.args.c.now c.args.a.now in
    let columns = c.args.columns.now in
    let inv = simp to_z-of_z at c.loop-i.invariant in
    let f = fits_to c.args.place c.args.den v columns c.requires.place (fits_end c.args.place c.args.den v columns c.loop-i.i (omega arith) inv) in
    ((λ t. f), (λ h. search rules))
