use Rattle.std.proofs.Common.{◌≡◌, ◌∷◌, ◌<ℤ◌, pos, take, sym, ap, subst, unsigned_abs, arith, rules, FitsSigned, to_z, to_z-of_z}
use Rattle.std.specs.Int.{w128}
use Rattle.wide_int.proofs.CommonDivisors.{gcd_above}
use Rattle.wide_int.proofs.Signed.{nonneg_fits}
use Rattle.wide_int.specs.Whole.{FitsWhole}
use Rattle.int_vectors.specs.Contents.{content, IsContent}
use Rattle.reduced_rows.proofs.SpanSteps.{positive_other}
use Rattle.homotopy_rows.specs.Powers.{all_of}
use Rattle.homotopy_rows.proofs.Dividing.{same_divisor, divisor_more, divisor_one, divisor_whole}
use Rattle.homotopy_rows.proofs.scaling.common_divisor.Goals as goal

pub returns-then-g-eq1-clause-greatest : goal.returns-then-g-eq1-clause-greatest
returns-then-g-eq1-clause-greatest c =
    let fd : FitsSigned w128 c.args.den = c.ranges.den in
    let inv = simp to_z-of_z at c.loop-ws.invariant in
    let e : to_z w128 c.loop-ws.g-bits ≡ pos 1 = ap (to_z w128) c.if-g-eq1.true in
    divisor_one c.args.den c.args.sums.now c.loop-ws.ws-index (subst (λ z. IsContent (c.args.den ∷ all_of (take c.loop-ws.ws-index c.args.sums.now)) (unsigned_abs z)) e inv.is)

pub loop-ws-preserved : goal.loop-ws-preserved
loop-ws-preserved c =
    let fd : FitsSigned w128 c.args.den = c.ranges.den in
    let fc : FitsSigned w128 c.content.result = search rules in
    let fr : FitsSigned w128 c.gcd-g.result = search rules in
    let inv = simp to_z-of_z at c.loop-ws.invariant in
    let d = simp to_z-of_z at c.gcd-g.ensures.divisor in
    let v : c.content.result ≡ pos (content c.ws-item.result) = c.content.ensures.value in
    let s = c.gcd-g.ensures.sign in
    let k = rw v at d in
    let ed = sym (to_z-of_z {w = w128} {z = c.args.den} fd) in
    let er = sym (to_z-of_z {w = w128} {z = c.gcd-g.result} fr) in
    record {
      is = same_divisor c.args.den _ c.gcd-g.result _ _ ed er
          (divisor_more c.args.den c.args.sums.now c.loop-ws.ws-index _ (content c.ws-item.result) (unsigned_abs c.gcd-g.result) c.ws-item.result c.loop-ws-test.true c.ws-item.is inv.is c.content.ensures.greatest k);
      positive = subst (λ z. pos 0 <ℤ z) er (gcd_above c.content.result (to_z w128 c.loop-ws.g-bits) c.gcd-g.result (positive_other (to_z w128 c.loop-ws.g-bits) inv.positive) d s);
      fits = subst FitsWhole er (nonneg_fits c.gcd-g.result fr s);
    }

pub returns-clause-greatest : goal.returns-clause-greatest
returns-clause-greatest c =
    let fd : FitsSigned w128 c.args.den = c.ranges.den in
    let inv = simp to_z-of_z at c.loop-ws.invariant in
    divisor_whole c.args.den c.args.sums.now c.loop-ws.ws-index _ (omega (arith, c.loop-ws-test.false)) inv.is
