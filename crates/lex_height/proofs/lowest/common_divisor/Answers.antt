use Rattle.std.proofs.Common.{rules, FitsSigned, to_z, to_z-of_z, slice_index_or}
use Prim.Native.Nat.{◌∣◌}
use Rattle.std.specs.Prelude.{unsigned_abs}
use Rattle.std.specs.Int.{w128}
use Rattle.std.proofs.lemmas.Int.{fits_signed_from_abs}
use Rattle.lex_height.specs.Divisors.{DividesEach}
use Rattle.lex_height.specs.Room.{blank}
use Rattle.lex_height.proofs.Quotients.{first_number, later_parts, step_positive, step_fits, step_same, no_more}
use Rattle.lex_height.proofs.lowest.common_divisor.Goals as goal

pub loop-part-preserved : goal.loop-part-preserved
loop-part-preserved c =
    let ps = c.args.parts.now in
    let i = c.loop-part.part-index in
    let r = c.loop-part.invariant.rest in
    let x = to_z w128 c.loop-part.divisor-bits in
    let fg : FitsSigned w128 c.gcd-divisor.result = search rules in
    let fd : FitsSigned w128 c.args.den = c.ranges.den in
    let fn : FitsSigned w128 (slice_index_or ps i blank).num = fits_signed_from_abs w128 _ (first_number ps i r.0 blank c.loop-part-test.true r.1).1 in
    let g = simp to_z-of_z at c.gcd-divisor.ensures.divisor in
    simp to_z-of_z (record {
      positive = step_positive ps i r.0 blank c.loop-part-test.true r.1 x c.gcd-divisor.result g c.gcd-divisor.ensures.sign;
      fits = step_fits ps i r.0 blank c.loop-part-test.true r.1 x c.gcd-divisor.result g c.loop-part.invariant.positive c.loop-part.invariant.fits;
      rest = later_parts ps i r.0 blank c.loop-part-test.true r.1;
      same = λ d. step_same ps i r.0 blank c.loop-part-test.true r.1 x c.gcd-divisor.result g ((d ∣ unsigned_abs c.args.den) × DividesEach d ps) d (simp to_z-of_z at (c.loop-part.invariant.same d));
    })

pub returns-clause-gcd : goal.returns-clause-gcd
returns-clause-gcd c =
    let fd : FitsSigned w128 c.args.den = c.ranges.den in
    λ d. no_more ((d ∣ unsigned_abs c.args.den) × DividesEach d c.args.parts.now) c.args.parts.now c.loop-part.part-index d (to_z w128 c.loop-part.divisor-bits) c.loop-part-test.false (simp to_z-of_z at (c.loop-part.invariant.same d))
