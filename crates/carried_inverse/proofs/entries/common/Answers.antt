use Rattle.std.proofs.Common.{rules, ◌≡◌, ◌<◌, ◌^◌, pos, unsigned_abs, FitsSigned, to_z-of_z, arith}
use Rattle.std.specs.Int.{w64}
use Rattle.std.proofs.lemmas.Int.{ints}
use Rattle.carried_inverse.proofs.EntrySteps.{divisor_small}
use Rattle.carried_inverse.proofs.entries.common.Goals as goal

pub as_signed-requires : goal.as_signed-requires
as_signed-requires c =
    let fg : FitsSigned w64 c.args.g = c.ranges.g in
    let v : c.unsigned_abs-2.result ≡ unsigned_abs c.args.g = search rules in
    let p = c.requires in
    let f : unsigned_abs c.args.g < 2 ^ 63 = omega (arith, ints, fg.sfits, p) in
    let h = rw v at c.gcd.ensures in
    (divisor_small c.args.g c.gcd.result p f h.1).0

pub returns-clause-divisor : goal.returns-clause-divisor
returns-clause-divisor c =
    let fx : FitsSigned w64 c.args.x = c.ranges.x in
    let fg : FitsSigned w64 c.args.g = c.ranges.g in
    let fs : FitsSigned w64 c.as_signed.result = search rules in
    let u : c.unsigned_abs.result ≡ unsigned_abs c.args.x = search rules in
    let v : c.unsigned_abs-2.result ≡ unsigned_abs c.args.g = search rules in
    let h = rw (u, v) at c.gcd.ensures in
    let e : c.as_signed.result ≡ pos c.gcd.result = c.as_signed.ensures in
    simp to_z-of_z (rw e h)

pub returns-clause-positive : goal.returns-clause-positive
returns-clause-positive c =
    let fg : FitsSigned w64 c.args.g = c.ranges.g in
    let fs : FitsSigned w64 c.as_signed.result = search rules in
    let v : c.unsigned_abs-2.result ≡ unsigned_abs c.args.g = search rules in
    let p = c.requires in
    let f : unsigned_abs c.args.g < 2 ^ 63 = omega (arith, ints, fg.sfits, p) in
    let h = rw v at c.gcd.ensures in
    let k = (divisor_small c.args.g c.gcd.result p f h.1).1 in
    let e : c.as_signed.result ≡ pos c.gcd.result = c.as_signed.ensures in
    simp to_z-of_z (rw e (omega (arith, ints, k)))
