use Rattle.std.proofs.Common.{◌≡◌, ◌<◌, ◌*ℤ◌, pos, length, get_or, unsigned_abs, int_div, FitsSigned, to_z-of_z, rules, arith, subst}
use Rattle.std.specs.Int.{w128}
use Rattle.wide_int.proofs.Dividing.{quot_exact}
use Rattle.int_vectors.proofs.EntryDivisors.{divides_at}
use Rattle.int_vectors.proofs.DividingEach.{done_more, left_more, same_left}
use Rattle.int_vectors.proofs.contents.divide_all.Goals as goal

pub loop-x-preserved : goal.loop-x-preserved
loop-x-preserved c =
    let i = c.loop-x.x-index in
    let old = c.args.entries.now in
    let now = c.loop-x.entries in
    let fg : FitsSigned w128 c.args.g = c.ranges.g in
    let fx : FitsSigned w128 (get_or c.loop-x.entries c.loop-x.x-index (pos 0)) = search rules in
    let inv = simp to_z-of_z at c.loop-x.invariant in
    let lo : c.loop-x.x-index < length c.args.entries.now = omega arith in
    let ln : c.loop-x.x-index < length c.loop-x.entries = omega arith in
    let same = (same_left old now i inv.left).0 in
    let q = int_div (get_or now i (pos 0)) c.args.g in
    let e : c.args.g *ℤ q ≡ get_or old i (pos 0) =
    subst (λ x. c.args.g *ℤ int_div x c.args.g ≡ get_or old i (pos 0)) same (quot_exact (get_or old i (pos 0)) c.args.g (divides_at (unsigned_abs c.args.g) old i lo c.requires.exact)) in
    let fq : FitsSigned w128 c.quotient.result = search rules in
    let d : c.quotient.result ≡ q = simp to_z-of_z at c.quotient.ensures in
    simp to_z-of_z (rw d (record {
      done = done_more c.args.g q old now i lo ln inv.done e;
      left = left_more q old now i inv.left;
    }))
