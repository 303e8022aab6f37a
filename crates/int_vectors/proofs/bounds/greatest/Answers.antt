use Rattle.std.proofs.Common.{rules, ◌≡◌, ◌<◌, pos, get_or, length, unsigned_abs, FitsSigned, arith, take_all, subst, sym}
use Rattle.std.specs.Int.{w128}
use Rattle.int_vectors.specs.Bounds.{Within}
use Rattle.int_vectors.proofs.BoundRows.{within_more, within_less}
use Rattle.int_vectors.proofs.bounds.greatest.Goals.{then-n-most, else-n-most}
use Rattle.int_vectors.proofs.bounds.greatest.Goals as goal

pub loop-x-preserved : goal.loop-x-preserved
loop-x-preserved c =
    let fx : FitsSigned w128 (get_or c.args.a.now c.loop-x.x-index (pos 0)) = search rules in
    let u : c.unsigned_abs-n.result ≡ unsigned_abs (get_or c.args.a.now c.loop-x.x-index (pos 0)) = search rules in
    let lt : c.loop-x.x-index < length c.args.a.now = omega arith in
    let v = c.loop-x.invariant in
    elim c.if-n-most.branch [
      | then-n-most w ↦ let e = w.most-is in let b = w.if-n-most in record {
        bound = within_more c.loop-x.most c.if-n-most.most c.args.a.now c.loop-x.x-index lt v.bound (omega (arith, e, b)) (omega (arith, e, u));
        least = λ k h. let l = within_less k c.args.a.now c.loop-x.x-index lt h in omega (arith, e, u, l.1);
      }
      | else-n-most w ↦ let e = w.most-is in let b = w.if-n-most in record {
        bound = within_more c.loop-x.most c.if-n-most.most c.args.a.now c.loop-x.x-index lt v.bound (omega (arith, e, b)) (omega (arith, e, u, b));
        least = λ k h. let l = within_less k c.args.a.now c.loop-x.x-index lt h in let m = v.least k l.0 in omega (arith, e, m);
      }
    ]

pub returns-clause-least : goal.returns-clause-least
returns-clause-least c = λ v h. c.loop-x.invariant.least v (subst (Within v) (sym (take_all c.loop-x.x-index c.args.a.now (omega arith))) h)
