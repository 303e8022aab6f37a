use Rattle.std.proofs.Common.{◌≡◌, ◌+◌, ◌∙◌, sym, ap, subst, pos, get_or, take, unsigned_abs, arith, rules, FitsSigned, to_z, to_z-of_z, take_all}
use Rattle.std.specs.Int.{w128}
use Rattle.int_vectors.specs.Contents.{IsContent}
use Rattle.int_vectors.proofs.EntryDivisors.{content_more, content_one, same_content}
use Rattle.int_vectors.proofs.Fitting.{fits_entry}
use Rattle.wide_int.proofs.Signed.{as_pos, nonneg_fits}
use Rattle.int_vectors.proofs.contents.wide_content.Goals as goal

pub gcd-g-requires-clause-b_fits : goal.gcd-g-requires-clause-b_fits
gcd-g-requires-clause-b_fits c =
    let fx : FitsSigned w128 (get_or c.args.entries.now c.loop-x.x-index (pos 0)) = search rules in
    simp to_z-of_z (fits_entry c.args.entries.now c.loop-x.x-index (omega arith) c.requires)

pub returns-then-g-eq1-clause-value : goal.returns-then-g-eq1-clause-value
returns-then-g-eq1-clause-value c =
    let i = c.loop-x.x-index in
    let fx : FitsSigned w128 (get_or c.args.entries.now c.loop-x.x-index (pos 0)) = search rules in
    let fr : FitsSigned w128 c.gcd-g.result = search rules in
    let v = c.loop-x.invariant in
    let d = simp to_z-of_z at c.gcd-g.ensures.divisor in
    let k = content_more c.args.entries.now i _ (unsigned_abs c.gcd-g.result) c.loop-x-test.true v.is d in
    let e : c.gcd-g.result ≡ pos 1 = sym (to_z-of_z {w = w128} {z = c.gcd-g.result} fr) ∙ ap (to_z w128) c.if-g-eq1.true in
    ap pos (sym (content_one c.args.entries.now (i + 1) (subst (λ z. IsContent (take (i + 1) c.args.entries.now) (unsigned_abs z)) e k)))

pub loop-x-preserved : goal.loop-x-preserved
loop-x-preserved c =
    let i = c.loop-x.x-index in
    let fx : FitsSigned w128 (get_or c.args.entries.now c.loop-x.x-index (pos 0)) = search rules in
    let fr : FitsSigned w128 c.gcd-g.result = search rules in
    let v = c.loop-x.invariant in
    let d = simp to_z-of_z at c.gcd-g.ensures.divisor in
    let s = c.gcd-g.ensures.sign in
    simp to_z-of_z (record {
      fits = nonneg_fits c.gcd-g.result fr s;
      sign = s;
      is = content_more c.args.entries.now i _ (unsigned_abs c.gcd-g.result) c.loop-x-test.true v.is d;
    })

pub returns-clause-value : goal.returns-clause-value
returns-clause-value c =
    let v = c.loop-x.invariant in
    as_pos _ v.sign ∙ ap pos (same_content c.args.entries.now _ (rw (take_all c.loop-x.x-index c.args.entries.now (omega arith)) at v.is))
