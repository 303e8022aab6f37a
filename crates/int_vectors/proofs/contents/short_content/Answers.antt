use Rattle.std.proofs.Common.{◌≡◌, ◌+◌, sym, subst, pos, get_or, take, unsigned_abs, arith, rules, FitsSigned, to_z-of_z, take_all}
use Rattle.std.specs.Int.{w128, IsGcd}
use Rattle.std.proofs.lemmas.Nat.Gcd.{IsGcd-swap}
use Rattle.int_vectors.specs.Contents.{IsContent}
use Rattle.int_vectors.proofs.EntryDivisors.{content_more, content_one, same_content}
use Rattle.int_vectors.proofs.contents.short_content.Goals as goal

pub returns-then-g-eq1 : goal.returns-then-g-eq1
returns-then-g-eq1 c =
    let fx : FitsSigned w128 (get_or c.args.entries.now c.loop-x.x-index (pos 0)) = search rules in
    let e : c.in_ok-short_size.field-0 ≡ unsigned_abs (get_or c.args.entries.now c.loop-x.x-index (pos 0)) = simp to_z-of_z at c.in_ok-short_size.ensures in
    let d : IsGcd (unsigned_abs (get_or c.args.entries.now c.loop-x.x-index (pos 0))) c.loop-x.g c.short_gcd-g.result = rw e at c.short_gcd-g.ensures in
    let h = content_more c.args.entries.now c.loop-x.x-index c.loop-x.g c.short_gcd-g.result c.loop-x-test.true c.loop-x.invariant (IsGcd-swap (unsigned_abs (get_or c.args.entries.now c.loop-x.x-index (pos 0))) c.loop-x.g c.short_gcd-g.result d) in
    sym (content_one c.args.entries.now (c.loop-x.x-index + 1) (subst (IsContent (take (c.loop-x.x-index + 1) c.args.entries.now)) c.if-g-eq1.true h))

pub loop-x-preserved : goal.loop-x-preserved
loop-x-preserved c =
    let fx : FitsSigned w128 (get_or c.args.entries.now c.loop-x.x-index (pos 0)) = search rules in
    let e : c.in_ok-short_size.field-0 ≡ unsigned_abs (get_or c.args.entries.now c.loop-x.x-index (pos 0)) = simp to_z-of_z at c.in_ok-short_size.ensures in
    let d : IsGcd (unsigned_abs (get_or c.args.entries.now c.loop-x.x-index (pos 0))) c.loop-x.g c.short_gcd-g.result = rw e at c.short_gcd-g.ensures in
    let h = content_more c.args.entries.now c.loop-x.x-index c.loop-x.g c.short_gcd-g.result c.loop-x-test.true c.loop-x.invariant (IsGcd-swap (unsigned_abs (get_or c.args.entries.now c.loop-x.x-index (pos 0))) c.loop-x.g c.short_gcd-g.result d) in
    h

pub returns : goal.returns
returns c = same_content c.args.entries.now c.loop-x.g (rw (take_all c.loop-x.x-index c.args.entries.now (omega arith)) at c.loop-x.invariant)
