use Rattle.std.proofs.Common.{◌≡◌, ◌<◌, ◌<ℤ◌, ◌∙◌, ◌-ℤ◌, neg_ℤ, length, pos, unsigned_abs, ap, sym, subst, rules, FitsSigned, to_z-of_z, arith, pos_of_ne-zero}
use Rattle.std.specs.Int.{w128}
use Rattle.std.proofs.lemmas.Int.{ints, quot_fits}
use Rattle.wide_int.specs.Whole.{FitsWhole}
use Rattle.wide_int.proofs.Dividing.{quotient}
use Rattle.wide_int.proofs.Signed.{is_zero, neg_fits, neg_signed, is_neg}
use Rattle.int_vectors.specs.Vectors.{at}
use Rattle.int_vectors.specs.Fits.{AllFit}
use Rattle.int_vectors.proofs.Differences.{all-append}
use Rattle.reduced_rows.specs.Denominators.{share, shares, FitsShares}
use Rattle.reduced_rows.proofs.Picking.{each_at}
use Rattle.reduced_rows.proofs.Multiples.{first_pivot}
use Rattle.reduced_rows.proofs.KernelEntries.{share_not, share_more, share_fits, share_is, is_pos}
use Rattle.reduced_rows.proofs.denominators.shares_of.Goals as goal

pub loop-j-init : goal.loop-j-init
unfolding shares FitsShares
loop-j-init c = let e = c.in_ok-entries.ensures.items in record { made = e; fitted = tt; all = subst AllFit (sym e) tt }

pub get-requires : goal.get-requires
get-requires c =
    let l = each_at (λ row. c.args.k < length row) c.args.done.now c.loop-j.j c.index-done-j.result c.loop-j-test.true c.requires.lengths in
    rw c.index-done-j.is l

pub get-requires-in-loop-j : goal.get-requires-in-loop-j
get-requires-in-loop-j c =
    let p = first_pivot c.args.done.now c.loop-j.j c.index-done-j.result c.loop-j-test.true c.requires.pivots in
    rw c.index-done-j.is p.0

pub nonzero_div-l : goal.nonzero_div-l
nonzero_div-l c =
    let fl : FitsSigned w128 c.args.l = c.ranges.l in
    let fj : FitsSigned w128 c.get-in-loop-j.result = search rules in
    let p = first_pivot c.args.done.now c.loop-j.j c.index-done-j.result c.loop-j-test.true c.requires.pivots in
    let v = c.get-in-loop-j.ensures.value ∙ ap (λ r. at r c.loop-j.j) c.index-done-j.is in
    let q : pos 0 <ℤ c.get-in-loop-j.result = subst (λ z. pos 0 <ℤ z) (sym v) p.1 in
    simp to_z-of_z ((pos_of_ne-zero (λ e. let z = is_zero c.get-in-loop-j.result fj e in omega (arith, ints, z, q))), quot_fits w128 c.args.l c.get-in-loop-j.result fl q)

pub returns-in-None : goal.returns-in-None
returns-in-None c =
    let fl : FitsSigned w128 c.args.l = c.ranges.l in
    let fk : FitsSigned w128 c.get.result = search rules in
    let fj : FitsSigned w128 c.get-in-loop-j.result = search rules in
    let p = first_pivot c.args.done.now c.loop-j.j c.index-done-j.result c.loop-j-test.true c.requires.pivots in
    let v = c.get-in-loop-j.ensures.value ∙ ap (λ r. at r c.loop-j.j) c.index-done-j.is in
    let q : pos 0 <ℤ c.get-in-loop-j.result = subst (λ z. pos 0 <ℤ z) (sym v) p.1 in
    let l = unsigned_abs c.args.l in
    let s = share_is c.args.k c.loop-j.j l c.index-done-j.result c.get.result c.args.l c.get-in-loop-j.result c.get.ensures.value (is_pos c.args.l c.requires.positive) c.get-in-loop-j.ensures.value in
    let n = rw (quotient c.args.l c.get-in-loop-j.result fl fj q, to_z-of_z {w = w128} {z = c.get.result} fk) at c.in-None.ensures in
    share_not c.args.k l c.args.done.now c.loop-j.j c.index-done-j.result c.loop-j-test.true c.index-done-j.is (λ h. n (subst FitsWhole (sym s) h))

pub loop-j-preserved : goal.loop-j-preserved
loop-j-preserved c =
    let fl : FitsSigned w128 c.args.l = c.ranges.l in
    let fk : FitsSigned w128 c.get.result = search rules in
    let fj : FitsSigned w128 c.get-in-loop-j.result = search rules in
    let fs : FitsSigned w128 c.in-Some.share = search rules in
    let p = first_pivot c.args.done.now c.loop-j.j c.index-done-j.result c.loop-j-test.true c.requires.pivots in
    let v = c.get-in-loop-j.ensures.value ∙ ap (λ r. at r c.loop-j.j) c.index-done-j.is in
    let q : pos 0 <ℤ c.get-in-loop-j.result = subst (λ z. pos 0 <ℤ z) (sym v) p.1 in
    let l = unsigned_abs c.args.l in
    let s = share_is c.args.k c.loop-j.j l c.index-done-j.result c.get.result c.args.l c.get-in-loop-j.result c.get.ensures.value (is_pos c.args.l c.requires.positive) c.get-in-loop-j.ensures.value in
    let n = rw (quotient c.args.l c.get-in-loop-j.result fl fj q, to_z-of_z {w = w128} {z = c.get.result} fk) at c.in-Some.ensures in
    let x = c.in-Some.share in
    let e : x ≡ share c.args.k c.loop-j.j l c.index-done-j.result = n.1 ∙ s in
    let f : FitsWhole (share c.args.k c.loop-j.j l c.index-done-j.result) = subst FitsWhole s n.0 in
    let fx : FitsWhole c.in-Some.share = subst FitsWhole (sym e) f in
    let fn : FitsSigned w128 (pos 0 -ℤ c.in-Some.share) = neg_signed x fx in
    let m = simp to_z-of_z at c.in_ok-push-in-Some.ensures.items in
    let g : FitsWhole (pos 0 -ℤ c.in-Some.share) = subst FitsWhole (sym (is_neg x)) (neg_fits x fx) in
    let i = simp to_z-of_z at c.loop-j.invariant in
    simp to_z-of_z (record {
      made = m ∙ share_more c.args.k l c.args.done.now c.loop-j.j c.index-done-j.result c.loop-j-test.true c.index-done-j.is c.loop-j.entries.items (pos 0 -ℤ x) i.made (is_neg x ∙ ap neg_ℤ e);
      fitted = share_fits c.args.k l c.args.done.now c.loop-j.j c.index-done-j.result c.loop-j-test.true c.index-done-j.is i.fitted f;
      all = subst AllFit (sym m) (all-append c.loop-j.entries.items (pos 0 -ℤ x) i.all g);
    })
