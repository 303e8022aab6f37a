use Rattle.std.proofs.Common.{rules, ◌∙◌, pos, get_or, ap₂, sym, subst, [], ◌∷◌, ◌++◌, FitsSigned, to_z-of_z}
use Rattle.std.specs.Int.{w128}
use Rattle.int_vectors.specs.Fits.{AllFit}
use Rattle.int_vectors.proofs.Differences.{sub-more, all-append, sub_not}
use Rattle.int_vectors.proofs.sums.differences.Goals as goal

pub returns-in_default-difference : goal.returns-in_default-difference
returns-in_default-difference c =
    let fx : FitsSigned w128 (get_or c.args.a.now c.loop-i.i (pos 0)) = search rules in
    let fy : FitsSigned w128 (get_or c.args.b.now c.loop-i.i (pos 0)) = search rules in
    let n = simp to_z-of_z at c.in_default-difference.ensures in
    sub_not c.args.a.now c.args.b.now c.loop-i.i c.requires.lengths c.loop-i-test.true n

pub loop-i-preserved : goal.loop-i-preserved
loop-i-preserved c =
    let a = c.args.a.now in
    let b = c.args.b.now in
    let i = c.loop-i.i in
    let fx : FitsSigned w128 (get_or c.args.a.now c.loop-i.i (pos 0)) = search rules in
    let fy : FitsSigned w128 (get_or c.args.b.now c.loop-i.i (pos 0)) = search rules in
    let fe : FitsSigned w128 c.in-Some.entry = search rules in
    let d = simp to_z-of_z at c.in-Some.ensures in
    let m = simp to_z-of_z at c.in_default-push.ensures.items in
    record {
      made = m ∙ ap₂ (λ l x. l ++ x ∷ []) c.loop-i.invariant.made d.1 ∙ sym (sub-more a b i c.requires.lengths c.loop-i-test.true);
      fits = subst AllFit (sym m) (all-append c.loop-i.made.items c.in-Some.entry c.loop-i.invariant.fits (rw d.1 d.0));
    }
