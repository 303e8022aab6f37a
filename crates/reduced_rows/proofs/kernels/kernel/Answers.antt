use Rattle.std.proofs.Common.{◌≡◌, ◌∙◌, pos, unsigned_abs, ◌++◌, ◌∷◌, [], ap, ap₂, sym, subst, rules, FitsSigned, to_z-of_z, arith}
use Rattle.std.specs.Int.{w128}
use Rattle.wide_int.specs.Whole.{FitsWhole}
use Rattle.int_vectors.specs.Fits.{AllFit}
use Rattle.int_vectors.proofs.Differences.{all-append}
use Rattle.int_vectors.specs.Vectors.{zeros}
use Rattle.reduced_rows.specs.Denominators.{shares, lcm_from}
use Rattle.reduced_rows.proofs.KernelEntries.{zeros_more, no_lcm, no_shares, kernel_end}
use Rattle.reduced_rows.proofs.kernels.kernel.Goals as goal

pub returns-in_default : goal.returns-in_default
returns-in_default c = no_lcm c.args.k c.args.done.now c.in_default.ensures.value

pub returns-in_default-2 : goal.returns-in_default-2
returns-in_default-2 c =
    let fl : FitsSigned w128 c.in-Some.l = search rules in
    let e : unsigned_abs c.in-Some.l ≡ lcm_from 0 1 c.args.done.now = ap unsigned_abs c.in-Some.ensures.value.1 in
    let n = rw c.in_default-2.is at (simp to_z-of_z at c.in_ok-entries.ensures) in
    no_shares c.args.k c.args.done.now (rw e at n)

pub loop-turn-init : goal.loop-turn-init
unfolding zeros
loop-turn-init c =
    let fl : FitsSigned w128 c.in-Some.l = search rules in
    let e : unsigned_abs c.in-Some.l ≡ lcm_from 0 1 c.args.done.now = ap unsigned_abs c.in-Some.ensures.value.1 in
    let n = rw e at (rw c.in-Some-2.is at (simp to_z-of_z at c.in_ok-entries.ensures)) in
    let m = simp to_z-of_z at c.in_ok-push.ensures.items in
    let f : FitsWhole c.in-Some.l = c.in-Some.ensures.fits in
    record {
      made = m ∙ ap₂ (λ a b. a ++ b ∷ []) n.1 c.in-Some.ensures.value.1;
      all = subst AllFit (sym m) (all-append c.in-Some-2.entries.items c.in-Some.l n.2 f);
    }

pub loop-turn-preserved : goal.loop-turn-preserved
loop-turn-preserved c =
    let m = c.in_ok-push-2.ensures.items in
    let l = lcm_from 0 1 c.args.done.now in
    record {
      made = m ∙ zeros_more (shares c.args.k 0 l c.args.done.now) (pos l) c.loop-turn._turn c.loop-turn.entries.items c.loop-turn.invariant.made;
      all = subst AllFit (sym m) (all-append c.loop-turn.entries.items (pos 0) c.loop-turn.invariant.all (omega arith));
    }

pub returns : goal.returns
returns c =
    let fl : FitsSigned w128 c.in-Some.l = search rules in
    let e : unsigned_abs c.in-Some.l ≡ lcm_from 0 1 c.args.done.now = ap unsigned_abs c.in-Some.ensures.value.1 in
    let f = rw e at (rw c.in-Some-2.is at (simp to_z-of_z at c.in_ok-entries.ensures)) in
    let n : c.loop-turn._turn ≡ c.args.more = omega arith in
    let m = subst (λ t. c.loop-turn.entries.items ≡ shares c.args.k 0 (lcm_from 0 1 c.args.done.now) c.args.done.now ++ (pos (lcm_from 0 1 c.args.done.now) ∷ zeros t)) n c.loop-turn.invariant.made in
    let r = kernel_end c.args.k c.args.more c.args.done.now c.loop-turn.entries.items c.in-Some.ensures.value.0 f.0 m in
    (r.0, c.from_vec.ensures ∙ r.1)
