use Rattle.std.proofs.Common.{◌≡◌, ℤ, ◌-ℤ◌, SomeIff, Some, None, Option, sym, ◌∙◌, ap₂, subst, FitsSigned, to_z-of_z, rules}
use Rattle.std.specs.Int.{w128}
use Rattle.wide_int.specs.Whole.{FitsWhole}
use Rattle.wide_int.proofs.checked.checked_mul_sub.Goals as goal

joined : (r : Option ℤ) (l m p q : ℤ) → FitsWhole p → l ≡ p → FitsWhole q → m ≡ q
    → SomeIff r (FitsWhole (l -ℤ m)) (l -ℤ m) → SomeIff r (FitsWhole p × FitsWhole q × FitsWhole (p -ℤ q)) (p -ℤ q)
joined None l m p q fp lp fq mq s = λ h. s (subst FitsWhole (sym (ap₂ ◌-ℤ◌ lp mq)) h.2)
joined (Some x) l m p q fp lp fq mq s = ((fp, fq, subst FitsWhole (ap₂ ◌-ℤ◌ lp mq) s.0), s.1 ∙ ap₂ ◌-ℤ◌ lp mq)

pub returns : goal.returns
returns c =
    let fa : FitsSigned w128 c.args.a = c.ranges.a in
    let fb : FitsSigned w128 c.args.b = c.ranges.b in
    let fc : FitsSigned w128 c.args.c = c.ranges.c in
    let fd : FitsSigned w128 c.args.d = c.ranges.d in
    let fl : FitsSigned w128 c.in_ok-left.left = search rules in
    let fr : FitsSigned w128 c.in_ok-right.right = search rules in
    let l = simp to_z-of_z at c.in_ok-left.ensures in
    let r = simp to_z-of_z at c.in_ok-right.ensures in
    joined c.difference.result _ _ _ _ l.0 l.1 r.0 r.1 (simp to_z-of_z at c.difference.ensures)
