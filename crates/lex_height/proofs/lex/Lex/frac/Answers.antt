use Rattle.std.proofs.Common.{rules, sym, subst, ap, ◌∙◌, ◌≡◌, ◌<◌, IfSome, length}
use Rattle.std.proofs.Math.IntN.{pos}
use Rattle.wide_int.specs.Fractions.{IsFraction}
use Rattle.lex_height.specs.Room.{blank}
use Rattle.lex_height.specs.Entries.{entry}
use Rattle.lex_height.specs.Values.{AreParts}
use Rattle.lex_height.proofs.Fractions.{none_at_zero, later_at_zero, zero_fraction}
use Rattle.lex_height.proofs.lex.Lex.frac.Goals as goal
use Rattle.lex_height.proofs.lex.Lex.frac.Goals.{in_default-via-then-as_slice-lt1, in_default-via-in-len1-up+else-part-eq0}

pub returns-in_default-clause-value : goal.returns-in_default-clause-value
returns-in_default-clause-value c =
    let v = subst (λ o. IfSome o (λ f. IsFraction f (pos 0) (pos 1))) c.unwrap-in_default.ensures c.lowest-in_default.ensures.value in
    let same : c.as_slice.result.now ≡ c.args.self.now.parts = c.as_slice.ensures.parts ∙ ap (λ v. v.parts) c.self.view_is in
    let none : entry c.as_slice.result.now 0 ≡ pos 0 =
    elim c.in_default.branch [
      | in_default-via-then-as_slice-lt1 w ↦ none_at_zero c.as_slice.result.now (search rules)
      | in_default-via-in-len1-up+else-part-eq0 w ↦ later_at_zero c.as_slice.result.now blank (subst (AreParts 0) (sym c.as_slice.ensures.parts) c.self.invariant.0.1) w.in-len1-up.len_at_least w.if-part-eq0.false
    ] in
    zero_fraction c.unwrap-in_default.result (entry c.args.self.now.parts 0) c.args.self.now.den v (ap (λ ps. entry ps 0) (sym same) ∙ none)
