use Rattle.std.proofs.Common.{◌-◌, false, rules}
use Rattle.std.specs.Prelude.{IsTrue}
use Rattle.canonical_parent.proofs.Keeping.{parent_where}
use Rattle.canonical_parent.proofs.keep.keeps.Goals as goal

pub returns-then-not-is_least-clause-parent : goal.returns-then-not-is_least-clause-parent
returns-then-not-is_least-clause-parent c =
    let n : ¬ (IsTrue c.is_least.result) = search rules in
    let f : ¬ (IsTrue false) = search rules in
    λ p t w.
    let k = parent_where p c.args.cell.now c.args.child.now (c.args.support - 1) c.args.position c.args.signs.now t w in
    ((λ u. absurd (f u)), (λ h. absurd (n (c.is_least.ensures.rule.1 (k.1 h).1))))

pub returns-clause-rule : goal.returns-clause-rule
returns-clause-rule c =
    let t : IsTrue c.is_least.result = search rules in
    let k = c.successors.ensures.rule.1 c.args.child.now in (
      (λ u. (k.0 (c.is_among.ensures.0 u), c.is_least.ensures.rule.0 t)),
      (λ h. c.is_among.ensures.1 (k.1 h.0)),
    )

pub returns-clause-parent : goal.returns-clause-parent
returns-clause-parent c = λ p t w.
    let k = parent_where p c.args.cell.now c.args.child.now (c.args.support - 1) c.args.position c.args.signs.now t w in
    let r = returns-clause-rule c in
    ((λ u. k.0 (r.0 u)), (λ h. r.1 (k.1 h)))
