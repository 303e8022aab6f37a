use Rattle.std.proofs.Common.{◌-◌, arith, refl, rules}
use Rattle.std.specs.Prelude.{IsTrue}
use Rattle.canonical_parent.proofs.Keeping.{least_by_points, parent_by_least}
use Rattle.canonical_parent.proofs.keep.is_least.Goals as goal

pub returns-then-stands_past-clause-rule : goal.returns-then-stands_past-clause-rule
returns-then-stands_past-clause-rule c =
    let a = c.requires.support.0 in
    let b = c.requires.support.1 in
    let w = least_by_points c.args.cell.now c.pairs.result.now (c.args.support - 1) c.args.position c.args.signs.now c.a.result c.b.result c.pairs.ensures.same c.a.ensures.same c.b.ensures.same c.pairs.ensures.valid.2 (omega (arith, a, b)) c.requires.new in
    let t : IsTrue c.stands_past.result = search rules in (
      (λ u. w.0 (c.stands_past.ensures.0 t, c.stands_past-then-stands_past.ensures.0 u)),
      (λ h. c.stands_past-then-stands_past.ensures.1 (w.1 h).1),
    )

pub returns-else-stands_past-clause-rule : goal.returns-else-stands_past-clause-rule
returns-else-stands_past-clause-rule c =
    let a = c.requires.support.0 in
    let b = c.requires.support.1 in
    let w = least_by_points c.args.cell.now c.pairs.result.now (c.args.support - 1) c.args.position c.args.signs.now c.a.result c.args.signs.now.1 c.pairs.ensures.same c.a.ensures.same refl c.pairs.ensures.valid.2 (omega (arith, a, b)) c.requires.new in
    let n : ¬ (IsTrue c.stands_past.result) = search rules in (
      (λ u. absurd (n u)),
      (λ h. c.stands_past.ensures.1 (w.1 h).0),
    )

pub returns-then-stands_past-clause-parent : goal.returns-then-stands_past-clause-parent
returns-then-stands_past-clause-parent c = λ p t w tau.
    parent_by_least p c.args.cell.now tau (c.args.support - 1) c.args.position c.args.signs.now t (IsTrue c.stands_past-then-stands_past.result) w (returns-then-stands_past-clause-rule c)

pub returns-else-stands_past-clause-parent : goal.returns-else-stands_past-clause-parent
returns-else-stands_past-clause-parent c = λ p t w tau.
    parent_by_least p c.args.cell.now tau (c.args.support - 1) c.args.position c.args.signs.now t (IsTrue c.stands_past.result) w (returns-else-stands_past-clause-rule c)
