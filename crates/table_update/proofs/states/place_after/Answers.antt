use Rattle.std.proofs.Common.{◌≡◌, ◌<◌, ◌-◌, ◌∙◌, pos, arith, rules, subst, sym, FitsSigned}
use Rattle.std.specs.Int.{w128}
use Rattle.wide_int.proofs.Signed.{is_zero}
use Rattle.int_vectors.specs.Vectors.{at}
use Rattle.table_update.specs.Exchanges.{IsPassed}
use Rattle.table_update.proofs.Passing.{passed_front, passed_behind}
use Rattle.table_update.proofs.states.place_after.Goals as goal

pub returns-then-first-at : goal.returns-then-first-at
returns-then-first-at c =
    let lt = c.if-first-at.true in
    passed_behind c.args.k c.in_ok-first.first c.args.at c.args.row.now c.args.rows.now c.in_ok-first.ensures (omega (arith, lt)) c.requires.at (λ e. omega (arith, lt, e)) (λ l. absurd (omega (arith, lt, l)))

pub returns-then-at-eq0 : goal.returns-then-at-eq0
returns-then-at-eq0 c =
    let fr : FitsSigned w128 c.get.result = search rules in
    let z = sym c.get.ensures.value ∙ is_zero c.get.result fr c.if-get-ne0.false in
    let a = c.if-first-at.false in
    let n = c.if-first-at-2.false in
    let o = c.if-at-eq0.true in
    subst (λ p. IsPassed c.args.k p (c.in_ok-first.first - 1) c.args.row.now c.args.rows.now) (sym o)
    (passed_front c.args.k c.in_ok-first.first c.args.row.now c.args.rows.now c.in_ok-first.ensures (omega (arith, a, n, o)) z)

pub returns-else-at-eq0 : goal.returns-else-at-eq0
returns-else-at-eq0 c =
    let fr : FitsSigned w128 c.get.result = search rules in
    let z = sym c.get.ensures.value ∙ is_zero c.get.result fr c.if-get-ne0.false in
    let n = c.if-first-at-2.false in
    let o = c.if-at-eq0.false in
    passed_behind c.args.k c.in_ok-first.first c.args.at c.args.row.now c.args.rows.now c.in_ok-first.ensures (omega (arith, o)) c.requires.at (λ e. n (sym e)) (λ _. z)
