use Rattle.std.proofs.Common.{◌≡◌, ◌<◌, ◌+◌, ◌∙◌, [], length, arith, ap, sym, subst}
use Rattle.std.proofs.lemmas.List.{get_or_default}
use Rattle.cone_walls.proofs.DifferentRows.{AgreeFrom, agree_all, differ_at}
use Rattle.cone_walls.proofs.kept.compared.Goals as goal

pub returns-then-first-count : goal.returns-then-first-count
returns-then-first-count c =
    let p = subst (λ k. AgreeFrom 0 k c.args.kept.now c.args.rows.now) c.if-first-count.true c.first_other-first.ensures.same in
    agree_all c.args.kept.now c.args.rows.now c.if-kept-count.false p

pub returns-then-len : goal.returns-then-len
returns-then-len c =
    let kept = c.args.kept.now in
    let rows = c.args.rows.now in
    let i = c.first_other-first.result in
    let lr : i < length rows = omega (arith, c.first_other-first.ensures.last, c.if-first-count.false) in
    let lk : i < length kept = omega (arith, lr, c.if-kept-count.false) in
    let k = get_or_default kept i [] c.index-kept-first.result lk ∙ sym c.index-kept-first.is in
    let r = get_or_default rows i [] c.index-rows-first.result lr ∙ sym c.index-rows-first.is in
    let p = subst (λ k. AgreeFrom (i + 1) k kept rows) c.if-second-count.true c.first_other-second.ensures.same in
    differ_at i kept rows c.if-kept-count.false c.first_other-first.ensures.same p lr
    (ap length k ∙ sym c.len.ensures ∙ c.if-len.true ∙ c.len-then-second-count.ensures ∙ sym (ap length r))
