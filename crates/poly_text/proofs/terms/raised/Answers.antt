use Rattle.std.proofs.Common.{◌≡◌, ◌∙◌, ap, sym, suc, ◌+◌, ◌≤◌, arith}
use Rattle.poly_text.specs.Bounds.{raised}
use Rattle.poly_text.proofs.TermSums.{good, power_more, power_fails}
use Rattle.poly_text.proofs.terms.raised.Goals as goal

pub loop-turn-init : goal.loop-turn-init
unfolding raised
loop-turn-init c = ap good (sym c.in_ok-power.ensures)

pub returns-in-Err : goal.returns-in-Err
returns-in-Err c =
    let less : suc c.loop-turn._turn ≤ c.args.k = let h = c.loop-turn-test.true in omega arith in
    let one = power_more c.args.n c.args.base.now c.loop-turn.power c.loop-turn._turn c.loop-turn.invariant in
    sym (power_fails c.args.n c.args.base.now c.in-Err.cause (suc c.loop-turn._turn) c.args.k less (one ∙ sym c.in_ok-power-2.ensures ∙ c.in-Err.is))

pub loop-turn-preserved : goal.loop-turn-preserved
loop-turn-preserved c =
    let next : c.loop-turn._turn + 1 ≡ suc c.loop-turn._turn = omega arith in
    let one = power_more c.args.n c.args.base.now c.loop-turn.power c.loop-turn._turn c.loop-turn.invariant in
    ap (raised c.args.n c.args.base.now) next ∙ one ∙ sym c.in_ok-power-2.ensures ∙ c.in-Ok.is
