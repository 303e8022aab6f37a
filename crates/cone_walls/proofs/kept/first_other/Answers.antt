use Rattle.std.proofs.Common.{◌≡◌, ◌<◌, ◌∙◌, arith, List, length, slice_index_or, [], sym}
use Rattle.std.proofs.Math.IntN.{ℤ}
use Rattle.std.proofs.lemmas.List.{get_or_default}
use Rattle.std.specs.Cmp.Rules.{signed_items}
use Rattle.wide_int.proofs.Bools.{not_true}
use Rattle.cone_walls.proofs.DifferentRows.{one_more, same_items}
use Rattle.cone_walls.proofs.kept.first_other.Goals as goal

pub loop-i-init : goal.loop-i-init
loop-i-init c j f l = absurd (omega (arith, f, l))

pub returns-then-ne-clause-same : goal.returns-then-ne-clause-same
returns-then-ne-clause-same c = c.loop-i.invariant

pub loop-i-preserved : goal.loop-i-preserved
loop-i-preserved c =
    let lk : c.loop-i.i < length c.args.kept.now = omega (arith, c.requires.count, c.loop-i-test.true) in
    let lr : c.loop-i.i < length c.args.rows.now = omega (arith, c.loop-i-test.true) in
    let e = same_items c.as_slice.result.now c.as_slice-in-loop-i.result.now c.ne.result c.ne.ensures c.if-ne.false in
    let k = sym c.as_slice.ensures.value in
    one_more c.args.from c.loop-i.i c.args.kept.now c.args.rows.now c.loop-i.invariant
    (get_or_default c.args.kept.now c.loop-i.i [] c.index-kept-i.result lk ∙ sym c.index-kept-i.is ∙ k ∙ e ∙ c.as_slice-in-loop-i.ensures.value ∙ c.index-rows-i.is ∙ get_or_default c.args.rows.now c.loop-i.i c.index-rows-i.result [] lr)

pub returns-clause-same : goal.returns-clause-same
returns-clause-same c j f l = c.loop-i.invariant j f (omega (arith, l, c.loop-i-test.false))
