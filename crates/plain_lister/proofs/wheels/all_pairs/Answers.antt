use Rattle.std.proofs.Common.{◌∙◌, sym, refl, arith, ◌+◌}
use Rattle.std.proofs.lemmas.Iterator.{YieldsList-from_range}
use Rattle.std.proofs.lemmas.List.{map-id}
use Rattle.itertools.proofs.AdaptorLemmas.{items_from_whole_run}
use Rattle.plain_lister.proofs.Picking.{start, next}
use Rattle.plain_lister.proofs.wheels.all_pairs.Goals as goal

pub loop-pair-init : goal.loop-pair-init
loop-pair-init c =
    let it = c.in_ok-pair-items.pair-items in
    let same = c.into_iter-pair-iterator.ensures.into_iter_gives in
    let run = c.in_ok-pair-items.ensures.pool in
    let road = YieldsList-from_range {s = record { start = 1; end = c.args.count + 1 }} 1 (c.args.count + 1) c.args.count refl (omega arith) in
    let pool = run.3 ∙ sym (map-id run.0.items) ∙ items_from_whole_run road run.0 run.1 run.2 in
    let s = start c.args.count _ it.combinations.pool.items _ pool it.combinations.pool.ok.0 c.in_ok-pair-items.ensures.places in
    rw (same, c.new-made.ensures.items) (record { pool = pool; left = s.0; inside = s.1 })

pub loop-pair-preserved : goal.loop-pair-preserved
loop-pair-preserved c =
    let i = c.loop-pair.invariant in
    let steps = rw c.in_ok-pair.was at c.in-Some.ensures.steps in
    let h = steps.1 in
    let n = next c.args.count c.loop-pair.pair-iterator.combinations.pool.items _ _ h.0 c.in_ok-pair.field-0 c.loop-pair.made.items c.push.new.self.items i.pool h.1 i.inside h.2 i.left c.in_ok-push.ensures.items in
    record { pool = sym steps.0 ∙ i.pool; left = n.0; inside = n.1 }
