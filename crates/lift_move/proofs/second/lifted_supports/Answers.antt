use Rattle.std.proofs.Common.{◌∙◌, length, map, arith, sym, ap, ap₂}
use Rattle.cayley.specs.Stored.{file_point}
use Rattle.cayley.proofs.Refusals.SecondHeights.{as_long, as_counted}
use Rattle.lift_move.specs.Segments.{lifted_points}
use Rattle.lift_move.proofs.Lifted.{next_supports}
use Rattle.lift_move.proofs.second.lifted_supports.Goals as goal

pub lifted_points-requires : goal.lifted_points-requires
lifted_points-requires c =
    ap length c.deref-in-loop-k.ensures.value
    ∙ as_counted (λ s. length s.items) (λ s. length s.items) c.args.second.now c.args.supports.now c.requires c.loop-k.k c.index-second-k.result c.index-supports-k.result
    c.index-second-k.is c.index-supports-k.is c.loop-k-test.true
    ∙ sym (ap length c.deref.ensures.value)

pub loop-k-preserved : goal.loop-k-preserved
loop-k-preserved c =
    let l = as_long (λ s. length s.items) (λ s. length s.items) c.args.second.now c.args.supports.now c.requires in
    next_supports (λ s. map file_point s.items) (λ s. s.items) (λ s. map file_point s.items) c.args.supports.now c.args.second.now c.loop-k.made.items c.push.new.self.items
    c.loop-k.k c.index-supports-k.result c.index-second-k.result _ c.index-supports-k.is c.index-second-k.is c.loop-k-test.true l
    (c.in_ok-support.ensures ∙ ap₂ (λ xs hs. lifted_points (map file_point xs) hs) c.deref.ensures.value c.deref-in-loop-k.ensures.value)
    c.loop-k.invariant c.in_default-push.ensures.items
