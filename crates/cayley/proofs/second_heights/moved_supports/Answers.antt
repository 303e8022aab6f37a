use Rattle.std.proofs.Common.{◌∙◌, List, length, map, arith, sym, ap, ap₂, subst}
use Rattle.std.specs.Prelude.{ℤ}
use Rattle.std.specs.List.{All}
use Rattle.cayley.specs.declared.points.Support.{Support}
use Rattle.cayley.specs.Files.{moved_points}
use Rattle.cayley.specs.Stored.{file_point, point}
use Rattle.cayley.specs.Valid.{IsHeight}
use Rattle.cayley.proofs.Ranking.MovedProblems.{next_counts, next_supports}
use Rattle.cayley.proofs.Refusals.SecondHeights.{as_long, as_counted}
use Rattle.cayley.proofs.second_heights.moved_supports.Goals as goal

pub moved_points-requires-clause-count : goal.moved_points-requires-clause-count
moved_points-requires-clause-count c =
    ap length c.deref-in-loop-k.ensures.value
    ∙ as_counted (λ s. length s.items) (λ s. length s.items) c.args.second.now c.args.supports.now c.requires.counts c.loop-k.k c.index-second-k.result c.index-supports-k.result
    c.index-second-k.is c.index-supports-k.is c.loop-k-test.true
    ∙ sym (ap length c.deref.ensures.value)

pub moved_points-requires-clause-second : goal.moved_points-requires-clause-second
moved_points-requires-clause-second c =
    let l = as_long (λ s. length s.items) (λ s. length s.items) c.args.second.now c.args.supports.now c.requires.counts in
    let t = c.loop-k-test.true in
    let h = c.requires.second c.loop-k.k c.index-second-k.result (omega (arith, l, t)) in
    subst (λ (hs : List ℤ). All IsHeight hs) (ap (λ s. s.items) (sym c.index-second-k.is) ∙ sym c.deref-in-loop-k.ensures.value) h

pub loop-k-preserved : goal.loop-k-preserved
loop-k-preserved c =
    let l = as_long (λ s. length s.items) (λ s. length s.items) c.args.second.now c.args.supports.now c.requires.counts in
    let ok = c.index-supports-k.result.ok in
    let n = c.len.ensures in
    record {
      files = next_counts (λ (s : Support). s.file) (λ s. length s.items) c.args.supports.now c.loop-k.made.items c.push.new.self.items c.loop-k.k c.index-supports-k.result _
          c.index-supports-k.is c.loop-k-test.true (omega (arith, ok, n)) c.loop-k.invariant.files c.in_default-push.ensures.items;
      points = next_supports (λ s. map file_point s.items) (λ s. s.items) (λ (s : Support). map point s.points.items) c.args.supports.now c.args.second.now c.loop-k.made.items c.push.new.self.items
          c.loop-k.k c.index-supports-k.result c.index-second-k.result _ c.index-supports-k.is c.index-second-k.is c.loop-k-test.true l
          (c.in_ok-moved_points.ensures ∙ ap₂ (λ xs hs. moved_points (map file_point xs) hs) c.deref.ensures.value c.deref-in-loop-k.ensures.value)
          c.loop-k.invariant.points c.in_default-push.ensures.items;
    }
