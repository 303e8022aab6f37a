use Rattle.std.proofs.Common.{◌≡◌, ◌-◌, ◌^◌, length, arith, ap, ◌∙◌, sym, Global}
use Rattle.std.proofs.lemmas.List.{length-map}
use Rattle.std.proofs.lemmas.List.Concat.{length-flat_map}
use Rattle.std.proofs.lemmas.List.Sorted.{length_permutation, All-permutation, IsPermutation-trans, IsPermutation-sym, IsPermutation-append_right}
use Rattle.crossbeam_deque.specs.Handles.{stealer_deque}
use Rattle.crossbeam_deque.specs.declared.handles.Stealer.{Stealer}
use Rattle.branch_pool.specs.declared.rule.SeatView.{SeatView}
use Rattle.branch_pool.specs.declared.rule.PoolRule.{PoolRule}
use Rattle.branch_pool.specs.Seats.{SeatData, PoolData, IsSeatOf, all_taken}
use Rattle.branch_pool.proofs.Closed.{how_many, in_turn, flat_permutation, capped_sum, capped_total}
use Rattle.branch_pool.proofs.pool.Pool.close.Goals as goal

pub counts-offered-requires : goal.counts-offered-requires
counts-offered-requires g c =
    let n : length c.self.inside.stealers.items ≡ length c.args.self.deques = sym (length-map c.self.inside.stealers.items (λ (s : Stealer g.row.B.Denot Global (SeatView g.row.B.Denot) PoolRule). stealer_deque s)) ∙ ap (λ (p : PoolData). length p.deques) c.self.view_is in
    omega (arith, n, c.self.invariant.2, how_many c.args.self c.args.seats.items c.requires)

pub closed-requires-clause-seats : goal.closed-requires-clause-seats
closed-requires-clause-seats g c =
    let kept = c.in_order.ensures.kept in (
      All-permutation (IsSeatOf c.args.self) c.args.seats.items c.in_order.new.seats.items kept c.requires.own,
      in_turn (λ (s : SeatData g.row.B.Denot). s.number) c.args.seats.items c.in_order.new.seats.items (length c.args.self.deques) c.requires.each_once kept c.in_order.ensures.order,
      length_permutation _ _ kept ∙ how_many c.args.self c.args.seats.items c.requires,
    )

pub closed-requires-clause-space : goal.closed-requires-clause-space
closed-requires-clause-space g c =
    let n : length c.self.inside.stealers.items ≡ length c.args.self.deques = sym (length-map c.self.inside.stealers.items (λ (s : Stealer g.row.B.Denot Global (SeatView g.row.B.Denot) PoolRule). stealer_deque s)) ∙ ap (λ (p : PoolData). length p.deques) c.self.view_is in
    let m = length_permutation _ _ c.in_order.ensures.kept ∙ how_many c.args.self c.args.seats.items c.requires in (
      omega (arith, n, m, c.len-count.ensures, c.self.inside.stealers.ok.0, c.in-Ok-with_capacity-2.ensures.capacity),
      omega (arith, n, m, c.len-count.ensures, c.self.inside.stealers.ok.0, c.in-Ok-with_capacity-3.ensures.capacity),
    )

pub closed-requires-clause-room : goal.closed-requires-clause-room
closed-requires-clause-room g c =
    let kept = c.in_order.ensures.kept in
    let o = length-flat_map (λ (s : SeatData g.row.B.Denot). s.offered) c.args.seats.items in
    let t = length-flat_map (λ (s : SeatData g.row.B.Denot). all_taken s) c.args.seats.items in
    let k = capped_sum (λ (s : SeatData g.row.B.Denot). length (all_taken s)) (2 ^ 64 - 1) c.args.seats.items in
    let po = length_permutation _ _ (flat_permutation (λ (s : SeatData g.row.B.Denot). s.offered) _ _ kept) in
    let pt = length_permutation _ _ (flat_permutation (λ (s : SeatData g.row.B.Denot). all_taken s) _ _ kept) in
    omega (arith, o, t, k, po, pt, c.counts-offered.ensures.offered, c.counts-offered.ensures.taken, c.saturating_sub.ensures, c.in-Ok.ensures, c.in-Ok-with_capacity.ensures.capacity)

pub returns-clause-kept : goal.returns-clause-kept
returns-clause-kept g c =
    let kept = c.in_order.ensures.kept in
    IsPermutation-trans _ _ _ (flat_permutation (λ (s : SeatData g.row.B.Denot). s.offered) _ _ kept)
    (IsPermutation-trans _ _ _ c.closed.ensures
    (IsPermutation-append_right c.closed.result.items _ _ (IsPermutation-sym _ _ (flat_permutation (λ (s : SeatData g.row.B.Denot). all_taken s) _ _ kept))))

pub returns-clause-offered : goal.returns-clause-offered
returns-clause-offered g c =
    let o = length-flat_map (λ (s : SeatData g.row.B.Denot). s.offered) c.args.seats.items in
    omega (arith, o, c.capped.ensures, c.counts-offered.ensures.offered)

pub returns-clause-taken : goal.returns-clause-taken
returns-clause-taken g c =
    let t = length-flat_map (λ (s : SeatData g.row.B.Denot). all_taken s) c.args.seats.items in
    let k = capped_total (λ (s : SeatData g.row.B.Denot). length (all_taken s)) (2 ^ 64 - 1) c.args.seats.items in
    omega (arith, t, k, c.capped-2.ensures, c.counts-offered.ensures.taken)
