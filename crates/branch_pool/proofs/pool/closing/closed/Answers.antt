use Rattle.std.proofs.Common.{◌≡◌, ◌++◌, length, List, arith, ap, ◌∙◌, sym, subst, append-nil, Global, IsPermutation}
use Rattle.std.specs.List.{flat_map}
use Rattle.std.proofs.lemmas.List.Concat.{length-flat_map}
use Rattle.std.proofs.lemmas.List.Sorted.{length_permutation, IsPermutation-trans, IsPermutation-sym, IsPermutation-append_right}
use Rattle.crossbeam_deque.specs.Handles.{worker_view}
use Rattle.crossbeam_deque.specs.declared.handles.Worker.{Worker}
use Rattle.branch_pool.specs.declared.rule.SeatView.{SeatView}
use Rattle.branch_pool.specs.declared.rule.PoolRule.{PoolRule}
use Rattle.branch_pool.specs.Parts.{own_offered, own_taken}
use Rattle.branch_pool.specs.Seats.{SeatData, taken_by}
use Rattle.branch_pool.proofs.Closed.{flat_by_map, same_image}
use Rattle.branch_pool.proofs.pool.closing.closed.Goals as goal

pub joined-requires-clause-rows : goal.joined-requires-clause-rows
joined-requires-clause-rows g c = rw c.parted-workers.ensures.workers.0 c.parted-workers.ensures.rows

pub emptied-requires-clause-room : goal.emptied-requires-clause-room
emptied-requires-clause-room g c =
    let e = c.parted-workers.ensures in
    let j = c.joined.ensures in
    let l = c.learned.ensures in
    let ss = c.args.seats.items in
    let ws0 = c.parted-workers.result.0.items in
    let ws1 = c.joined.new.workers.items in
    let ws2 = c.learned.new.workers.items in
    let offered : flat_map own_offered ws2 ≡ flat_map (λ (s : SeatData g.row.B.Denot). s.offered) ss =
    flat_by_map (own_offered {B = g.row.B.Denot}) (λ (s : SeatData g.row.B.Denot). s.offered) ws2 ss (same_image (λ (w : Worker g.row.B.Denot Global (SeatView g.row.B.Denot) PoolRule). worker_view w) (λ (h : SeatView g.row.B.Denot). h.offered) ws2 ws1 l.same ∙ j.offered ∙ sym e.offered) in
    let taken : flat_map own_taken ws2 ≡ flat_map own_taken ws1 =
    flat_by_map (own_taken {B = g.row.B.Denot}) (own_taken {B = g.row.B.Denot}) ws2 ws1 (same_image (λ (w : Worker g.row.B.Denot Global (SeatView g.row.B.Denot) PoolRule). worker_view w) (λ (h : SeatView g.row.B.Denot). h.taken) ws2 ws1 l.same) in
    let all : IsPermutation (taken_by ss) (flat_map own_taken ws2) = subst (λ (x : List g.row.B.Denot). IsPermutation (taken_by ss) x) (sym taken) (IsPermutation-trans _ _ _ e.taken j.taken) in
    let none : length c.args.left.items ≡ 0 = ap length c.requires.empty.2 in
    let so = length-flat_map (own_offered {B = g.row.B.Denot}) ws2 in
    let st = length-flat_map (own_taken {B = g.row.B.Denot}) ws2 in
    let n = ap length offered in
    let m = length_permutation _ _ all in
    omega (arith, none, so, st, n, m, c.requires.room)

pub returns : goal.returns
returns g c =
    let e = c.parted-workers.ensures in
    let j = c.joined.ensures in
    let l = c.learned.ensures in
    let ss = c.args.seats.items in
    let ws0 = c.parted-workers.result.0.items in
    let ws1 = c.joined.new.workers.items in
    let ws2 = c.learned.new.workers.items in
    let offered : flat_map own_offered ws2 ≡ flat_map (λ (s : SeatData g.row.B.Denot). s.offered) ss =
    flat_by_map (own_offered {B = g.row.B.Denot}) (λ (s : SeatData g.row.B.Denot). s.offered) ws2 ss (same_image (λ (w : Worker g.row.B.Denot Global (SeatView g.row.B.Denot) PoolRule). worker_view w) (λ (h : SeatView g.row.B.Denot). h.offered) ws2 ws1 l.same ∙ j.offered ∙ sym e.offered) in
    let taken : flat_map own_taken ws2 ≡ flat_map own_taken ws1 =
    flat_by_map (own_taken {B = g.row.B.Denot}) (own_taken {B = g.row.B.Denot}) ws2 ws1 (same_image (λ (w : Worker g.row.B.Denot Global (SeatView g.row.B.Denot) PoolRule). worker_view w) (λ (h : SeatView g.row.B.Denot). h.taken) ws2 ws1 l.same) in
    let all : IsPermutation (taken_by ss) (flat_map own_taken ws2) = subst (λ (x : List g.row.B.Denot). IsPermutation (taken_by ss) x) (sym taken) (IsPermutation-trans _ _ _ e.taken j.taken) in
    let kept : IsPermutation (flat_map own_offered ws2 ++ c.args.left.items) (c.emptied.new.left.items ++ flat_map own_taken ws2) = c.emptied.ensures in
    let kept' = subst (λ (x : List g.row.B.Denot). IsPermutation x (c.emptied.new.left.items ++ flat_map own_taken ws2)) (ap (λ (x : List g.row.B.Denot). flat_map own_offered ws2 ++ x) c.requires.empty.2 ∙ append-nil (flat_map own_offered ws2) ∙ offered) kept in
    IsPermutation-trans _ _ _ kept' (IsPermutation-append_right c.emptied.new.left.items _ _ (IsPermutation-sym _ _ all))
