use Rattle.std.proofs.Common.{◌≡◌, ◌<◌, ◌++◌, ◌∷◌, [], length, ◌+◌, map, take, List, arith, ap, ◌∙◌, sym, get_or, set, append-nil, length-append, Global, rules}
use Rattle.std.specs.List.{flat_map}
use Rattle.std.proofs.lemmas.List.{length-set, get_or-map}
use Rattle.std.proofs.lemmas.List.Elements.{All-set, All-get_or}
use Rattle.std.proofs.Math.Seq.{map-set_same}
use Rattle.crossbeam_deque.specs.Handles.{Pass, view, worker_port, worker_deque, worker_view, worker_flavor}
use Rattle.crossbeam_deque.specs.declared.handles.Worker.{Worker}
use Rattle.branch_pool.specs.declared.rule.SeatView.{SeatView}
use Rattle.branch_pool.specs.declared.rule.PoolRule.{PoolRule}
use Rattle.branch_pool.specs.Parts.{IsOwner, IsQuiet, added, own_offered, own_taken, own_parts, pass_taken, pass_parts}
use Rattle.branch_pool.proofs.Balance.{joins}
use Rattle.branch_pool.proofs.Fresh.{all_pop}
use Rattle.branch_pool.proofs.Absorbed.{image_popped, parts_more, added_none, grown, moved_over, flat_popped}
use Rattle.branch_pool.proofs.pool.gathering.absorbed.Goals as goal

pub absorb-requires-clause-table : goal.absorb-requires-clause-table
absorb-requires-clause-table g c =
    let i = c.loop-pass.invariant in
    let ws = c.loop-pass.workers.items in
    let p = c.in-Some.pass in
    let xs = c.pop.new.self.items in
    let at : c.len.result ≡ length xs = omega (arith, c.len.ensures, c.pop.new.self.ok.0) in
    let lt : c.len.result < length ws = omega (arith, at, i.7, ap length c.in-Some.ensures.items, length-append xs (p ∷ [])) in
    let here = (image_popped (λ (p : Pass g.row.B.Denot (SeatView g.row.B.Denot) Global). (p.rows, p.heap)) (map (λ (w : Worker g.row.B.Denot Global (SeatView g.row.B.Denot) PoolRule). worker_deque w) c.args.workers.now.items) xs c.loop-pass.passes.items p c.len.result c.in-Some.ensures.items at i.0).1 (p.rows, p.heap) in
    let there = get_or-map (λ (w : Worker g.row.B.Denot Global (SeatView g.row.B.Denot) PoolRule). worker_deque w) ws c.len.result c.index_mut.result.now (p.rows, p.heap) lt in
    let same = sym here ∙ ap (λ l. get_or l c.len.result (p.rows, p.heap)) (sym i.1) ∙ there ∙ ap (λ (w : Worker g.row.B.Denot Global (SeatView g.row.B.Denot) PoolRule). worker_deque w) (sym c.index_mut.ensures.value) in
    let quiet = (all_pop (IsQuiet {B = g.row.B.Denot}) xs c.loop-pass.passes.items p c.in-Some.ensures.items i.3).1 in
    (ap (λ x. x.0) same, ap (λ x. x.1) same, quiet.0, quiet.1)

pub absorb-requires-clause-rule : goal.absorb-requires-clause-rule
absorb-requires-clause-rule g c =
    let i = c.loop-pass.invariant in
    let ws = c.loop-pass.workers.items in
    let w = c.index_mut.result.now in
    let at : c.len.result ≡ length c.pop.new.self.items = omega (arith, c.len.ensures, c.pop.new.self.ok.0) in
    let lt : c.len.result < length ws = omega (arith, at, i.7, ap length c.in-Some.ensures.items, length-append c.pop.new.self.items (c.in-Some.pass ∷ [])) in
    let all = All-get_or (λ (w : Worker g.row.B.Denot Global (SeatView g.row.B.Denot) PoolRule). IsOwner w × (0 < own_parts w)) ws c.len.result w lt i.2 in
    let some : 0 < own_parts w = rw c.index_mut.ensures.value all.1 in
    let first : worker_port w ≡ 0 = rw c.index_mut.ensures.value all.0.1 in
    joins (worker_port w) (worker_view w) c.in-Some.pass.id (view c.in-Some.pass) first some

pub loop-pass-preserved : goal.loop-pass-preserved
loop-pass-preserved g c =
    let i = c.loop-pass.invariant in
    let ws = c.loop-pass.workers.items in
    let p = c.in-Some.pass in
    let xs = c.pop.new.self.items in
    let ys = c.loop-pass.passes.items in
    let d = c.index_mut.result.now in
    let w = c.absorb.new.self in
    let k = c.len.result in
    let v = c.index_mut.ensures.value in
    let items = c.in-Some.ensures.items in
    let at : k ≡ length xs = omega (arith, c.len.ensures, c.pop.new.self.ok.0) in
    let more : length ys ≡ length xs + 1 = ap length items ∙ length-append xs (p ∷ []) in
    let lt : k < length ws = omega (arith, at, i.7, more) in
    let here = (image_popped (λ (p : Pass g.row.B.Denot (SeatView g.row.B.Denot) Global). (p.rows, p.heap)) (map (λ (w : Worker g.row.B.Denot Global (SeatView g.row.B.Denot) PoolRule). worker_deque w) c.args.workers.now.items) xs ys p k items at i.0).0 in
    let quiet = all_pop (IsQuiet {B = g.row.B.Denot}) xs ys p items i.3 in
    let was = All-get_or (λ (w : Worker g.row.B.Denot Global (SeatView g.row.B.Denot) PoolRule). IsOwner w × (0 < own_parts w)) ws k d lt i.2 in
    let rule = c.absorb.ensures.rule in
    let same = c.absorb.ensures.same in
    let parts : own_parts w ≡ own_parts (get_or ws k d) + pass_parts p = ap (λ (h : SeatView g.row.B.Denot). h.parts) rule ∙ ap (λ (w : Worker g.row.B.Denot Global (SeatView g.row.B.Denot) PoolRule). own_parts w + pass_parts p) v in
    let offered : own_offered w ≡ own_offered (get_or ws k d) =
    ap (λ (h : SeatView g.row.B.Denot). h.offered) rule ∙ ap (λ (l : List g.row.B.Denot). own_offered d ++ l) quiet.1.2 ∙ append-nil (own_offered d) ∙ ap (λ (w : Worker g.row.B.Denot Global (SeatView g.row.B.Denot) PoolRule). own_offered w) v in
    let taken : own_taken w ≡ own_taken (get_or ws k d) ++ pass_taken p = ap (λ (h : SeatView g.row.B.Denot). h.taken) rule ∙ ap (λ (w : Worker g.row.B.Denot Global (SeatView g.row.B.Denot) PoolRule). own_taken w ++ pass_taken p) v in (
      here ∙ ap (λ n. take n (map (λ (w : Worker g.row.B.Denot Global (SeatView g.row.B.Denot) PoolRule). worker_deque w) c.args.workers.now.items)) at,
      map-set_same (λ (w : Worker g.row.B.Denot Global (SeatView g.row.B.Denot) PoolRule). worker_deque w) ws k w d (same.0.0 ∙ ap (λ (w : Worker g.row.B.Denot Global (SeatView g.row.B.Denot) PoolRule). worker_deque w) v) ∙ i.1,
      All-set (λ (w : Worker g.row.B.Denot Global (SeatView g.row.B.Denot) PoolRule). IsOwner w × (0 < own_parts w)) ws k w
          ((same.0.1 ∙ ap (λ (w : Worker g.row.B.Denot Global (SeatView g.row.B.Denot) PoolRule). worker_flavor w) v ∙ was.0.0, same.0.2 ∙ ap (λ (w : Worker g.row.B.Denot Global (SeatView g.row.B.Denot) PoolRule). worker_port w) v ∙ was.0.1), omega (arith, parts, was.1)) i.2,
      quiet.0,
      map-set_same (own_offered {B = g.row.B.Denot}) ws k w d offered ∙ i.4,
      parts_more (own_parts {B = g.row.B.Denot}) (pass_parts {B = g.row.B.Denot}) ws xs ys p k w d _ items at lt parts i.5,
      moved_over _ (flat_map own_taken ws) (flat_map own_taken (set ws k w)) (flat_map pass_taken xs) (flat_map pass_taken ys) (pass_taken p) (flat_popped (pass_taken {B = g.row.B.Denot}) xs ys p items)
          (grown (own_taken {B = g.row.B.Denot}) ws k w d (pass_taken p) lt taken) i.6,
      omega (arith, more, i.7, length-set ws k w),
    )

pub returns-clause-parts : goal.returns-clause-parts
returns-clause-parts g c =
    let none : c.loop-pass.passes.items ≡ [] = search rules in
    sym (added_none (map own_parts c.loop-pass.workers.items)) ∙ ap (λ l. added (map own_parts c.loop-pass.workers.items) (map (pass_parts {B = g.row.B.Denot}) l)) (sym none) ∙ c.loop-pass.invariant.5
