use Rattle.std.proofs.Common.{◌≡◌, ◌<◌, ◌≤◌, ◌++◌, length, arith, ap, ◌∙◌, sym, subst, get_or, length-append, Global}
use Rattle.std.specs.List.{All}
use Rattle.std.proofs.lemmas.List.{length-map}
use Rattle.std.proofs.lemmas.List.Elements.{All-set, All-get_or, All-more}
use Rattle.std.proofs.lemmas.List.Sorted.{length_permutation}
use Rattle.std.proofs.Math.Seq.{map-set_same}
use Rattle.crossbeam_deque.specs.Handles.{worker_port, worker_view, worker_flavor}
use Rattle.crossbeam_deque.specs.declared.handles.Worker.{Worker}
use Rattle.branch_pool.specs.declared.rule.SeatView.{SeatView}
use Rattle.branch_pool.specs.declared.rule.PoolRule.{PoolRule}
use Rattle.branch_pool.specs.Parts.{IsOwner, own_offered, own_taken, own_parts}
use Rattle.branch_pool.proofs.Balance.{learns}
use Rattle.branch_pool.proofs.Stolen.{same_place}
use Rattle.branch_pool.proofs.Joined.{take_whole}
use Rattle.branch_pool.proofs.pool.gathering.learned.Goals as goal

pub len_as-held-requires : goal.len_as-held-requires
len_as-held-requires g c = learns (worker_port c.index_mut.result.now) (worker_view c.index_mut.result.now)

pub loop-at-preserved : goal.loop-at-preserved
loop-at-preserved g c =
    let i = c.loop-at.invariant in
    let ws = c.loop-at.workers.items in
    let old = c.args.workers.now.items in
    let d = c.index_mut.result.now in
    let w = c.len_as-held.new.self in
    let k = c.loop-at.at in
    let v = c.index_mut.ensures.value in
    let len : length ws ≡ length old = sym (length-map ws (λ (w : Worker g.row.B.Denot Global (SeatView g.row.B.Denot) PoolRule). worker_view w)) ∙ ap length i.0 ∙ length-map old (λ (w : Worker g.row.B.Denot Global (SeatView g.row.B.Denot) PoolRule). worker_view w) in
    let lt : k < length ws = omega (arith, len, c.loop-at-test.true, c.len-at-end.ensures, c.args.workers.now.ok.0) in
    let was = All-get_or (λ (w : Worker g.row.B.Denot Global (SeatView g.row.B.Denot) PoolRule). IsOwner w × (own_parts w ≡ 64)) ws k d lt i.1 in
    let e = c.len_as-held.ensures in
    let all : own_parts d ≡ 64 = ap (λ (w : Worker g.row.B.Denot Global (SeatView g.row.B.Denot) PoolRule). own_parts w) v ∙ was.1 in
    let view : worker_view w ≡ worker_view (get_or ws k d) = e.same.2 ∙ ap (λ (w : Worker g.row.B.Denot Global (SeatView g.row.B.Denot) PoolRule). worker_view w) v in
    let there : worker_view d ≡ worker_view (get_or old k d) =
    ap (λ (w : Worker g.row.B.Denot Global (SeatView g.row.B.Denot) PoolRule). worker_view w) v ∙ same_place (λ (w : Worker g.row.B.Denot Global (SeatView g.row.B.Denot) PoolRule). worker_view w) (λ (w : Worker g.row.B.Denot Global (SeatView g.row.B.Denot) PoolRule). worker_view w) ws old k d d i.0 lt in
    let n : length (e.rule.0 ++ own_taken d) ≡ length (own_offered d) = length_permutation _ _ (e.rule.2 all) in
    let le : length (own_taken d) ≤ length (own_offered d) = omega (arith, n, length-append e.rule.0 (own_taken d)) in (
      map-set_same (λ (w : Worker g.row.B.Denot Global (SeatView g.row.B.Denot) PoolRule). worker_view w) ws k w d view ∙ i.0,
      All-set (λ (w : Worker g.row.B.Denot Global (SeatView g.row.B.Denot) PoolRule). IsOwner w × (own_parts w ≡ 64)) ws k w
          ((e.same.0.1 ∙ ap (λ (w : Worker g.row.B.Denot Global (SeatView g.row.B.Denot) PoolRule). worker_flavor w) v ∙ was.0.0, e.same.0.2 ∙ ap (λ (w : Worker g.row.B.Denot Global (SeatView g.row.B.Denot) PoolRule). worker_port w) v ∙ was.0.1), ap (λ (h : SeatView g.row.B.Denot). h.parts) view ∙ was.1) i.1,
      All-more (λ (w : Worker g.row.B.Denot Global (SeatView g.row.B.Denot) PoolRule). length (own_taken w) ≤ length (own_offered w)) old k d (omega (arith, lt, len)) i.2
          (subst (λ (h : SeatView g.row.B.Denot). length h.taken ≤ length h.offered) there le),
    )

pub returns-clause-whole : goal.returns-clause-whole
returns-clause-whole g c =
    let i = c.loop-at.invariant in
    let ws = c.loop-at.workers.items in
    let old = c.args.workers.now.items in
    let len : length ws ≡ length old = sym (length-map ws (λ (w : Worker g.row.B.Denot Global (SeatView g.row.B.Denot) PoolRule). worker_view w)) ∙ ap length i.0 ∙ length-map old (λ (w : Worker g.row.B.Denot Global (SeatView g.row.B.Denot) PoolRule). worker_view w) in
    let all = subst (λ l. All (λ (w : Worker g.row.B.Denot Global (SeatView g.row.B.Denot) PoolRule). length (own_taken w) ≤ length (own_offered w)) l) (take_whole old c.loop-at.at (omega (arith, c.loop-at-test.false, c.len-at-end.ensures, c.args.workers.now.ok.0))) i.2 in
    λ k d lt.
    let there = same_place (λ (w : Worker g.row.B.Denot Global (SeatView g.row.B.Denot) PoolRule). worker_view w) (λ (w : Worker g.row.B.Denot Global (SeatView g.row.B.Denot) PoolRule). worker_view w) ws old k d d i.0 lt in (
      (i.1 k d lt).0,
      (i.1 k d lt).1,
      subst (λ (h : SeatView g.row.B.Denot). length h.taken ≤ length h.offered) (sym there) (all k d (omega (arith, lt, len))),
    )
