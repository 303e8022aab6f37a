use Rattle.std.proofs.Common.{arith, ◌∷◌, [], length, length-append, ap, ◌∙◌, refl, IsPermutation, subst, List, ◌++◌, ◌≡◌, append-nil}
use Rattle.std.proofs.lemmas.List.Sorted.{IsPermutation-append_comm, length_permutation}
use Rattle.crossbeam_deque.specs.Handles.{worker_port, worker_view}
use Rattle.branch_pool.specs.declared.rule.SeatView.{SeatView}
use Rattle.branch_pool.proofs.Balance.{takes, finds, part_of}
use Rattle.branch_pool.proofs.Drained.{more_left, all_left}
use Rattle.branch_pool.proofs.pool.gathering.drained.Goals as goal

pub loop-branch-init : goal.loop-branch-init
loop-branch-init g c = (c.requires.whole.0, c.requires.whole.1, refl, IsPermutation-append_comm (worker_view c.args.own).taken c.args.left.now.items, omega arith, refl)

pub pop_as-requires-clause-lifo : goal.pop_as-requires-clause-lifo
pop_as-requires-clause-lifo g c =
    let all = c.loop-branch.invariant.1 in λ lifo. takes (worker_port c.loop-branch.own) (worker_view c.loop-branch.own) c.loop-branch.invariant.0.1 (omega (arith, all))

pub pop_as-requires-clause-empty : goal.pop_as-requires-clause-empty
pop_as-requires-clause-empty g c = finds (worker_port c.loop-branch.own) (worker_view c.loop-branch.own) c.loop-branch.invariant.0.1

pub loop-branch-preserved : goal.loop-branch-preserved
loop-branch-preserved g c =
    let v = c.loop-branch.invariant in
    let e = c.in-Some.ensures.rule.0 in
    let i = c.push_reserved.ensures.items in
    let t = ap (λ (h : SeatView g.row.B.Denot). h.taken) e in (
      (c.in-Some.ensures.same.0.1 ∙ v.0.0, c.in-Some.ensures.same.0.2 ∙ v.0.1),
      ap (λ (h : SeatView g.row.B.Denot). h.parts) e ∙ v.1,
      ap (λ (h : SeatView g.row.B.Denot). h.offered) e ∙ v.2,
      more_left (worker_view c.args.own).taken c.loop-branch.left.items c.args.left.now.items (worker_view c.loop-branch.own).taken c.push_reserved.new.self.items (worker_view c.pop_as.new.self).taken c.in-Some.branch v.3 i t,
      omega (arith, v.4, ap length i, ap length t, length-append c.loop-branch.left.items (c.in-Some.branch ∷ []), length-append (worker_view c.loop-branch.own).taken (c.in-Some.branch ∷ [])),
      c.push_reserved.ensures.capacity ∙ v.5,
    )

pub returns-clause-kept : goal.returns-clause-kept
returns-clause-kept g c =
    let v = c.loop-branch.invariant in
    let r = part_of (worker_view c.loop-branch.own) c.in_default.ensures.rule.1 in
    let none : (worker_view c.loop-branch.own).taken ++ r.0 ≡ (worker_view c.loop-branch.own).taken = ap (λ (x : List g.row.B.Denot). (worker_view c.loop-branch.own).taken ++ x) (r.2 v.1) ∙ append-nil (worker_view c.loop-branch.own).taken in
    let learned : IsPermutation (worker_view c.loop-branch.own).offered (worker_view c.loop-branch.own).taken = subst (λ (x : List g.row.B.Denot). IsPermutation (worker_view c.loop-branch.own).offered x) none r.1 in
    all_left (worker_view c.args.own).offered (worker_view c.loop-branch.own).taken (worker_view c.args.own).taken c.loop-branch.left.items c.args.left.now.items (subst (λ l. IsPermutation l (worker_view c.loop-branch.own).taken) v.2 learned) v.3

pub push_reserved-requires : goal.push_reserved-requires
push_reserved-requires g c =
    let v = c.loop-branch.invariant in
    let r = c.in-Some.ensures.rule.1 in
    let n = length_permutation _ _ r.1 in
    omega (arith, n, length-append (worker_view c.loop-branch.own).taken (c.in-Some.branch ∷ r.0), ap length v.2, v.4, v.5, c.requires.room, c.loop-branch.left.ok.0)

pub loop-branch-smaller : goal.loop-branch-smaller
loop-branch-smaller g c =
    let r = c.in-Some.ensures.rule.1 in
    let e = c.in-Some.ensures.rule.0 in
    let n = length_permutation _ _ r.1 in
    omega (arith, n, length-append (worker_view c.loop-branch.own).taken (c.in-Some.branch ∷ r.0), length-append (worker_view c.loop-branch.own).taken (c.in-Some.branch ∷ []), ap (λ (h : SeatView g.row.B.Denot). length h.offered) e, ap (λ (h : SeatView g.row.B.Denot). length h.taken) e)
