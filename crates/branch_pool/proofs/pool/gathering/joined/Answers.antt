use Rattle.std.proofs.Common.{◌≡◌, ◌<◌, ◌++◌, ◌-◌, [], length, ◌+◌, map, vec_len, arith, ap, ◌∙◌, refl, subst, reverse, Vec, Global, IsPermutation, rules}
use Rattle.std.specs.List.{flat_map, range_with_len}
use Rattle.std.proofs.lemmas.List.{length-map}
use Rattle.std.proofs.lemmas.List.Sorted.{IsPermutation-refl, IsPermutation-trans, IsPermutation-append_comm}
use Rattle.crossbeam_deque.specs.Handles.{Pass, worker_deque}
use Rattle.crossbeam_deque.specs.declared.handles.Worker.{Worker}
use Rattle.branch_pool.specs.declared.rule.SeatView.{SeatView}
use Rattle.branch_pool.specs.declared.rule.PoolRule.{PoolRule}
use Rattle.branch_pool.specs.Parts.{Numbered, IsUsedRow, added, row, own_taken, own_parts, pass_taken, pass_parts}
use Rattle.branch_pool.proofs.Absorbed.{moved_over, flat_popped}
use Rattle.branch_pool.proofs.Joined.{gained, gained_row, gained_first, gained_last, turned_pop}
use Rattle.branch_pool.proofs.pool.gathering.joined.Goals as goal

pub loop-passes-init : goal.loop-passes-init
loop-passes-init g c =
    let ws = c.args.workers.now.items in
    let none : length ws - vec_len c.args.rows ≡ 0 = omega (arith, c.requires.size.2, c.args.rows.ok.0) in
    let first : 1 ≡ length ws - vec_len c.args.rows + 1 = omega (arith, none) in (
      refl,
      λ k d lt. ((c.requires.workers k d lt).0, let p = (c.requires.workers k d lt).1 in omega (arith, p, c.requires.size.1)),
      refl,
      gained_first (own_parts {B = g.row.B.Denot}) ws (length ws - vec_len c.args.rows) none (λ k d lt. (c.requires.workers k d lt).1),
      subst (λ j. Numbered (λ k (r : Vec (Pass g.row.B.Denot (SeatView g.row.B.Denot) Global) Global). IsUsedRow (map (λ (w : Worker g.row.B.Denot Global (SeatView g.row.B.Denot) PoolRule). worker_deque w) ws) k r.items) j (reverse c.args.rows.items)) first c.requires.rows,
      IsPermutation-refl _,
      omega (arith, c.requires.size.2, c.args.rows.ok.0),
    )

pub absorbed-requires-clause-quiet : goal.absorbed-requires-clause-quiet
absorbed-requires-clause-quiet g c =
    let i = c.loop-passes.invariant in
    let n = length c.args.workers.now.items in
    let ds = map (λ (w : Worker g.row.B.Denot Global (SeatView g.row.B.Denot) PoolRule). worker_deque w) c.args.workers.now.items in
    let next : n - vec_len c.pop.new.self + 1 ≡ n - vec_len c.loop-passes.rows + 1 + 1 = omega (arith, c.in-Some.ensures.len, i.6) in
    (turned_pop (λ k (r : Vec (Pass g.row.B.Denot (SeatView g.row.B.Denot) Global) Global). IsUsedRow ds k r.items) (n - vec_len c.loop-passes.rows + 1) (n - vec_len c.pop.new.self + 1) c.pop.new.self.items c.loop-passes.rows.items c.in-Some.passes c.in-Some.ensures.items next i.4).0.quiet

pub loop-passes-preserved : goal.loop-passes-preserved
loop-passes-preserved g c =
    let i = c.loop-passes.invariant in
    let n = length c.args.workers.now.items in
    let m = n - vec_len c.loop-passes.rows in
    let m' = n - vec_len c.pop.new.self in
    let ws = c.loop-passes.workers.items in
    let ws' = c.absorbed.new.workers.items in
    let ps = c.in-Some.passes.items in
    let ds = map (λ (w : Worker g.row.B.Denot Global (SeatView g.row.B.Denot) PoolRule). worker_deque w) c.args.workers.now.items in
    let len : length ds ≡ n = length-map c.args.workers.now.items (λ (w : Worker g.row.B.Denot Global (SeatView g.row.B.Denot) PoolRule). worker_deque w) in
    let next : m' ≡ m + 1 = omega (arith, c.in-Some.ensures.len, i.6) in
    let lt : m < n = omega (arith, c.in-Some.ensures.len, i.6) in
    let turn = turned_pop (λ k (r : Vec (Pass g.row.B.Denot (SeatView g.row.B.Denot) Global) Global). IsUsedRow ds k r.items) (m + 1) (m' + 1) c.pop.new.self.items c.loop-passes.rows.items c.in-Some.passes c.in-Some.ensures.items (ap (λ k. k + 1) next) i.4 in
    let e = c.absorbed.ensures in
    let taken : IsPermutation (flat_map pass_taken ps ++ flat_map own_taken ws) (flat_map own_taken ws') = IsPermutation-trans _ _ _ (IsPermutation-append_comm (flat_map pass_taken ps) (flat_map own_taken ws)) e.taken in (
      e.same.0 ∙ i.0,
      e.same.1,
      e.offered ∙ i.2,
      e.parts ∙ ap (λ l. added l (map pass_parts ps)) i.3 ∙ ap (added (map (λ k. gained n m k) (range_with_len 1 n))) (turn.0.parts ∙ ap (row (m + 1)) len) ∙ gained_row n m m' lt c.requires.size.1 next,
      turn.1,
      moved_over _ (flat_map own_taken ws) (flat_map own_taken ws') _ _ (flat_map pass_taken ps)
          (flat_popped (λ (r : Vec (Pass g.row.B.Denot (SeatView g.row.B.Denot) Global) Global). flat_map pass_taken r.items) c.pop.new.self.items c.loop-passes.rows.items c.in-Some.passes c.in-Some.ensures.items) taken i.5,
      omega (arith, c.in-Some.ensures.len, i.6),
    )

pub returns-clause-whole : goal.returns-clause-whole
returns-clause-whole g c =
    let i = c.loop-passes.invariant in
    let n = length c.args.workers.now.items in
    let none : c.loop-passes.rows.items ≡ [] = search rules in
    let last : n - vec_len c.loop-passes.rows ≡ n = omega (arith, ap length none, c.loop-passes.rows.ok.0) in
    let all = gained_last (own_parts {B = g.row.B.Denot}) c.loop-passes.workers.items n (n - vec_len c.loop-passes.rows) last c.requires.size.1 i.3 in
    λ k d lt. ((i.1 k d lt).0, all k d lt)
