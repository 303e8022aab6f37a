use Rattle.std.proofs.Common.{rules, drop, ◌≡◌, ◌<◌, [], ◌∷◌, ◌++◌, ap, sym, subst, ◌∙◌}
use Rattle.std.specs.Prelude.{sum_by}
use Rattle.int_vectors.specs.Vectors.{Each}
use Rattle.cayley.proofs.Searching.Steps.{Keeps, Counts, weight, keeps_begin, counts_begin}
use Rattle.cayley.specs.Stored.{cells_of}
use Rattle.searcher.specs.Branches.{branches_of}
use Rattle.searcher.specs.Expansions.{HasLowestNormal}
use Rattle.searcher.specs.Searches.{IsLeft, opened, found_in, top}
use Rattle.searcher.specs.Walks.{IsMade}
use Rattle.searcher.proofs.MadeBranches.{given_made, last_made, turn_made}
use Rattle.searcher.proofs.Sizes.{size_in, size_in_gives}
use Rattle.searcher.proofs.Turns.{is_still_problem, well_of, turn_keeps, turn_counts, turn_falls, turn_normals, HasFit, turn_fit, turn_left, turn_count, left_begin, count_begin, count_few}
use Rattle.searcher.proofs.Results.{found_whole, each_sorted, finds_share, finds_size, cause_left, stopped_with}
use Rattle.searcher.proofs.searching.search_alone.Goals as goal

pub loop-branch-init : goal.loop-branch-init
loop-branch-init g c = record {
  keeps = λ share gives.
      subst (λ l. Keeps share (branches_of c.args.branches.items) (cells_of l) (branches_of c.args.branches.items)) (sym c.new-cells.ensures.items)
      (keeps_begin share (branches_of c.args.branches.items));
  counts = λ size cost gives costs. counts_begin cost top (branches_of c.args.branches.items);
  count = count_begin c.args.steps.now;
  normals = subst (λ l. Each l (HasLowestNormal c.args.problem.now)) (sym c.new-cells.ensures.items) tt;
  fit = subst (λ l. Each l (HasFit c.args.problem.now)) (sym c.new-cells.ensures.items) tt;
  left = left_begin c.args.problem.now c.args.branches.items;
  walk = c.begin-walk.ensures.walk;
  made = given_made c.args.problem.now c.args.branches.items c.begin-walk.result.given (c.begin-walk.ensures.given ∙ search rules);
}

pub returns-in-Err-clause-answer : goal.returns-in-Err-clause-answer
returns-in-Err-clause-answer g c =
    let popped : c.loop-branch.left.items ≡ c.pop.new.self.items ++ c.in-Some.branch ∷ [] = c.in-Some.ensures.items in
    let back : c.push_reserved.new.self.items ≡ c.has_room.new.left.items ++ c.in-Some.branch ∷ [] = search rules in
    let whole = back ∙ ap (λ l. l ++ c.in-Some.branch ∷ []) c.has_room.ensures.left ∙ sym popped in
    stopped_with c.args.problem.now c.args.branches.items c.loop-branch.left.items c.loop-branch.cells.items _ whole c.has_room.ensures.cells c.loop-branch.invariant.keeps
    c.loop-branch.invariant.normals c.loop-branch.invariant.left
    (cause_left c.args.problem.now c.loop-branch.left.items c.pop.new.self.items c.in-Some.branch c.in-Err.cause popped c.in-Err.ensures.answer)

pub returns-in-Err-clause-counted : goal.returns-in-Err-clause-counted
returns-in-Err-clause-counted g c =
    turn_count c.args.problem.now c.in-Some.branch c.args.steps.now c.loop-branch.steps c.turn.new.steps c.loop-branch.solves c.count_after-solves.result c.turn.ensures.step
    c.turn.ensures.no_step c.count_after-solves.ensures c.loop-branch.invariant.count

pub turn-requires-clause-walk : goal.turn-requires-clause-walk
turn-requires-clause-walk g c = c.loop-branch.invariant.walk

pub turn-requires-clause-made : goal.turn-requires-clause-made
turn-requires-clause-made g c =
    last_made c.args.problem.now c.in-Some.branch c.loop-branch.left.items c.pop.new.self.items c.in-Some.ensures.items c.loop-branch.walk.given c.len-count.result (search rules) c.loop-branch.invariant.made

pub loop-branch-smaller : goal.loop-branch-smaller
loop-branch-smaller g c =
    let p = c.args.problem.now in
    let valid = c.dim-dim.ensures.valid in
    let did = c.in-Ok.ensures.answer in
    let e = did.0 in
    let put = did.2 ∙ ap (λ l. l ++ opened e) c.has_room.ensures.left in
    subst (λ l. sum_by (weight (size_in p)) (branches_of l) < sum_by (weight (size_in p)) (branches_of c.loop-branch.left.items)) (sym put)
    (turn_falls p (is_still_problem p valid c.requires.still) c.in-Some.branch c.loop-branch.left.items c.pop.new.self.items c.in-Some.ensures.items e did.1 (size_in p)
    (size_in_gives p (well_of p valid)))

pub loop-branch-preserved : goal.loop-branch-preserved
loop-branch-preserved g c =
    let p = c.args.problem.now in
    let valid = c.dim-dim.ensures.valid in
    let still = is_still_problem p valid c.requires.still in
    let given = c.args.branches.items in
    let b = c.in-Some.branch in
    let left = c.loop-branch.left.items in
    let rest = c.pop.new.self.items in
    let popped = c.in-Some.ensures.items in
    let did = c.in-Ok.ensures.answer in
    let e = did.0 in
    let told = did.1 in
    let cells = c.loop-branch.cells.items in
    let before = c.loop-branch.invariant in
    let put = did.2 ∙ ap (λ l. l ++ opened e) c.has_room.ensures.left in
    let kept = c.put_found.ensures ∙ ap (λ l. c.has_room.new.cells.items ++ l) did.3 ∙ ap (λ l. l ++ found_in e) c.has_room.ensures.cells in
    record {
      keeps = λ share gives.
          subst (λ l. Keeps share (branches_of given) (cells_of c.put_found.new.cells.items) (branches_of l)) (sym put)
          (subst (λ l. Keeps share (branches_of given) (cells_of l) (branches_of (rest ++ opened e))) (sym kept)
          (turn_keeps p still b left rest popped e told share gives given cells (before.keeps share gives)));
      counts = λ size cost gives costs.
          subst (λ l. Counts cost top (branches_of given) c.count_after-solves.result (branches_of l)) (sym put)
          (turn_counts p still b left rest popped e told size cost gives costs given c.loop-branch.solves c.count_after-solves.result c.count_after-solves.ensures
          (before.counts size cost gives costs));
      count = turn_count p b c.args.steps.now c.loop-branch.steps c.turn.new.steps c.loop-branch.solves c.count_after-solves.result c.turn.ensures.step c.turn.ensures.no_step
          c.count_after-solves.ensures before.count;
      normals = subst (λ l. Each l (HasLowestNormal p)) (sym kept) (turn_normals p b e told cells before.normals);
      fit = subst (λ l. Each l (HasFit p)) (sym kept) (turn_fit p b e told cells before.fit);
      left = subst (λ l. Each l (IsLeft p given)) (sym put) (turn_left p given left rest b e popped told before.left);
      walk = c.turn.ensures.walk;
      made = subst (λ l. Each (drop c.turn.new.walk.given l) (IsMade p)) (sym put)
          (turn_made p (well_of p valid) b left rest popped e told c.loop-branch.walk.given c.turn.new.walk.given c.len-count.result (search rules) c.turn.ensures.given before.made);
    }

pub returns-clause-answer : goal.returns-clause-answer
returns-clause-answer g c =
    let none : c.loop-branch.left.items ≡ [] = c.in_default.ensures.items ∙ search rules in
    found_whole c.args.problem.now (well_of c.args.problem.now c.dim-dim.ensures.valid) c.args.branches.items c.loop-branch.left.items c.loop-branch.cells.items _ none
    c.put_in_order.ensures.same c.put_in_order.ensures.order c.loop-branch.invariant.keeps c.loop-branch.invariant.counts
    (count_few c.args.steps.now c.loop-branch.steps c.loop-branch.solves c.loop-branch.invariant.count) c.loop-branch.invariant.normals

pub returns-clause-share : goal.returns-clause-share
returns-clause-share g c =
    finds_share c.args.problem.now (well_of c.args.problem.now c.dim-dim.ensures.valid) c.args.branches.items _ (returns-clause-answer g c)

pub returns-clause-size : goal.returns-clause-size
returns-clause-size g c =
    finds_size c.args.problem.now (well_of c.args.problem.now c.dim-dim.ensures.valid) c.args.branches.items _ (returns-clause-answer g c)

pub returns-clause-fit : goal.returns-clause-fit
returns-clause-fit g c = each_sorted (HasFit c.args.problem.now) c.loop-branch.cells.items _ c.put_in_order.ensures.same c.loop-branch.invariant.fit
