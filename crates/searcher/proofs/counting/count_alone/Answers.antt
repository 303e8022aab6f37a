use Rattle.std.proofs.Common.{rules, drop, ◌≡◌, ◌<◌, [], ◌++◌, ap, sym, subst, ◌∙◌}
use Rattle.std.specs.Prelude.{sum_by}
use Rattle.int_vectors.specs.Vectors.{Each}
use Rattle.cayley.proofs.Searching.Steps.{Counts, weight, counts_begin}
use Rattle.searcher.specs.Branches.{branches_of}
use Rattle.searcher.specs.Searches.{IsLeft, opened, top}
use Rattle.searcher.specs.Walks.{IsMade}
use Rattle.searcher.proofs.MadeBranches.{given_made, last_made, turn_made}
use Rattle.searcher.proofs.Sizes.{size_in, size_in_gives}
use Rattle.searcher.proofs.Turns.{is_still_problem, well_of, turn_counts, turn_falls, turn_left, turn_count, left_begin, count_begin, count_few}
use Rattle.searcher.proofs.Results.{cause_left, all_counted}
use Rattle.searcher.proofs.CountedShares.{Tallies, tally_begin, tally_turn, tally_end, counts_share, counts_size}
use Rattle.searcher.proofs.counting.count_alone.Goals as goal

pub loop-branch-init : goal.loop-branch-init
loop-branch-init g c = record {
  tallies = tally_begin c.args.problem.now c.args.branches.items;
  counts = λ size cost gives costs. counts_begin cost top (branches_of c.args.branches.items);
  count = count_begin c.args.steps.now;
  left = left_begin c.args.problem.now c.args.branches.items;
  walk = c.begin-walk.ensures.walk;
  made = given_made c.args.problem.now c.args.branches.items c.begin-walk.result.given (c.begin-walk.ensures.given ∙ search rules);
}

pub returns-in-Err-clause-answer : goal.returns-in-Err-clause-answer
returns-in-Err-clause-answer g c = (
  c.loop-branch.left.items,
  c.loop-branch.invariant.left,
  cause_left c.args.problem.now c.loop-branch.left.items c.pop.new.self.items c.in-Some.branch c.in-Err.cause c.in-Some.ensures.items c.in-Err.ensures.answer,
)

pub turn-requires-clause-walk : goal.turn-requires-clause-walk
turn-requires-clause-walk g c = c.loop-branch.invariant.walk

pub turn-requires-clause-made : goal.turn-requires-clause-made
turn-requires-clause-made g c =
    last_made c.args.problem.now c.in-Some.branch c.loop-branch.left.items c.pop.new.self.items c.in-Some.ensures.items c.loop-branch.walk.given c.len-count.result (search rules) c.loop-branch.invariant.made

pub loop-branch-smaller : goal.loop-branch-smaller
loop-branch-smaller g c =
    let p = c.args.problem.now in
    let valid = c.dim-dim.ensures.valid in
    let did = c.in-Ok.ensures.answer in
    let e = did.0 in
    let put = did.2 ∙ ap (λ l. l ++ opened e) c.reserve.ensures.items in
    subst (λ l. sum_by (weight (size_in p)) (branches_of l) < sum_by (weight (size_in p)) (branches_of c.loop-branch.left.items)) (sym put)
    (turn_falls p (is_still_problem p valid c.requires.still) c.in-Some.branch c.loop-branch.left.items c.pop.new.self.items c.in-Some.ensures.items e did.1 (size_in p)
    (size_in_gives p (well_of p valid)))

pub loop-branch-preserved : goal.loop-branch-preserved
loop-branch-preserved g c =
    let p = c.args.problem.now in
    let valid = c.dim-dim.ensures.valid in
    let still = is_still_problem p valid c.requires.still in
    let given = c.args.branches.items in
    let b = c.in-Some.branch in
    let left = c.loop-branch.left.items in
    let rest = c.pop.new.self.items in
    let popped = c.in-Some.ensures.items in
    let did = c.in-Ok.ensures.answer in
    let e = did.0 in
    let told = did.1 in
    let before = c.loop-branch.invariant in
    let put = did.2 ∙ ap (λ l. l ++ opened e) c.reserve.ensures.items in
    record {
      tallies = subst (λ l. Tallies p given l c.cells_after-cells.result) (sym put)
          (tally_turn p still b left rest popped e told given c.loop-branch.cells c.cells_after-cells.result (rw did.3 at c.cells_after-cells.ensures) before.tallies);
      counts = λ size cost gives costs.
          subst (λ l. Counts cost top (branches_of given) c.count_after-solves.result (branches_of l)) (sym put)
          (turn_counts p still b left rest popped e told size cost gives costs given c.loop-branch.solves c.count_after-solves.result c.count_after-solves.ensures
          (before.counts size cost gives costs));
      count = turn_count p b c.args.steps.now c.loop-branch.steps c.turn.new.steps c.loop-branch.solves c.count_after-solves.result c.turn.ensures.step c.turn.ensures.no_step
          c.count_after-solves.ensures before.count;
      left = subst (λ l. Each l (IsLeft p given)) (sym put) (turn_left p given left rest b e popped told before.left);
      walk = c.turn.ensures.walk;
      made = subst (λ l. Each (drop c.turn.new.walk.given l) (IsMade p)) (sym put)
          (turn_made p (well_of p valid) b left rest popped e told c.loop-branch.walk.given c.turn.new.walk.given c.len-count.result (search rules) c.turn.ensures.given before.made);
    }

pub returns-clause-answer : goal.returns-clause-answer
returns-clause-answer g c =
    let p = c.args.problem.now in
    let well = well_of p c.dim-dim.ensures.valid in
    let given = c.args.branches.items in
    let left = c.loop-branch.left.items in
    let none : left ≡ [] = c.in_default.ensures.items ∙ search rules in
    record {
      cells = tally_end p given left c.loop-branch.cells none c.loop-branch.invariant.tallies;
      solves = all_counted p well given left c.loop-branch.solves none (count_few c.args.steps.now c.loop-branch.steps c.loop-branch.solves c.loop-branch.invariant.count) c.loop-branch.invariant.counts;
    }

pub returns-clause-share : goal.returns-clause-share
returns-clause-share g c = counts_share c.args.problem.now (well_of c.args.problem.now c.dim-dim.ensures.valid) c.args.branches.items _ (returns-clause-answer g c)

pub returns-clause-size : goal.returns-clause-size
returns-clause-size g c = counts_size c.args.problem.now (well_of c.args.problem.now c.dim-dim.ensures.valid) c.args.branches.items _ (returns-clause-answer g c)
