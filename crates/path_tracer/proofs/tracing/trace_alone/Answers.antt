use Rattle.std.proofs.Common.{rules, ◌≡◌, [], ◌∷◌, ◌++◌, ap, sym, subst, ◌∙◌, reverse}
use Rattle.int_vectors.specs.Vectors.{Each}
use Rattle.start_system.proofs.Started.SearchLaws.{started_form}
use Rattle.searcher.specs.Ends.{IsTiedAtEnd}
use Rattle.searcher.specs.Expansions.{HasLowestNormal}
use Rattle.searcher.specs.Searches.{opened, found_in}
use Rattle.searcher.specs.Workings.{FitsWorking}
use Rattle.searcher.proofs.Sizes.{size_in, size_in_gives}
use Rattle.searcher.proofs.Turns.{is_still_problem, well_of, turn_normals, last_left}
use Rattle.search_team.proofs.Starts.{started_still}
use Rattle.path_tracer.specs.Nodes.{HasInverse, FitsNumbers}
use Rattle.path_tracer.proofs.FurtherPoints.{has_further, branch_fits, branch_untied}
use Rattle.path_tracer.proofs.Walks.{start_of, turn_on, turn_weighs, turn_leads, turn_shrinks, left_begins, each_more, one_step}
use Rattle.path_tracer.proofs.Ends.{searched, traced, halted}
use Rattle.path_tracer.proofs.tracing.trace_alone.Goals as goal

pub visited-requires-clause-still : goal.visited-requires-clause-still
visited-requires-clause-still g c = started_still c.args.problem.now c.dim-dim.ensures.valid c.requires.started

pub visited-requires-clause-begins : goal.visited-requires-clause-begins
visited-requires-clause-begins g c =
    let p = c.args.problem.now in
    let given = start_of p ∷ [] in
    left_begins p (searched p c.dim-dim.ensures.valid c.requires.started).early c.in-Some.branch
    (last_left p given c.loop-branch.left.items c.pop.new.self.items c.in-Some.branch c.in-Some.ensures.items c.loop-branch.invariant.left)

pub visited-requires-clause-further : goal.visited-requires-clause-further
visited-requires-clause-further g c =
    let p = c.args.problem.now in
    has_further p c.in-Some.branch.cell (started_form p c.dim-dim.ensures.valid.shape c.requires.started)

pub returns-in-Err-clause-answer : goal.returns-in-Err-clause-answer
returns-in-Err-clause-answer g c =
    halted c.args.problem.now c.dim-dim.ensures.valid c.requires.started c.loop-branch.left.items c.pop.new.self.items c.in-Some.branch c.in-Err.cause c.in-Some.ensures.items
    c.loop-branch.invariant.left c.in-Err.ensures.answer c.in-Err.ensures.tie c.in-Err.ensures.untied

pub loop-branch-smaller : goal.loop-branch-smaller
loop-branch-smaller g c =
    let p = c.args.problem.now in
    let valid = c.dim-dim.ensures.valid in
    let given = start_of p ∷ [] in
    let popped = c.in-Some.ensures.items in
    let begins = left_begins p (searched p valid c.requires.started).early c.in-Some.branch (last_left p given c.loop-branch.left.items c.pop.new.self.items c.in-Some.branch popped c.loop-branch.invariant.left) in
    let e = c.in-Ok-visited.made.1 in
    let put = c.put.ensures.left ∙ ap (λ l. l ++ reverse (opened e)) c.has_room.ensures.left in
    turn_shrinks p (is_still_problem p valid (started_still p valid c.requires.started)) c.in-Some.branch c.loop-branch.left.items c.pop.new.self.items c.put.new.left.items popped e c.in-Ok-visited.ensures.answer.2 begins put (size_in p)
    (size_in_gives p (well_of p valid))

pub loop-branch-preserved : goal.loop-branch-preserved
loop-branch-preserved g c =
    let p = c.args.problem.now in
    let valid = c.dim-dim.ensures.valid in
    let still = is_still_problem p valid (started_still p valid c.requires.started) in
    let given = start_of p ∷ [] in
    let b = c.in-Some.branch in
    let left = c.loop-branch.left.items in
    let rest = c.pop.new.self.items in
    let now = c.put.new.left.items in
    let popped = c.in-Some.ensures.items in
    let before = c.loop-branch.invariant in
    let begins = left_begins p (searched p valid c.requires.started).early b (last_left p given left rest b popped before.left) in
    let node = c.in-Ok-visited.made.0 in
    let e = c.in-Ok-visited.made.1 in
    let told = c.in-Ok-visited.ensures.answer in
    let put = c.put.ensures.left ∙ ap (λ l. l ++ reverse (opened e)) c.has_room.ensures.left in
    let kept = c.put.ensures.found ∙ ap (λ l. l ++ found_in e) c.has_room.ensures.found in
    let more = c.push_reserved.ensures.items ∙ ap (λ l. l ++ node ∷ []) c.has_room.ensures.nodes in
    let nodes = c.loop-branch.nodes.items in
    let new = c.push_reserved.new.self.items in
    record {
      balance = turn_weighs p still b left rest now popped e told.2 begins put given c.loop-branch.found.items c.put.new.found.items nodes new node more kept before.balance;
      way = turn_on p still b left rest now popped e told.2 begins put nodes new node told.0 more before.way;
      normals = subst (λ l. Each l (HasLowestNormal p)) (sym kept) (turn_normals p b e told.2 c.loop-branch.found.items before.normals);
      inverses = each_more (HasInverse p) nodes new node more before.inverses told.1;
      workings = each_more (λ node. FitsWorking p node.cell) nodes new node more before.workings (subst (FitsWorking p) (sym told.0) (branch_fits p b e told.2 begins));
      fits = each_more FitsNumbers nodes new node more before.fits c.in-Ok-visited.ensures.fits;
      untied = each_more (λ node. ¬ (IsTiedAtEnd p node.cell)) nodes new node more before.untied (subst (λ cell. ¬ (IsTiedAtEnd p cell)) (sym told.0) (branch_untied p b e told.2 begins));
      left = turn_leads p still b left rest now popped e told.2 begins put given before.left;
      count = one_step c.args.steps.now c.loop-branch.steps c.visited.new.steps nodes new node more c.visited.ensures.step before.count;
    }

pub returns-clause-answer : goal.returns-clause-answer
returns-clause-answer g c =
    let none : c.loop-branch.left.items ≡ [] = c.in_default-pop.ensures.items ∙ search rules in
    traced c.args.problem.now c.dim-dim.ensures.valid c.requires.started c.loop-branch.found.items c.loop-branch.left.items (record { nodes = c.loop-branch.nodes; found = c.put_in_order.new.found }) none
    c.put_in_order.ensures.same c.put_in_order.ensures.order c.loop-branch.invariant.normals c.loop-branch.invariant.balance c.loop-branch.invariant.way c.loop-branch.invariant.inverses c.loop-branch.invariant.fits c.loop-branch.invariant.workings c.loop-branch.invariant.untied
