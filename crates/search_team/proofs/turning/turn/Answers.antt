use Rattle.std.proofs.Common.{rules, ◌≡◌, ◌∷◌, ◌++◌, None, Some, IsPermutation, subst}
use Rattle.std.specs.Prelude.{IsTrue, Contains}
use Rattle.branch_pool.specs.Seats.{SeatData, all_taken}
use Rattle.searcher.specs.declared.branches.Branch.{Branch}
use Rattle.searcher.specs.declared.expansions.HaltCause.TheVariants.{OutOfMemory}
use Rattle.searcher.specs.Searches.{opened}
use Rattle.searcher.proofs.Turns.{is_still_problem}
use Rattle.search_team.proofs.Ready.{ready_member, ready_turned}
use Rattle.search_team.proofs.Turned.{turned, held, quiet}
use Rattle.search_team.proofs.turning.turn.Goals as goal

pub returns-then-not-settled-clause-job : goal.returns-then-not-settled-clause-job
returns-then-not-settled-clause-job g c =
    let p = c.args.problem.now in
    let still = is_still_problem p c.dim-dim.ensures.valid c.requires.still in
    let moved : IsPermutation (c.in-Some.taken.branch ∷ all_taken c.args.job.now.seat) (all_taken c.settled.new.job.seat) = search rules in
    turned p c.args.pool.now c.args.given.now.value.items c.args.job.now (record c.settled.new.job { report = Some OutOfMemory }) c.requires.job (search rules) (search rules) (search rules)
    still c.in-Some.taken.branch c.in-Ok.expansion c.in-Ok.ensures.answer (search rules) moved (search rules) (search rules) (search rules) (λ e. absurd (search (e, rules))) (tt, tt, λ f. tt)

pub returns-else-not-settled-clause-job : goal.returns-else-not-settled-clause-job
returns-else-not-settled-clause-job g c =
    let p = c.args.problem.now in
    let still = is_still_problem p c.dim-dim.ensures.valid c.requires.still in
    let moved : IsPermutation (c.in-Some.taken.branch ∷ all_taken c.args.job.now.seat) (all_taken c.settled.new.job.seat) = search rules in
    let done : IsTrue c.settled.result = search rules in
    let none : c.settled.new.job.report ≡ None = search rules in
    turned p c.args.pool.now c.args.given.now.value.items c.args.job.now c.settled.new.job c.requires.job (search rules) (search rules) (search rules)
    still c.in-Some.taken.branch c.in-Ok.expansion c.in-Ok.ensures.answer (search rules) moved (search rules) (search rules) (search rules) (λ e. c.settled.ensures.all done) (search rules)

pub returns-in-Err-clause-job : goal.returns-in-Err-clause-job
returns-in-Err-clause-job g c =
    let moved : IsPermutation (c.in-Some.taken.branch ∷ all_taken c.args.job.now.seat) (all_taken c.next.new.seat) = search rules in
    held c.args.problem.now c.args.pool.now c.args.given.now.value.items c.args.job.now _ c.requires.job (search rules) (search rules) (search rules)
    c.in-Some.taken.branch c.in-Err.halt.cause (search rules) (search rules) moved (search rules) (search rules) (search rules) (search rules) c.in-Err.ensures.answer.1 c.in-Err.ensures.tie c.in-Err.ensures.untied

pub returns-then-not-has_room-clause-job : goal.returns-then-not-has_room-clause-job
returns-then-not-has_room-clause-job g c =
    quiet c.args.problem.now c.args.pool.now c.args.given.now.value.items c.args.job.now (record c.has_room.new.job { report = Some OutOfMemory }) c.requires.job (search rules) (search rules) (search rules)
    (Some OutOfMemory) (search rules) (λ e. absurd (search (e, rules))) (tt, tt, λ f. tt) (search rules) (search rules) (search rules) (search rules)

pub expanded-requires-clause-ready : goal.expanded-requires-clause-ready
expanded-requires-clause-ready g c = λ t own.
    let b = c.in-Some.taken.branch in
    ready_member c.args.problem.now c.args.job.now.seat.offered b (c.requires.walker.1 t) (subst (λ (s : SeatData Branch). Contains s.offered b) c.has_room.ensures.same.1 (c.in-Some.ensures.own own))

pub returns-then-not-settled-clause-walker : goal.returns-then-not-settled-clause-walker
returns-then-not-settled-clause-walker g c =
    let p = c.args.problem.now in
    let outs : c.settled.new.job.seat.offered ++ c.settled.new.job.hand.items ≡ c.args.job.now.seat.offered ++ opened c.in-Ok.expansion = search rules in (
      c.expanded.ensures.walk,
      λ t. ready_turned p c.dim-dim.ensures.valid.shape.problem c.in-Some.taken.branch c.in-Ok.expansion c.in-Ok.ensures.answer c.args.job.now.seat.offered c.settled.new.job.seat.offered c.settled.new.job.hand.items outs
          (c.requires.walker.1 (subst IsTrue c.expanded.ensures.same t)),
    )

pub returns-else-not-settled-clause-walker : goal.returns-else-not-settled-clause-walker
returns-else-not-settled-clause-walker g c =
    let p = c.args.problem.now in
    let outs : c.settled.new.job.seat.offered ++ c.settled.new.job.hand.items ≡ c.args.job.now.seat.offered ++ opened c.in-Ok.expansion = search rules in (
      c.expanded.ensures.walk,
      λ t. ready_turned p c.dim-dim.ensures.valid.shape.problem c.in-Some.taken.branch c.in-Ok.expansion c.in-Ok.ensures.answer c.args.job.now.seat.offered c.settled.new.job.seat.offered c.settled.new.job.hand.items outs
          (c.requires.walker.1 (subst IsTrue c.expanded.ensures.same t)),
    )
