use Rattle.std.proofs.Common.{rules, ◌≡◌, ◌+◌, [], ◌++◌, ◌∷◌, map, min, reverse, ap, ◌∙◌}
use Rattle.cayley.proofs.Ranking.MovedProblems.{map_push}
use Rattle.branch_pool.specs.Seats.{SeatData, IsSeatOf}
use Rattle.branch_pool.proofs.Dealt.{all_more}
use Rattle.branch_pool.proofs.Fresh.{all_pop}
use Rattle.searcher.specs.declared.branches.Branch.{Branch}
use Rattle.searcher.specs.Searches.{top}
use Rattle.search_team.specs.declared.jobs.Job.{Job}
use Rattle.search_team.specs.Searchers.{IsJob}
use Rattle.search_team.proofs.Begun.{moved_on}
use Rattle.search_team.proofs.Summed.{one_more}
use Rattle.search_team.proofs.ending.parted.Goals as goal

pub loop-job-preserved : goal.loop-job-preserved
loop-job-preserved c =
    let p = c.args.problem.now in
    let pool = c.args.pool.now in
    let given = c.args.given.now.value.items in
    let job = c.in-Some.job in
    let rest = c.pop.new.self.items in
    let all = all_pop (IsJob p pool given) rest c.loop-job.jobs.items job c.in-Some.ensures.items c.loop-job.invariant.jobs in
    let mine = all.1 in
    let seats = c.push_reserved-in-Some.ensures.items in
    let parts = c.push_reserved.ensures.items in
    let sum : c.saturating_add-solves.result ≡ min (c.loop-job.solves + job.solves) top = search rules in
    record {
      jobs = all.0;
      whole = one_more p given c.loop-job.seats.items c.push_reserved-in-Some.new.self.items c.loop-job.parts.items c.push_reserved.new.self.items c.loop-job.solves job.solves c.saturating_add-solves.result job.number
          c.loop-job.report job.report c.chosen-report.result job.seat (record { left = job.hand; found = job.found })
          c.loop-job.invariant.whole mine.number mine.whole seats parts sum c.chosen-report.ensures.one c.chosen-report.ensures.none;
      own = all_more (IsSeatOf pool) c.loop-job.seats.items c.push_reserved-in-Some.new.self.items job.seat seats c.loop-job.invariant.own mine.seat;
      numbers =
          ap (λ l. map (λ (j : Job). j.number) rest ++ reverse l) (ap (map (λ (s : SeatData Branch). s.number)) seats ∙ map_push (λ (s : SeatData Branch). s.number) c.loop-job.seats.items job.seat ∙ ap (λ n. map (λ (s : SeatData Branch). s.number) c.loop-job.seats.items ++ n ∷ []) mine.number)
          ∙ moved_on (map (λ (j : Job). j.number) rest) (map (λ (j : Job). j.number) c.loop-job.jobs.items) (map (λ (s : SeatData Branch). s.number) c.loop-job.seats.items) job.number
          (ap (map (λ (j : Job). j.number)) c.in-Some.ensures.items ∙ map_push (λ (j : Job). j.number) rest job)
          ∙ c.loop-job.invariant.numbers;
      parts_room = search rules;
      seats_room = search rules;
    }
