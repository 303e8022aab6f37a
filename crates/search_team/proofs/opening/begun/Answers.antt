use Rattle.std.proofs.Common.{arith, ◌≡◌, suc, ◌++◌, length, map, get_or, sym, ap, subst, ◌∙◌}
use Rattle.std.specs.List.{range_with_len}
use Rattle.std.specs.Prelude.{IsPermutation}
use Rattle.std.proofs.lemmas.List.{length-map}
use Rattle.std.proofs.lemmas.List.FromFn.{length-range_with_len}
use Rattle.int_vectors.specs.Vectors.{Each}
use Rattle.search_team.specs.declared.jobs.Job.{Job}
use Rattle.search_team.specs.Searchers.{IsFresh, IsJob}
use Rattle.search_team.specs.Walkers.{IsReady}
use Rattle.search_team.proofs.Ready.{ready_given}
use Rattle.search_team.proofs.Begun.{number_at, begun_all, job_begun, job_idle}
use Rattle.search_team.proofs.opening.begun.Goals as goal

pub returns-clause-jobs : goal.returns-clause-jobs
returns-clause-jobs c =
    let p = c.args.problem.now in
    let pool = c.args.pool.now in
    let given = c.args.given.now.value.items in
    let jobs = c.args.jobs.now.items in
    let seats = length pool.deques in
    let numbers : map (λ (j : Job). j.number) jobs ≡ range_with_len 1 seats = c.requires.numbers.1 in
    let long : length jobs ≡ seats = sym (length-map jobs (λ (j : Job). j.number)) ∙ ap length numbers ∙ length-range_with_len 1 seats in
    let some = c.requires.numbers.0 in
    let old = c.index_mut.result.now in
    let value : old ≡ get_or jobs 0 old = c.index_mut.ensures.value in
    let f : IsFresh pool old = subst (IsFresh pool) (sym value) (c.requires.fresh 0 old (omega (arith, some))) in
    let first : old.number ≡ 1 = ap (λ (j : Job). j.number) value ∙ number_at (λ (j : Job). j.number) jobs 0 seats old numbers (omega (arith, some)) in
    let now = c.offered.new.job in
    let same = c.offered.ensures.same in
    let outs : IsPermutation given (now.seat.offered ++ now.hand.items) = subst (λ l. IsPermutation l (now.seat.offered ++ now.hand.items)) (sym c.requires.given) c.offered.ensures.outs in
    begun_all (IsJob p pool given) jobs now some
    (job_begun p pool given now (same.0 ∙ first) (omega (arith, long, some)) (same.2 ∙ f.seat) (same.1 ∙ f.number ∙ sym same.0) (same.3 ∙ f.taken) (ap (λ v. v.items) same.4 ∙ f.found) (same.5 ∙ f.solves) outs c.offered.ensures.calm c.offered.ensures.told)
    (λ k d lt.
    let j = get_or jobs (suc k) d in
    let n : j.number ≡ suc (suc k) = number_at (λ (j : Job). j.number) jobs (suc k) seats d numbers lt in
    job_idle p pool given j (c.requires.fresh (suc k) d lt) (λ e. absurd (omega (arith, e, n))) (omega (arith, n)) (omega (arith, n, lt, long)))

pub returns-clause-ready : goal.returns-clause-ready
returns-clause-ready c = λ starts.
    let p = c.args.problem.now in
    let pool = c.args.pool.now in
    let jobs = c.args.jobs.now.items in
    let old = c.index_mut.result.now in
    let now = c.offered.new.job in
    begun_all (λ (j : Job). Each j.seat.offered (IsReady p)) jobs now c.requires.numbers.0
    (ready_given p c.args.branches.items now.seat.offered now.hand.items starts c.offered.ensures.outs)
    (λ k d lt. subst (λ l. Each l (IsReady p)) (sym ((c.requires.fresh (suc k) d lt).offered)) tt)
