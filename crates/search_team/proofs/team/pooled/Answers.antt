use Rattle.std.proofs.Common.{arith, ◌≡◌, ℕ, ◌++◌, length, map, take, drop, sym, ap, subst, ◌∙◌}
use Rattle.std.specs.List.{All, range_with_len}
use Rattle.std.proofs.lemmas.List.{length-map}
use Rattle.std.proofs.lemmas.List.FromFn.{length-range_with_len}
use Rattle.search_team.specs.declared.jobs.Job.{Job}
use Rattle.search_team.specs.Walkers.{IsWorker}
use Rattle.search_team.proofs.Begun.{maps_same, take_front}
use Rattle.search_team.proofs.Stopped.{handed_back}
use Rattle.search_team.proofs.team.pooled.Goals as goal

pub returns-in-Err-clause-answer : goal.returns-in-Err-clause-answer
returns-in-Err-clause-answer g c =
    let u = c.unbegun.ensures in
    handed_back c.args.problem.now c.args.branches.items c.unbegun.result (ap (λ v. v.items) u.0) u.1 u.2 u.3

pub begun-requires-clause-numbers : goal.begun-requires-clause-numbers
begun-requires-clause-numbers g c =
    let long : length c.in-Ok.room.jobs.items ≡ c.args.searchers = sym (length-map c.in-Ok.room.jobs.items (λ (j : Job). j.number)) ∙ ap length c.in-Ok.ensures.numbers ∙ length-range_with_len 1 c.args.searchers in
    (omega (arith, long, c.requires.seats.0), c.in-Ok.ensures.numbers ∙ ap (range_with_len 1) (sym c.in-Ok.ensures.pool))

pub index-requires : goal.index-requires
index-requires g c =
    let long : length c.in-Ok.room.jobs.items ≡ c.args.searchers = sym (length-map c.in-Ok.room.jobs.items (λ (j : Job). j.number)) ∙ ap length c.in-Ok.ensures.numbers ∙ length-range_with_len 1 c.args.searchers in
    let same : length c.begun.new.jobs.items ≡ length c.in-Ok.room.jobs.items = sym (length-map c.begun.new.jobs.items (λ (j : Job). j.number)) ∙ ap length c.begun.ensures.numbers ∙ length-map c.in-Ok.room.jobs.items (λ (j : Job). j.number) in
    omega (arith, long, same, c.requires.seats.0, c.begun.new.jobs.ok.0)

pub ended-requires-clause-numbers : goal.ended-requires-clause-numbers
ended-requires-clause-numbers g c =
    let number : Job → ℕ = λ j. j.number in
    let value : c.as_mut_slice.result.now ≡ c.begun.new.jobs.items = c.as_mut_slice.ensures.value in
    let long : c.begun.new.jobs.len ≡ length c.run_all.new.jobs = c.begun.new.jobs.ok.0 ∙ ap length (sym value) ∙ sym c.run_all.ensures.long in
    let whole : take c.begun.new.jobs.len (c.run_all.new.jobs ++ drop (length c.run_all.new.jobs) c.begun.new.jobs.items) ≡ c.run_all.new.jobs = take_front c.begun.new.jobs.len c.run_all.new.jobs (drop (length c.run_all.new.jobs) c.begun.new.jobs.items) long in (
      omega (arith, c.in-Ok.ensures.pool, c.requires.seats.0),
      ap (map number) whole
          ∙ maps_same number c.as_mut_slice.result.now c.run_all.new.jobs c.run_all.ensures.long c.run_all.ensures.numbers
          ∙ ap (map number) value ∙ c.begun.ensures.numbers ∙ c.in-Ok.ensures.numbers ∙ ap (range_with_len 1) (sym c.in-Ok.ensures.pool),
    )

pub ended-requires-clause-room : goal.ended-requires-clause-room
ended-requires-clause-room g c =
    let value : c.as_mut_slice.result.now ≡ c.begun.new.jobs.items = c.as_mut_slice.ensures.value in
    let long : c.begun.new.jobs.len ≡ length c.run_all.new.jobs = c.begun.new.jobs.ok.0 ∙ ap length (sym value) ∙ sym c.run_all.ensures.long in
    let whole : take c.begun.new.jobs.len (c.run_all.new.jobs ++ drop (length c.run_all.new.jobs) c.begun.new.jobs.items) ≡ c.run_all.new.jobs = take_front c.begun.new.jobs.len c.run_all.new.jobs (drop (length c.run_all.new.jobs) c.begun.new.jobs.items) long in
    let size = ap length whole in
    let l1 : length c.in-Ok.room.jobs.items ≡ c.args.searchers = sym (length-map c.in-Ok.room.jobs.items (λ (j : Job). j.number)) ∙ ap length c.in-Ok.ensures.numbers ∙ length-range_with_len 1 c.args.searchers in
    let l2 : length c.begun.new.jobs.items ≡ length c.in-Ok.room.jobs.items = sym (length-map c.begun.new.jobs.items (λ (j : Job). j.number)) ∙ ap length c.begun.ensures.numbers ∙ length-map c.in-Ok.room.jobs.items (λ (j : Job). j.number) in
    let l3 = c.begun.new.jobs.ok.0 in
    let r = c.in-Ok.ensures.room in
    (r.0, r.1, omega (arith, size, long, l1, l2, l3, r.2), omega (arith, size, long, l1, l2, l3, r.3))

pub run_all-requires-clause-jobs : goal.run_all-requires-clause-jobs
run_all-requires-clause-jobs g c = λ κs within.
    let p = c.args.problem.now in
    subst (All (IsWorker p c.in-Ok.room.pool c.of-given.result.value.items c.all_start-from_start.result)) (sym c.as_mut_slice.ensures.value)
    (λ k d lt. (c.begun.ensures.jobs k d lt, λ t. c.begun.ensures.ready (rw c.deref.ensures.value at (c.all_start-from_start.ensures t)) k d lt))
