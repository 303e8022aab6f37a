use Rattle.std.proofs.Common.{arith, ◌≡◌, [], length, map, sym, ap, ◌∙◌}
use Rattle.std.specs.List.{range_with_len}
use Rattle.std.proofs.lemmas.List.{map-id}
use Rattle.std.proofs.lemmas.List.FromFn.{length-map-range_with_len}
use Rattle.int_vectors.proofs.Each.{map_map}
use Rattle.branch_pool.specs.Seats.{SeatData, IsSeatOf, all_taken, fresh_seat}
use Rattle.searcher.specs.declared.branches.Branch.{Branch}
use Rattle.search_team.specs.declared.jobs.Job.{Job}
use Rattle.search_team.proofs.Begun.{all_unmapped, number_at}
use Rattle.search_team.proofs.opening.prepared.Goals as goal

pub dressed-requires : goal.dressed-requires
dressed-requires c =
    let long : length c.in_ok-pool.seats.items ≡ c.args.searchers = ap length c.in_ok-pool.ensures.fresh ∙ length-map-range_with_len (λ k. fresh_seat {B = Branch} c.in_ok-pool.pool.deques k) 1 c.args.searchers in
    record { few = omega (arith, long, c.requires.1); room = (c.in-Ok-with_capacity-2.ensures.items, omega (arith, long, c.in-Ok-with_capacity-2.ensures.capacity)) }

pub returns-clause-numbers : goal.returns-clause-numbers
returns-clause-numbers c =
    let long : length c.in_ok-pool.seats.items ≡ c.args.searchers = ap length c.in_ok-pool.ensures.fresh ∙ length-map-range_with_len (λ k. fresh_seat {B = Branch} c.in_ok-pool.pool.deques k) 1 c.args.searchers in
    c.dressed.ensures.numbers ∙ ap (range_with_len 1) long

pub returns-clause-fresh : goal.returns-clause-fresh
returns-clause-fresh c = λ k d l.
    let jobs = c.dressed.result.items in
    let seats = c.in_ok-pool.seats.items in
    let a = all_unmapped (λ (j : Job). j.seat) (λ (s : SeatData Branch). IsSeatOf c.in_ok-pool.pool s) jobs seats c.dressed.ensures.seats c.in_ok-pool.ensures.all.own k d l in
    let b = all_unmapped (λ (j : Job). j.seat) (λ (s : SeatData Branch). (s.offered ≡ []) × (all_taken s ≡ [])) jobs seats c.dressed.ensures.seats c.in_ok-pool.ensures.empty k d l in
    let f = c.dressed.ensures.fresh k d l in
    let numbers : map (λ (j : Job). j.seat.number) jobs ≡ range_with_len 1 c.args.searchers =
    sym (map_map (λ (s : SeatData Branch). s.number) (λ (j : Job). j.seat) jobs)
    ∙ ap (map (λ (s : SeatData Branch). s.number)) (c.dressed.ensures.seats ∙ c.in_ok-pool.ensures.fresh)
    ∙ map_map (λ (s : SeatData Branch). s.number) (λ k. fresh_seat {B = Branch} c.in_ok-pool.pool.deques k) (range_with_len 1 c.args.searchers)
    ∙ map-id (range_with_len 1 c.args.searchers) in
    record {
      seat = a;
      number = number_at (λ (j : Job). j.seat.number) jobs k c.args.searchers d numbers l ∙ sym (number_at (λ (j : Job). j.number) jobs k (length seats) d c.dressed.ensures.numbers l);
      offered = b.0;
      taken = b.1;
      hand = f.0;
      found = f.1;
      solves = f.2;
      report = f.3;
    }
