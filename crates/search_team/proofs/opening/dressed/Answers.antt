use Rattle.std.proofs.Common.{rules, ◌≡◌, ◌+◌, [], ◌++◌, ◌∷◌, length, map, reverse, arith, refl, None, sym, ap, subst, ◌∙◌}
use Rattle.std.specs.List.{All, range_with_len}
use Rattle.branch_pool.proofs.Dealt.{all_more}
use Rattle.search_team.specs.declared.jobs.Job.{Job}
use Rattle.search_team.proofs.Begun.{map_reverse, popped_numbers, popped_seats}
use Rattle.search_team.proofs.opening.dressed.Goals as goal

pub loop-seat-preserved : goal.loop-seat-preserved
loop-seat-preserved c =
    let before = c.loop-seat.jobs.items in
    let pushed = c.push_reserved.ensures.items in
    let popped = c.in-Some.ensures.items in
    record {
      seats = popped_seats (λ (j : Job). j.seat) c.loop-seat.seats.items c.pop.new.self.items c.in-Some.seat before c.push_reserved.new.self.items _ _ popped pushed (search rules) c.loop-seat.invariant.seats;
      numbers = popped_numbers (λ (j : Job). j.number) (length c.pop.new.self.items) (length c.loop-seat.seats.items) before c.push_reserved.new.self.items _ _ (search rules) pushed (search rules) c.loop-seat.invariant.numbers;
      fresh = all_more (λ (j : Job). (j.hand.items ≡ []) × (j.found.items ≡ []) × (j.solves ≡ 0) × (j.report ≡ None)) before c.push_reserved.new.self.items _ pushed c.loop-seat.invariant.fresh (search rules, search rules, refl, refl);
      room = search rules;
      few = search rules;
    }

pub returns-clause-numbers : goal.returns-clause-numbers
returns-clause-numbers c =
    let none : c.loop-seat.seats.items ≡ [] = search rules in
    ap (map (λ (j : Job). j.number)) c.reverse.ensures.items ∙ map_reverse (λ (j : Job). j.number) c.loop-seat.jobs.items
    ∙ ap (λ l. range_with_len 1 (length l) ++ reverse (map (λ (j : Job). j.number) c.loop-seat.jobs.items)) (sym none) ∙ c.loop-seat.invariant.numbers

pub returns-clause-seats : goal.returns-clause-seats
returns-clause-seats c =
    let none : c.loop-seat.seats.items ≡ [] = search rules in
    ap (map (λ (j : Job). j.seat)) c.reverse.ensures.items ∙ map_reverse (λ (j : Job). j.seat) c.loop-seat.jobs.items
    ∙ ap (λ l. l ++ reverse (map (λ (j : Job). j.seat) c.loop-seat.jobs.items)) (sym none) ∙ c.loop-seat.invariant.seats
