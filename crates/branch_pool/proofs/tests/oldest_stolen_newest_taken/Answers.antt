use Rattle.std.proofs.Common.{◌≡◌, ap, ◌∙◌}
use Rattle.wide_int.specs.Fractions.{Fraction}
use Rattle.branch_pool.specs.Seats.{SeatData}
use Rattle.branch_pool.proofs.Pair.{both_seats}
use Rattle.branch_pool.proofs.tests.oldest_stolen_newest_taken.Goals as goal

pub close-requires : goal.close-requires
close-requires g c =
    let e = c.in_ok-pool.ensures in
    both_seats c.in_ok-pool.pool c.take-2.new.seat c.take.new.seat c.in_ok-seats.seats.items c.in_ok-seats.ensures
    (c.take-2.ensures.same.1 ∙ c.steal.ensures.same.1 ∙ ap (λ (s : SeatData Fraction). s.deques) e.1)
    (c.take.ensures.same.1 ∙ c.offer-3.ensures.same.1 ∙ c.offer-2.ensures.same.1 ∙ c.offer.ensures.same.1 ∙ ap (λ (s : SeatData Fraction). s.deques) e.0)
    (c.take-2.ensures.same.0 ∙ c.steal.ensures.same.0 ∙ ap (λ (s : SeatData Fraction). s.number) e.1)
    (c.take.ensures.same.0 ∙ c.offer-3.ensures.same.0 ∙ c.offer-2.ensures.same.0 ∙ c.offer.ensures.same.0 ∙ ap (λ (s : SeatData Fraction). s.number) e.0)
    e.2
