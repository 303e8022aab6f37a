use Rattle.std.proofs.Common.{rules}
use Rattle.std.proofs.lemmas.List.Sorted.{IsNonDecreasingBy-from_sort_by_key}
use Rattle.branch_pool.specs.Seats.{SeatData}
use Rattle.branch_pool.proofs.pool.closing.in_order.Goals as goal

pub returns-clause-order : goal.returns-clause-order
returns-clause-order g c = IsNonDecreasingBy-from_sort_by_key (λ (s : SeatData g.row.B.Denot). s.number) _ c.sort_unstable_by_key.ensures.sorted (λ a r q k. search rules)
