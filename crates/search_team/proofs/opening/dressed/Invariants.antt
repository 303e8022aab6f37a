use Rattle.std.proofs.Common.{◌≡◌, ◌≤◌, ◌+◌, ◌++◌, [], length, vec_len, vec_capacity, None}
use Rattle.std.specs.Prelude.{map, reverse}
use Rattle.std.specs.List.{All, range_with_len}
use Rattle.search_team.proofs.opening.dressed.Given as goal

abbrev pub invariant-loop-seat : goal.invariant-loop-seat
invariant-loop-seat l = record {
  seats : l.seats.items ++ reverse (map (λ j. j.seat) l.jobs.items) ≡ l.fn.seats.items;
  numbers : range_with_len 1 (length l.seats.items) ++ reverse (map (λ j. j.number) l.jobs.items) ≡ range_with_len 1 (length l.fn.seats.items);
  fresh : All (λ j. (j.hand.items ≡ []) × (j.found.items ≡ []) × (j.solves ≡ 0) × (j.report ≡ None)) l.jobs.items;
  room : vec_len l.jobs + length l.seats.items ≤ vec_capacity l.jobs;
  few : length l.seats.items ≤ length l.fn.seats.items;
}

abbrev pub decreases-loop-seat : goal.decreases-loop-seat
decreases-loop-seat l = length l.seats.items
