use Rattle.std.proofs.Common.{◌≡◌, ◌≤◌, ◌+◌, ◌++◌, length, vec_len, vec_capacity}
use Rattle.std.specs.Prelude.{map, reverse}
use Rattle.std.specs.List.{All}
use Rattle.branch_pool.specs.Seats.{IsSeatOf, offered_by, taken_by}
use Rattle.search_team.specs.Searchers.{IsJob, IsWhole, given_by}
use Rattle.search_team.specs.Teams.{all_left, all_found}
use Rattle.search_team.proofs.ending.parted.Given as goal

abbrev pub invariant-loop-job : goal.invariant-loop-job
invariant-loop-job l = record {
  jobs : All (IsJob l.problem l.pool l.given.value.items) l.jobs.items;
  whole : IsWhole l.problem (given_by l.given.value.items l.seats.items) (taken_by l.seats.items) (offered_by l.seats.items) (all_left l.parts.items) (all_found l.parts.items) l.solves l.report;
  own : All (IsSeatOf l.pool) l.seats.items;
  numbers : map (λ j. j.number) l.jobs.items ++ reverse (map (λ s. s.number) l.seats.items) ≡ map (λ j. j.number) l.fn.jobs.items;
  parts_room : vec_len l.parts + length l.jobs.items + 2 ≤ vec_capacity l.parts;
  seats_room : vec_len l.seats + length l.jobs.items ≤ vec_capacity l.seats;
}

abbrev pub decreases-loop-job : goal.decreases-loop-job
decreases-loop-job l = length l.jobs.items
