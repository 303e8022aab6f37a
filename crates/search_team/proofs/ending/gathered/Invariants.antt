use Rattle.std.proofs.Common.{◌≡◌, ◌≤◌, ◌+◌, ◌++◌, [], length, vec_len, vec_capacity}
use Rattle.std.specs.Prelude.{IsPermutation}
use Rattle.search_team.specs.Teams.{all_left, all_found}
use Rattle.search_team.proofs.ending.gathered.Given as goal

abbrev pub invariant-loop-part : goal.invariant-loop-part
invariant-loop-part l = record {
  none : all_left l.parts.items ≡ [];
  all : IsPermutation (all_found l.fn.parts.items) (all_found l.parts.items ++ l.cells.items);
  room : vec_len l.parts + 1 ≤ vec_capacity l.parts;
}

abbrev pub decreases-loop-part : goal.decreases-loop-part
decreases-loop-part l = length l.parts.items
