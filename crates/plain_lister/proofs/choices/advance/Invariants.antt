use Rattle.std.proofs.Common.{◌≡◌, ◌≤◌, length, take, drop, ◌++◌}
use Rattle.plain_lister.specs.Order.{IsLast, firsts}
use Rattle.plain_lister.specs.Wheels.{Show}
use Rattle.plain_lister.proofs.choices.advance.Given as goal

abbrev pub invariant-loop-place : goal.invariant-loop-place
invariant-loop-place g l = record {
  within : l.place ≤ length l.wheels;
  show : Show g.counts l.wheels l.pairs;
  turned : l.pairs ≡ take l.place l.fn.pairs ++ firsts (drop l.place g.counts);
  last : IsLast (drop l.place g.counts) (drop l.place l.fn.pairs);
}

abbrev pub decreases-loop-place : goal.decreases-loop-place
decreases-loop-place g l = l.place
