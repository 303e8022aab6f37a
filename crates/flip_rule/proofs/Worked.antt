-- Worked walls meet the premises of the rules: one with two successors, and one with one successor and two predecessors.
use Rattle.std.proofs.Common.{arith}
use Rattle.std.proofs.lemmas.Int.{ints}
use Rattle.cayley.specs.declared.found.Sign.TheVariants.{Minus, Plus}
use Rattle.cayley.proofs.Worked.Walls.{cell, five, between, between_well, between_before, between_normal, between_is_normal, between_only, between_numbers, between_dependency, outside, outside_well, outside_before, outside_normal, outside_is_normal, outside_only, outside_numbers, outside_dependency}
use Rattle.flip_rule.specs.Walls.{IsWall}

-- point 2 stands between the points 1 and 4 of the pair, and takes the place of either
pub splits : IsWall between cell 0 2 (Minus, Minus) five
splits = record {
  problem = between_well;
  before = between_before;
  v = between_normal;
  normal = between_is_normal;
  only = between_only;
  numbers = between_numbers;
  dependency = between_dependency;
  signs_are = (omega (arith, ints), omega (arith, ints));
}

-- it stands outside of them, and takes the place of the nearer one
pub moves_on : IsWall outside cell 0 2 (Minus, Plus) five
moves_on = record {
  problem = outside_well;
  before = outside_before;
  v = outside_normal;
  normal = outside_is_normal;
  only = outside_only;
  numbers = outside_numbers;
  dependency = outside_dependency;
  signs_are = (omega (arith, ints), omega (arith, ints));
}
