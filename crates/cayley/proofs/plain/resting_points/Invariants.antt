use Rattle.std.proofs.Common.{◌≡◌, map, take}
use Rattle.cayley.specs.Files.{resting}
use Rattle.cayley.specs.Stored.{file_point, point}
use Rattle.cayley.proofs.plain.resting_points.Given as goal

abbrev pub invariant-loop-x : goal.invariant-loop-x
invariant-loop-x l = map point l.made.items ≡ map (λ x. resting (file_point x)) (take l.x-index l.points)
