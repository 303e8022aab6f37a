use Rattle.std.proofs.Common.{◌≡◌, map, take, length}
use Rattle.cayley.specs.Files.{resting}
use Rattle.cayley.specs.Stored.{file_point, point}
use Rattle.cayley.specs.declared.points.Support.{Support}
use Rattle.cayley.proofs.plain.resting_supports.Given as goal

abbrev pub invariant-loop-points : goal.invariant-loop-points
invariant-loop-points l = record {
  files : map (λ (s : Support). s.file) l.made.items ≡ map (λ s. length s.items) (take l.points-index l.supports);
  points : map (λ (s : Support). map point s.points.items) l.made.items ≡ map (λ s. map (λ x. resting (file_point x)) s.items) (take l.points-index l.supports);
}
