use Rattle.std.proofs.Common.{◌≡◌, map, take, length}
use Rattle.cayley.specs.Files.{moved_supports}
use Rattle.cayley.specs.Stored.{file_point, point}
use Rattle.cayley.specs.declared.points.Support.{Support}
use Rattle.cayley.proofs.second_heights.moved_supports.Given as goal

abbrev pub invariant-loop-k : goal.invariant-loop-k
invariant-loop-k l = record {
  files : map (λ (s : Support). s.file) l.made.items ≡ map (λ s. length s.items) (take l.k l.supports);
  points : map (λ (s : Support). map point s.points.items) l.made.items
      ≡ moved_supports (map (λ s. map file_point s.items) (take l.k l.supports)) (map (λ s. s.items) (take l.k l.second));
}
