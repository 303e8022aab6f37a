use Rattle.std.proofs.Common.{◌≡◌, map, take, length}
use Rattle.cayley.specs.declared.points.Support.{Support}
use Rattle.cayley.specs.Stored.{point, file_point}
use Rattle.cayley.specs.Paths.{path_supports}
use Rattle.start_system.proofs.paths.path_supports.Given as goal

abbrev pub invariant-loop-place : goal.invariant-loop-place
invariant-loop-place l = record {
  files : map (λ (s : Support). s.file) l.made.items ≡ map (λ s. length s.items) (take l.place l.supports);
  points : map (λ (s : Support). map point s.points.items) l.made.items ≡ take l.place (path_supports 1 (map (λ s. map file_point s.items) l.supports) (map (λ s. s.items) l.starts));
}
