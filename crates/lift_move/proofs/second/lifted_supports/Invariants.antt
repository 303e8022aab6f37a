use Rattle.std.proofs.Common.{◌≡◌, map, take}
use Rattle.cayley.specs.Stored.{file_point}
use Rattle.lift_move.specs.Segments.{lifted_supports}
use Rattle.lift_move.proofs.second.lifted_supports.Given as goal

abbrev pub invariant-loop-k : goal.invariant-loop-k
invariant-loop-k l = map (λ s. map file_point s.items) l.made.items ≡ lifted_supports (map (λ s. map file_point s.items) (take l.k l.supports)) (map (λ s. s.items) (take l.k l.second))
