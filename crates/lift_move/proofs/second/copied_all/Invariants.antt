use Rattle.std.proofs.Common.{◌≡◌, map, take}
use Rattle.lift_move.proofs.second.copied_all.Given as goal

abbrev pub invariant-loop-start : goal.invariant-loop-start
invariant-loop-start l = map (λ s. s.items) l.made.items ≡ map (λ s. s.items) (take l.start-index l.starts)
