use Rattle.std.proofs.Common.{◌≡◌, ◌+◌, ◌-◌, ◌++◌, map}
use Rattle.cayley.specs.Paths.{default_starts}
use Rattle.start_system.proofs.starts.default_starts.Given as goal

abbrev pub invariant-loop-place : goal.invariant-loop-place
invariant-loop-place l = map (λ s. s.items) l.made.items ++ default_starts l.dim (l.place + 1) (l.dim - l.place) ≡ default_starts l.dim 1 l.dim
