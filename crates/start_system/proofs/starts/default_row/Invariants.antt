use Rattle.std.proofs.Common.{◌≡◌, ◌+◌, ◌-◌, ◌++◌}
use Rattle.cayley.specs.Paths.{default_starts_from}
use Rattle.start_system.proofs.starts.default_row.Given as goal

abbrev pub invariant-loop-place : goal.invariant-loop-place
invariant-loop-place l = l.made.items ++ default_starts_from l.i (l.place + 1) (l.dim - l.place) ≡ default_starts_from l.i 1 l.dim
