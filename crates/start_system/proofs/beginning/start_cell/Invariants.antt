use Rattle.std.proofs.Common.{◌≡◌, length, take}
use Rattle.cayley.specs.Paths.{start_cell}
use Rattle.start_system.proofs.beginning.start_cell.Given as goal

abbrev pub invariant-loop-place : goal.invariant-loop-place
invariant-loop-place l = record {
  long : length l.pairs ≡ 16;
  made : take l.place l.pairs ≡ take l.place (start_cell l.problem);
}
