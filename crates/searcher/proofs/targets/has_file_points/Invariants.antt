use Rattle.std.proofs.Common.{◌≡◌, length}
use Rattle.searcher.proofs.FileCells.{AreBelow}
use Rattle.searcher.proofs.targets.has_file_points.Given as goal

abbrev pub invariant-loop-place : goal.invariant-loop-place
invariant-loop-place l = (l.pairs ≡ l.fn.cell) × (l.problem ≡ l.fn.problem) × (length l.pairs ≡ l.problem.dimension) × AreBelow l.place l.problem.files l.pairs
