use Rattle.std.proofs.Common.{◌≡◌, ◌++◌, ◌-◌, drop}
use Rattle.inner_normal.specs.Coefficients.{pairs_of}
use Rattle.cone_walls.specs.Parts.{parts_of, all_points}
use Rattle.cone_walls.proofs.fines.parts_of.Given as goal

abbrev pub invariant-loop-k : goal.invariant-loop-k
invariant-loop-k l =
    l.parts.items ++ parts_of (all_points l.k (l.support - 1) l.position l.last (drop l.k (pairs_of l.numbers)) (drop l.k l.problem.supports) (drop l.k l.cell))
    ≡ parts_of (all_points 0 (l.support - 1) l.position l.last (pairs_of l.numbers) l.problem.supports l.cell)
