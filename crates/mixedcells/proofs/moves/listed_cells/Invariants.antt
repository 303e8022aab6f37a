use Rattle.std.proofs.Common.{◌≡◌, map, take}
use Rattle.mixedcells.proofs.moves.listed_cells.Given as goal

abbrev pub invariant-loop-x : goal.invariant-loop-x
invariant-loop-x l = l.cells.items ≡ map (λ x. x.cell) (take l.x-index l.listed)
