use Rattle.std.proofs.Common.{pos, ◌≡◌, take}
use Rattle.int_vectors.specs.Vectors.{Each, at}
use Rattle.table_update.proofs.states.first_with.Given as goal

abbrev pub invariant-loop-i : goal.invariant-loop-i
invariant-loop-i l = Each (take l.i l.rows) (λ row. at row l.k ≡ pos 0)
