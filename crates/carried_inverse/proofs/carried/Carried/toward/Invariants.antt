use Rattle.std.proofs.Common.{◌≡◌, IsTrue, length, take}
use Rattle.cayley.specs.Cells.{IsOf}
use Rattle.carried_inverse.specs.Systems.{IsInverseOfCell}
use Rattle.carried_inverse.proofs.carried.Carried.toward.Given as goal

abbrev pub invariant-loop-i : goal.invariant-loop-i
invariant-loop-i l = record {
  of : IsOf l.problem l.at;
  inverse : IsInverseOfCell l.problem l.at l.self;
  row : length l.row ≡ length l.fn.row;
  same : IsTrue l.reached → take l.i l.at ≡ take l.i l.cell;
}
