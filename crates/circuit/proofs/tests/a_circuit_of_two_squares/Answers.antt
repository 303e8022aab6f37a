use Rattle.std.proofs.Common.{refl}
use Rattle.circuit.proofs.tests.a_circuit_of_two_squares.Goals as goal

pub signs-requires : goal.signs-requires
signs-requires c w = (_, (w.in_ok-circuit.ensures.circuit w.in_ok-problem.problem refl).form)
