use Rattle.std.proofs.Common.{rules}
use Rattle.circuit.proofs.tests.the_same_from_reduced_rows.Goals as goal

pub circuit_from-requires-clause-answer : goal.circuit_from-requires-clause-answer
circuit_from-requires-clause-answer c w = rw w.reduced-reduced.ensures w.in_ok-eliminated.ensures.working

pub circuit_with-requires-clause-inverse : goal.circuit_with-requires-clause-inverse
circuit_with-requires-clause-inverse c w = (w.in_ok-eliminated.eliminated, w.in_ok-eliminated.ensures.working, w.in_ok-inverse.ensures.1)
