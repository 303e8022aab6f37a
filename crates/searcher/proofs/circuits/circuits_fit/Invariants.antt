use Rattle.std.proofs.Common.{◌↔◌, drop}
use Rattle.int_vectors.specs.Vectors.{Each}
use Rattle.searcher.specs.LineCircuits.{FitsItsCircuit}
use Rattle.searcher.proofs.circuits.circuits_fit.Given as goal

abbrev pub invariant-loop-line : goal.invariant-loop-line
invariant-loop-line l = Each l.fn.lines (FitsItsCircuit l.fn.problem l.fn.cell l.fn.inverse) ↔ Each (drop l.line-index l.fn.lines) (FitsItsCircuit l.fn.problem l.fn.cell l.fn.inverse)
