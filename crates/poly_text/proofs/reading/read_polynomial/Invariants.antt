use Rattle.std.proofs.Common.{◌≡◌, drop}
use Rattle.poly_text.specs.Steps.{begun, read_from}
use Rattle.poly_text.specs.Reading.{state_of}
use Rattle.poly_text.proofs.reading.read_polynomial.Given as goal

abbrev pub invariant-loop-symbol : goal.invariant-loop-symbol
invariant-loop-symbol l = read_from l.n (drop l.symbol-index l.symbols) (state_of l.reader) ≡ read_from l.n l.symbols (begun l.n)
