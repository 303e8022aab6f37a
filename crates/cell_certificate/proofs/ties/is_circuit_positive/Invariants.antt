use Rattle.std.proofs.Common.{◌↔◌, ◌-◌}
use Rattle.int_vectors.specs.Vectors.{IsPositive}
use Rattle.inner_normal.specs.Coefficients.{numbers_of}
use Rattle.inner_normal.specs.Orders.{ordered}
use Rattle.cell_certificate.proofs.Circuits.{rest}
use Rattle.cell_certificate.proofs.ties.is_circuit_positive.Given as goal

abbrev pub invariant-loop-k : goal.invariant-loop-k
invariant-loop-k l = IsPositive (ordered l.cell (l.support - 1) l.position (numbers_of l.coefficients)) ↔ IsPositive (rest l.k (l.support - 1) l.position l.coefficients l.cell)
