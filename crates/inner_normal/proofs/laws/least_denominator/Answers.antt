use Rattle.reduced_rows.proofs.LeastMultiple.{least_den}
use Rattle.cayley.specs.Rows.{edge_rows}
use Rattle.inner_normal.proofs.Meaning.{reduced_of}
use Rattle.inner_normal.proofs.RowUnits.{rows_units}
use Rattle.inner_normal.proofs.laws.least_denominator.Goals as goal

pub returns : goal.returns
returns c = λ p cell made m well of e positive whole. least_den p.dimension _ m (edge_rows p cell) made (reduced_of p cell well of made e) (rows_units p cell well of) positive whole
