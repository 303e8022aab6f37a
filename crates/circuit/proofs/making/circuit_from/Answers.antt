use Rattle.inner_normal.proofs.CellAnswers.{reduced_widths}
use Rattle.circuit.proofs.making.circuit_from.Goals as goal

pub of-requires : goal.of-requires
of-requires c = record { widths = reduced_widths c.args.problem.now c.args.cell.now c.dim-dim.ensures.valid.shape.problem c.requires.cell c.args.reduced.now c.requires.answer }
