use Rattle.inner_normal.proofs.CellAnswers.{reduced_widths}
use Rattle.inner_normal.proofs.normals.normal_from.Goals as goal

pub normal_over-requires-clause-widths : goal.normal_over-requires-clause-widths
normal_over-requires-clause-widths c = let a = c.requires.answer in reduced_widths a.0 a.1 a.2 a.3 c.args.reduced.now a.4
