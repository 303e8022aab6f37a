use Rattle.std.proofs.Common.{refl, arith}
use Rattle.line_text.specs.Lines.{lines_of, end_line_of}
use Rattle.line_text.proofs.SliceLemmas.{source_stands}
use Rattle.line_text.proofs.lines.Lines.new.Goals as goal

pub returns-clause-rows : goal.returns-clause-rows
unfolding lines_of
returns-clause-rows c = refl

pub returns-clause-end_line : goal.returns-clause-end_line
unfolding end_line_of
returns-clause-end_line c = omega arith

pub returns-clause-slices : goal.returns-clause-slices
returns-clause-slices c = source_stands c.args.bytes.now
