use Rattle.std.proofs.Common.{◌≡◌, ◌++◌, take, flat_map}
use Rattle.support_text.specs.Words.{text_of}
use Rattle.homotopy_rows.specs.Stored.{row}
use Rattle.homotopy_rows.specs.Writing.{row_lines}
use Rattle.homotopy_rows.proofs.writing.write_cells.Given as goal

abbrev pub invariant-loop-r : goal.invariant-loop-r
invariant-loop-r l = l.out.items ≡ l.fn.out.items ++ flat_map (λ r. text_of (row_lines (row r))) (take l.r-index l.rows)
