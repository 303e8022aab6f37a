use Rattle.std.proofs.Common.{ℕ, List, ◌++◌, drop}
use Rattle.cayley.specs.Files.{plain_problem}
use Rattle.homotopy_rows.specs.declared.rows.PowerRow.{PowerRow}
use Rattle.homotopy_rows.specs.Answers.{IsGood}
use Rattle.homotopy_rows.specs.Flat.{FirstFlat}
use Rattle.homotopy_rows.specs.Powers.{SideBySide}
use Rattle.homotopy_rows.specs.Stored.{row}
use Rattle.homotopy_rows.proofs.lines.rows.Given as goal

abbrev pub invariant-loop-listed : goal.invariant-loop-listed
invariant-loop-listed l =
    let p = plain_problem l.listing.file in
    let lines = l.listing.cells.items in
    record {
      made : (rest : List PowerRow) → SideBySide (drop l.listed-index lines) rest (λ x r. IsGood p x (row r)) → SideBySide lines (l.rows.items ++ rest) (λ x r. IsGood p x (row r));
      flat : (number : ℕ) → FirstFlat p (drop l.listed-index lines) number → FirstFlat p lines number;
    }
