-- What the code's rows mean.
use Rattle.homotopy_rows.specs.declared.rows.PowerRow.{PowerRow}
use Rattle.homotopy_rows.specs.Powers.{Row}

abbrev pub row : PowerRow → Row
row r = record { cell = r.cell; scale = r.scale; powers = r.powers.items }
