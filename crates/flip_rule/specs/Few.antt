-- One or two cells as a list.
use Rattle.std.specs.Prelude.{List, [], ◌∷◌}
use Rattle.cayley.specs.Cells.{Cell}
use Rattle.flip_rule.specs.declared.few.Few.{Few}
use Rattle.flip_rule.specs.declared.few.Few.TheVariants.{One, Two}

-- the cells in order
abbrev pub cells_of : Few → List Cell
cells_of (One cell) = cell ∷ []
cells_of (Two first second) = first ∷ second ∷ []
