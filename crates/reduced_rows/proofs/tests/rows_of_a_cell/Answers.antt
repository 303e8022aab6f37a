use Rattle.std.proofs.Common.{refl, sym, subst, arith}
use Rattle.reduced_rows.specs.Steps.{OfLength}
use Rattle.reduced_rows.proofs.Run.{each_longer}
use Rattle.reduced_rows.proofs.tests.rows_of_a_cell.Goals as goal

pub reduce-requires-clause-lengths : goal.reduce-requires-clause-lengths
reduce-requires-clause-lengths g c = (6, omega arith, subst (OfLength 6) (sym c.in_ok-rows.ensures) (refl, (refl, tt)))

pub solution-requires-clause-column : goal.solution-requires-clause-column
solution-requires-clause-column g c =
    each_longer 6 2 _ (omega arith) (c.in_ok-reduced.ensures.reduced.long 6 (subst (OfLength 6) (sym c.in_ok-rows.ensures) (refl, (refl, tt))))

pub scaled_column-requires-clause-column : goal.scaled_column-requires-clause-column
scaled_column-requires-clause-column g c =
    each_longer 6 5 _ (omega arith) (c.in_ok-reduced.ensures.reduced.long 6 (subst (OfLength 6) (sym c.in_ok-rows.ensures) (refl, (refl, tt))))
