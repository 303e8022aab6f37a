use Rattle.std.proofs.Common.{◌≡◌, length, refl, sym, ap, subst, arith}
use Rattle.reduced_rows.specs.Steps.{OfLength}
use Rattle.table_update.proofs.tests.table_of_a_cell.Goals as goal

pub new-requires : goal.new-requires
new-requires c =
    let n = ap length c.in_ok-rows.ensures in
    (6, omega (arith, n), subst (OfLength 6) (sym c.in_ok-rows.ensures) (refl, (refl, tt)))
