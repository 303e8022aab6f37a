use Rattle.std.proofs.Common.{◌∙◌, List, length, arith, ap, sym, subst, subst₂}
use Rattle.std.proofs.Math.IntN.{ℤ}
use Rattle.cayley.specs.Rows.{edge_rows}
use Rattle.reduced_rows.specs.CellRefusals.{IsEliminated}
use Rattle.reduced_rows.specs.Steps.{OfLength}
use Rattle.inner_normal.proofs.CellAnswers.{reduced_widths, rows_lengths}
use Rattle.cone_walls.proofs.kept.eliminated_from.Goals as goal

pub table_of-requires : goal.table_of-requires
table_of-requires c =
    let r = rows_lengths c.args.problem.now c.args.cell.now c.in_ok-rows.ensures.valid.shape.problem c.requires in
    (r.0, omega (arith, c.in_ok-rows.ensures.count, r.1), subst (OfLength r.0) (sym c.in_ok-rows.ensures.value) r.2)

pub from_reduced-requires : goal.from_reduced-requires
from_reduced-requires c =
    let p = c.args.problem.now in
    let cell = c.args.cell.now in
    let count = ap length c.in_ok-table.ensures.rows ∙ c.in_ok-rows.ensures.count in
    let e : IsEliminated p.dimension (edge_rows p cell) c.reduced.result.now = subst₂ (λ n (rows : List (List ℤ)). IsEliminated n rows c.reduced.result.now) count (c.in_ok-table.ensures.rows ∙ c.in_ok-rows.ensures.value) (c.reduced.ensures.fits, c.reduced.ensures.working) in
    reduced_widths p cell c.in_ok-rows.ensures.valid.shape.problem c.requires c.in_ok-reduced.reduced (subst (IsEliminated p.dimension (edge_rows p cell)) (sym c.in_ok-reduced.ensures) e)
