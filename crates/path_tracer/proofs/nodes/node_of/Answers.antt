use Rattle.std.proofs.Common.{◌+◌, ◌≡◌, ◌∙◌, sym, subst, length, unsigned_abs, FitsSigned, to_z-of_z, rules, refl, pos, ◌<ℤ◌}
use Rattle.std.specs.Int.{w128}
use Rattle.int_vectors.specs.Vectors.{Each}
use Rattle.cayley.specs.Rows.{edge_rows}
use Rattle.reduced_rows.specs.CellRefusals.{IsEliminated}
use Rattle.path_tracer.proofs.Inverses.{node_has, square, scale_is}
use Rattle.path_tracer.proofs.nodes.node_of.Goals as goal

pub by_rows-requires : goal.by_rows-requires
by_rows-requires c =
    let f : FitsSigned w128 c.in-Some.scale = search rules in
    let h = simp to_z-of_z at c.in-Ok-columns_of.ensures in
    let made = c.into_reduced-reduced.result in
    let s = square made c.in-Ok-columns_of.columns.items (length made + 2) (unsigned_abs c.in-Some.scale) h.1 in
    record { square = subst (λ cs. Each cs (λ column. length column ≡ length cs)) (sym c.deref.ensures.value) s }

pub returns-clause-inverse : goal.returns-clause-inverse
returns-clause-inverse c =
    let f : FitsSigned w128 c.in-Some.scale = search rules in
    let h = simp to_z-of_z at c.in-Ok-columns_of.ensures in
    let v = c.in-Some.ensures.value in
    let q = c.in-Some.ensures.positive in
    let made = c.into_reduced-reduced.result in
    let p = c.args.problem.now in
    let done : IsEliminated p.dimension (edge_rows p c.args.cell) made = subst (λ m. IsEliminated p.dimension (edge_rows p c.args.cell) m) (sym c.into_reduced-reduced.ensures) c.in-Ok.ensures.answer.0 in
    simp to_z-of_z (node_has p (record { cell = c.args.cell; scale = c.in-Some.scale; inverse = c.in_ok-inverse.inverse }) c.args.cell refl c.of.ensures.valid c.requires.of made c.deref.result.now done (subst (λ z. pos 0 <ℤ z) v.1 q) v.1
    (c.deref.ensures.value ∙ scale_is made c.in-Ok-columns_of.columns.items c.in-Some.scale 0 v.1 h.1) c.in_ok-inverse.ensures.rows)
