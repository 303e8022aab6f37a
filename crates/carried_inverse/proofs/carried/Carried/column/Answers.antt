use Rattle.std.proofs.Common.{◌<◌, ◌∙◌, [], length, ap, arith}
use Rattle.int_vectors.specs.Vectors.{row_at}
use Rattle.reduced_rows.proofs.Picking.{any_default}
use Rattle.inner_normal.specs.Inverses.{Inverse}
use Rattle.carried_inverse.proofs.carried.Carried.column.Goals as goal

pub returns : goal.returns
returns c =
    let v = ap (λ (a : Inverse). length a.columns) c.self.view_is in
    let p = c.requires in
    let lt : c.args.place < length c.self.inside.columns.items = omega (arith, v, p) in
    c.as_slice.ensures ∙ c.index.ensures ∙ any_default c.self.inside.columns.items c.args.place c.index.result.now [] lt ∙ ap (λ (a : Inverse). row_at a.columns c.args.place) c.self.view_is
