use Rattle.std.proofs.Common.{◌≡◌, ◌∙◌, ap₂}
use Rattle.std.specs.Cmp.Lexicographic.{slice_cmp}
use Rattle.cayley.proofs.OneCell.CellOrder.{pair_cmp, compared}
use Rattle.cayley.proofs.cells.Cell.cmp.Goals as goal

pub returns : goal.returns
returns c =
    let e : c.as_slice.result.now ≡ c.args.self.now = c.as_slice.ensures ∙ c.self.view_is in
    let f : c.as_slice-2.result.now ≡ c.args.other.now = c.as_slice-2.ensures ∙ c.other.view_is in
    let k = compared c.cmp.result c.args.self.now c.args.other.now (c.cmp.ensures ∙ ap₂ (slice_cmp pair_cmp) e f) in
    record { less = k.less; equal = k.equal; greater = k.greater }
