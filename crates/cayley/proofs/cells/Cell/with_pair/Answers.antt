use Rattle.std.proofs.Common.{◌≡◌, ◌∙◌, ◌≤◌, ap, sym, subst, length}
use Rattle.cayley.specs.Valid.{IsValidCell}
use Rattle.cayley.specs.Flips.{put_pair}
use Rattle.cayley.proofs.OneCell.PutPairs.{written, valid_put}
use Rattle.cayley.proofs.cells.Cell.with_pair.Goals as goal

pub invariant_of-result : goal.invariant_of-result
invariant_of-result c =
    let e : c.in-Ok.pairs.items ≡ c.self.inside.pairs.items = c.in-Ok.ensures.ok ∙ c.as_slice.ensures in
    let w = written c.in-Ok.pairs.items c.as_mut_slice.result.now c.args.place c.args.pair c.as_mut_slice.ensures.value in
    let v = valid_put c.in-Ok.pairs.items c.args.place c.args.pair (subst IsValidCell (sym e) c.self.invariant.0) c.requires.rises in
    (subst IsValidCell (sym w) v, c.in-Ok.ensures.inline (subst (λ l. length l ≤ 16) (sym c.as_slice.ensures) c.self.invariant.0.1))

pub returns : goal.returns
returns c =
    let e : c.in-Ok.pairs.items ≡ c.args.self.now = c.in-Ok.ensures.ok ∙ c.as_slice.ensures ∙ c.self.view_is in
    let w = written c.in-Ok.pairs.items c.as_mut_slice.result.now c.args.place c.args.pair c.as_mut_slice.ensures.value in
    w ∙ ap (λ l. put_pair l c.args.place c.args.pair) e
