use Rattle.std.proofs.Common.{◌-◌, length, refl}
use Rattle.cayley.specs.declared.found.Sign.TheVariants.{Minus}
use Rattle.searcher.proofs.KeptChildren.{not_neither, their_signs}
use Rattle.searcher.proofs.children.signs_at.Goals as goal

pub signs-signs-requires : goal.signs-signs-requires
signs-signs-requires c = (length c.args.cell.now, (c.in-Ok.ensures.circuit c.args.problem.now refl).form)

pub unreachable-requires : goal.unreachable-requires
unreachable-requires c =
    let n = c.in-None.ensures.none.0 refl in
    not_neither c.args.problem.now c.args.cell.now (c.args.support - 1) c.args.position c.in-Ok.circuit (c.in-Ok.ensures.circuit c.args.problem.now refl) c.signs-signs.result c.signs-signs.ensures Minus n.0 n.1

pub returns : goal.returns
returns c =
    their_signs c.args.problem.now c.args.cell.now (c.args.support - 1) c.args.position c.in-Ok.circuit (c.in-Ok.ensures.circuit c.args.problem.now refl) c.signs-signs.result c.signs-signs.ensures Minus c.in-Some.signs c.in-Some.ensures.same
