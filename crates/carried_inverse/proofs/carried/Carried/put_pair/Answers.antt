use Rattle.std.proofs.Common.{rules, ◌≡◌, ◌<◌, ◌∙◌, slice_index_or, length, arith, ap, sym, subst}
use Rattle.cayley.specs.Cells.{Cell, IsOf}
use Rattle.cayley.proofs.OneCell.CellRows.{InRange}
use Rattle.inner_normal.proofs.Reading.{cell_long}
use Rattle.carried_inverse.proofs.CellMoves.{of_put, put_same}
use Rattle.carried_inverse.proofs.carried.Carried.put_pair.Goals as goal

pub with_pair-requires-clause-place : goal.with_pair-requires-clause-place
with_pair-requires-clause-place c =
    let k = cell_long c.args.problem.now.supports c.args.at.now InRange c.requires.of in
    let n = c.dim-dim.ensures.valid.shape.problem.supports in
    omega (arith, k, n, c.requires.place)

pub bounds-pairs-place : goal.bounds-pairs-place
bounds-pairs-place c =
    let k = cell_long c.args.problem.now.supports c.args.at.now InRange c.requires.of in
    let n = c.dim-dim.ensures.valid.shape.problem.supports in
    let e = ap length c.pairs.ensures.same in
    omega (arith, k, n, e, c.requires.place)

pub returns-then-eq-clause-made : goal.returns-then-eq-clause-made
returns-then-eq-clause-made c =
    let k = cell_long c.args.problem.now.supports c.args.at.now InRange c.requires.of in
    let n = c.dim-dim.ensures.valid.shape.problem.supports in
    let lt : c.args.place < length c.args.at.now = omega (arith, k, n, c.requires.place) in
    let same : slice_index_or c.pairs.result.now c.args.place (0, 0) ≡ c.args.pair = search rules in
    λ t. put_same c.args.at.now c.args.place c.args.pair lt (sym (ap (λ (l : Cell). slice_index_or l c.args.place (0, 0)) c.pairs.ensures.same) ∙ same)

pub returns-in-Made-clause-of : goal.returns-in-Made-clause-of
returns-in-Made-clause-of c =
    subst (IsOf c.args.problem.now) (sym c.with_pair.ensures) (of_put c.args.problem.now.supports c.args.at.now c.args.place c.args.pair c.requires.of c.requires.pair)
