use Rattle.std.proofs.Common.{refl, sym, subst}
use Rattle.cayley.specs.Mixed.{IsLowestNormal}
use Rattle.inner_normal.specs.MovingNormals.{IsMovingNormal}
use Rattle.searcher.proofs.FileTargets.{resting_normal}
use Rattle.lift_move.proofs.moving.found_cell.Goals as goal

pub target_normal-requires-clause-still : goal.target_normal-requires-clause-still
target_normal-requires-clause-still c =
    resting_normal c.args.second.now c.args.cell.now c.in-Ok.normal c.dim-dim.ensures.valid c.requires.still c.requires.mixed.0 (c.in-Ok.ensures.normal c.args.second.now refl)

pub returns-in-Ok : goal.returns-in-Ok
returns-in-Ok c =
    let p = c.args.second.now in
    let moving = subst (λ q. IsMovingNormal q c.args.cell.now c.in-Ok.normal) (sym c.requires.own) (c.in-Ok.ensures.normal p refl) in
    (c.copy.ensures, subst (λ z. IsLowestNormal p z c.target_normal.result.v c.target_normal.result.den) (sym c.copy.ensures) (c.target_normal.ensures.normal p c.args.cell.now moving))
