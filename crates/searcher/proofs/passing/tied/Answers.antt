use Rattle.std.proofs.Common.{rules, IsTrue, [], ◌∷◌, sym, subst}
use Rattle.searcher.specs.declared.expansions.HaltCause.TheVariants as cause
use Rattle.searcher.specs.Passes.{IsHaltOnTheWay}
use Rattle.searcher.proofs.PassedEnds.{two_late, two_tied}
use Rattle.searcher.proofs.passing.tied.Goals as goal

pub returns-then-is_after_one : goal.returns-then-is_after_one
returns-then-is_after_one c =
    let t : IsTrue c.is_after_one.result = search rules in
    two_late c.args.problem.now c.args.cell.now c.dim-dim.ensures.valid.shape.problem c.requires.walls.0 c.args.lines.now c.requires.walls.1 c.requires.way c.args.entry.now c.requires.entry
    c.args.time c.args.first c.args.second c.requires.exit (λ u e o. (c.is_after_one.ensures u e o).0 t)

pub returns : goal.returns
returns c =
    let n : ¬ (IsTrue c.is_after_one.result) = search rules in
    subst (λ z. IsHaltOnTheWay c.args.problem.now (c.args.cell.now ∷ []) (cause.Tie z)) (sym c.tie_of.ensures)
    (two_tied c.args.problem.now c.args.cell.now c.dim-dim.ensures.valid.shape.problem c.requires.walls.0 c.args.lines.now c.requires.walls.1 c.requires.way c.args.entry.now c.requires.entry
    c.args.time c.args.first c.args.second c.requires.exit (λ u e o b. n ((c.is_after_one.ensures u e o).1 b)))
