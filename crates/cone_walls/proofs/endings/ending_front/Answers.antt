use Rattle.std.proofs.Common.{rules}
use Rattle.std.specs.Prelude.{IsTrue}
use Rattle.cone_walls.specs.declared.fronts.Front.TheVariants.{Empty}
use Rattle.cone_walls.specs.Listed.{wall_lines}
use Rattle.cone_walls.proofs.CellLines.{end_by}
use Rattle.cone_walls.proofs.FrontEnds.{front_end}
use Rattle.cone_walls.proofs.RestingLines.{resting_front}
use Rattle.cone_walls.proofs.endings.ending_front.Goals as goal

pub returns-clause-end : goal.returns-clause-end
returns-clause-end g c =
    let t : IsTrue c.is_narrow_of.result = search rules in
    λ end e.
    end_by c.args.problem.now c.args.cell.now c.args.normal.now c.requires.normal c.dim-dim.ensures.valid c.requires.first (c.is_narrow_of.ensures t) end
    (λ none. front_end (wall_lines c.args.normal.now 1 c.args.problem.now.supports c.args.cell.now) none c.front_of.result c.front_of.ensures.front end e)

pub returns-then-is_resting-clause-end : goal.returns-then-is_resting-clause-end
returns-then-is_resting-clause-end g c =
    let t : IsTrue c.is_narrow_of.result = search rules in
    let r : IsTrue c.is_resting.result = search rules in
    λ end e.
    end_by c.args.problem.now c.args.cell.now c.args.normal.now c.requires.normal c.dim-dim.ensures.valid c.requires.first (c.is_narrow_of.ensures t) end
    (λ none.
    front_end (wall_lines c.args.normal.now 1 c.args.problem.now.supports c.args.cell.now) none Empty
    (resting_front c.args.problem.now c.args.cell.now c.args.normal.now c.requires.normal c.dim-dim.ensures.valid c.requires.still (c.is_resting.ensures r)) end e)
