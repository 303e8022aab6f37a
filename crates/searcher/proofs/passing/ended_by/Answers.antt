use Rattle.std.proofs.Common.{subst}
use Rattle.crossing.specs.Exits.{IsExit}
use Rattle.searcher.proofs.PassedEnds.{never_ended, no_flat}
use Rattle.searcher.proofs.passing.ended_by.Goals as goal

pub unreachable-requires : goal.unreachable-requires
unreachable-requires c =
    absurd (no_flat c.args.problem.now c.args.cell.now c.dim-dim.ensures.valid.shape.problem c.requires.walls.0 c.args.lines.now c.requires.walls.1 c.requires.way
    c.entry_of-entry.result c.entry_of-entry.ensures.rule c.in-Flat.which (subst (IsExit c.args.lines.now) c.in-Flat.is c.exit_of.ensures.rule))

pub met-requires-clause-exit : goal.met-requires-clause-exit
met-requires-clause-exit c = subst (IsExit c.args.lines.now) c.in-At.is c.exit_of.ensures.rule

pub tied-requires-clause-exit : goal.tied-requires-clause-exit
tied-requires-clause-exit c = subst (IsExit c.args.lines.now) c.in-Tied.is c.exit_of.ensures.rule

pub returns-in-Never : goal.returns-in-Never
returns-in-Never c =
    never_ended c.args.problem.now c.args.cell.now c.dim-dim.ensures.valid.shape.problem c.requires.walls.0 c.args.lines.now c.requires.walls.1 c.requires.way
    c.entry_of-entry.result c.entry_of-entry.ensures.rule (subst (IsExit c.args.lines.now) c.in-Never.is c.exit_of.ensures.rule)
