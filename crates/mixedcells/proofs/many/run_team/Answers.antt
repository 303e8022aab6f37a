use Rattle.std.proofs.Common.{map, string_bytes}
use Rattle.mixedcells.proofs.CommandLine.Words.{team_of}
use Rattle.mixedcells.proofs.CommandLine.Ranges.{searchers_fit}
use Rattle.mixedcells.proofs.ForOne.{called_by_one}
use Rattle.mixedcells.proofs.many.run_team.Goals as goal

pub returns-clause-written : goal.returns-clause-written
returns-clause-written g c = λ other.
    let w = c.run_walk.ensures.written other in
    (w.1, called_by_one (map string_bytes c.args.words.now) c.in-Ok.command _ w.0 _ _ c.in-Ok.ensures w.2 w.3, w.4)

pub returns-clause-cut_off : goal.returns-clause-cut_off
returns-clause-cut_off g c = λ fault.
    let w = c.run_walk.ensures.cut_off fault in
    (w.2.0, (w.2.1.0, w.2.1.1, called_by_one (map string_bytes c.args.words.now) c.in-Ok.command _ w.0 _ _ c.in-Ok.ensures w.1 w.2.1.2, w.2.1.3))

pub read_command-requires : goal.read_command-requires
read_command-requires g c = (c.requires.0, c.requires.1)

pub run_walk-requires-clause-team : goal.run_walk-requires-clause-team
run_walk-requires-clause-team g c = λ lifetimes live. team_of (map string_bytes c.args.words.now) c.in-Ok.command c.in-Ok.ensures c.requires

pub run_walk-requires-clause-many : goal.run_walk-requires-clause-many
run_walk-requires-clause-many g c = λ lifetimes live. searchers_fit (map string_bytes c.args.words.now) c.in-Ok.command c.in-Ok.ensures
