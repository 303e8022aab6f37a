use Rattle.std.proofs.Common.{◌∙◌, ap, map, string_bytes}
use Rattle.clap.specs.Simple.{app_of, is_simple}
use Rattle.mixedcells.proofs.CommandLine.Caller.{found_is, taken}
use Rattle.mixedcells.proofs.words.command_line.parse.Goals as goal

pub unreachable-requires : goal.unreachable-requires
unreachable-requires c = c.in_default.not-OutOfMemory (c.kind.ensures ∙ c.in-Err.ensures.passes (taken (app_of c.in_ok-command.command) (map string_bytes c.args.words.now) c.requires.0 c.in_ok-command.ensures.app c.requires.1))

pub returns-in-Ok : goal.returns-in-Ok
returns-in-Ok c =
    found_is (app_of c.in_ok-command.command) (map string_bytes c.args.words.now) _ c.requires.0 c.in_ok-command.ensures.app c.requires.1
    (c.in-Ok.ensures.matches (ap is_simple c.in_ok-command.ensures.app)).1
