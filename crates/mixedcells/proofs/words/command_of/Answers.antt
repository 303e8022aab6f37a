use Rattle.std.proofs.Common.{◌∙◌, ap, map, string_bytes}
use Rattle.std.specs.Prelude.{option_and_then}
use Rattle.mixedcells.specs.Words.{built}
use Rattle.mixedcells.proofs.CommandLine.Words.{told}
use Rattle.mixedcells.proofs.words.command_of.Goals as goal

pub returns : goal.returns
returns c = record { meaning = told (map string_bytes c.args.words.now) c.command_meant.result (c.command_meant.ensures ∙ ap (option_and_then built) c.meaning.ensures) }
