use Rattle.std.proofs.Common.{◌≡◌, ◌∙◌, ap, sym, map, string_bytes}
use Rattle.std.specs.Prelude.{option_and_then}
use Rattle.mixedcells.specs.Words.{built, command_for}
use Rattle.mixedcells.proofs.CommandLine.Words.{meant, none_meant}
use Rattle.mixedcells.proofs.words.read_command.Goals as goal

pub parse-requires : goal.parse-requires
parse-requires c = meant (map string_bytes c.args.words.now) c.requires.0 c.requires.1

pub unreachable-requires : goal.unreachable-requires
unreachable-requires c =
    let same : c.command_meant.result ≡ command_for (map string_bytes c.args.words.now) = c.command_meant.ensures ∙ ap (option_and_then built) (c.meaning_in.ensures ∙ c.in-Ok.ensures) in
    none_meant (map string_bytes c.args.words.now) (sym same ∙ c.in-None.is) c.requires

pub returns : goal.returns
returns c =
    let same : c.command_meant.result ≡ command_for (map string_bytes c.args.words.now) = c.command_meant.ensures ∙ ap (option_and_then built) (c.meaning_in.ensures ∙ c.in-Ok.ensures) in
    sym same ∙ c.in-Some.is
