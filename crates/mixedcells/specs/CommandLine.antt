-- The command as `clap` sees it. No value has a parser: the ranges are tested on what it read.
use Rattle.std.specs.Prelude.{codes, Some, true}
use Rattle.clap.specs.Walk.{Rule, Text}
use Rattle.clap.specs.Simple.{App, Shape, new_app, new_rule, with_rule, with_subcommand}

abbrev pub option_named : Text → Rule
option_named name = record (new_rule name) { long = Some name }

abbrev pub needed : Text → Rule
needed id = record (new_rule id) { required = true }

abbrev pub bare : Text → Shape
bare name = (new_app name).top

abbrev pub searching_app : Text → App
searching_app name = with_rule (new_app name) (option_named (codes "searchers"))

abbrev pub searching : Text → Shape
searching name = (searching_app name).top

abbrev pub family_app : App
family_app = with_rule (with_rule (new_app (codes "make")) (needed (codes "family"))) (needed (codes "n"))

abbrev pub points_app : App
points_app = with_rule (with_rule family_app (new_rule (codes "m"))) (new_rule (codes "side"))

abbrev pub making_app : App
making_app = with_rule points_app (option_named (codes "seed"))

abbrev pub making : Shape
making = making_app.top

abbrev pub nameless : App
nameless = let a = new_app (codes "mixedcells") in record a { top = record a.top { no_binary_name = true } }

abbrev pub making_line : App
making_line = with_subcommand nameless making

abbrev pub plain_line : App
plain_line = with_subcommand (with_subcommand making_line (bare (codes "plain"))) (bare (codes "check"))

abbrev pub powers_line : App
powers_line = with_subcommand plain_line (bare (codes "powers"))

abbrev pub generic_line : App
generic_line = with_subcommand powers_line (bare (codes "generic"))

abbrev pub moving_line : App
moving_line = with_subcommand generic_line (bare (codes "move"))

abbrev pub logging_line : App
logging_line = with_subcommand (with_subcommand moving_line (bare (codes "trace"))) (bare (codes "verify"))

abbrev pub system_app : App
system_app = with_rule (new_app (codes "poly")) (option_named (codes "seed"))

abbrev pub system : Shape
system = system_app.top

abbrev pub system_line : App
system_line = with_subcommand logging_line system

abbrev pub top : App
top = with_subcommand (with_subcommand system_line (searching (codes "list"))) (searching (codes "sum"))
