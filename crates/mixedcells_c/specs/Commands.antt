-- The words of a command.
use Rattle.std.specs.Prelude.{◌==◌, ℕ, List, [], if◌then◌else◌}
use Rattle.std.specs.List.{slice_split}
use Rattle.std.specs.Str.{is_utf8}

-- what stands between the blanks; bytes that aren't UTF-8 hold no word
abbrev pub words_in : List ℕ → List (List ℕ)
words_in command = if is_utf8 command then slice_split (λ b. b == 32) command else []
