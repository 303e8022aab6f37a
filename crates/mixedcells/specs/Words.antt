-- The meaning of the words after the program's name.
use Rattle.std.specs.Prelude.{◌≡◌, ◌⊎◌, ◌==◌, ◌&&◌, ◌||◌, ◌+◌, ◌^◌, ℕ, suc, Bool, true, false, not, List, [], ◌∷◌, ◌++◌, length, take, drop, codes, Option, Some, None, is_some, option_map, option_and_then, nat_le, slice_index_or, IsTrue, if◌then◌else◌}
use Rattle.std.specs.Char.{is_ascii_digit}
use Rattle.std.specs.List.{list_all}
use Rattle.std.specs.Str.{bytes_eq}
use Rattle.std.specs.Str.Parse.{digits_value}
use Rattle.clap.specs.Walk.{Text}
use Rattle.mixedcells.specs.Reading.{Read}
use Rattle.mixedcells.specs.declared.words.meaning.Family.{Family}
use Rattle.mixedcells.specs.declared.words.meaning.Family.TheVariants as family
use Rattle.mixedcells.specs.declared.words.meaning.Meaning.{Meaning}
use Rattle.mixedcells.specs.declared.words.meaning.Meaning.TheVariants as meaning
use Rattle.mixedcells.specs.declared.words.Command.{Command}
use Rattle.mixedcells.specs.declared.words.Command.TheVariants as verb

-- ---- numbers

-- 1 to 20 digits, without a sign
abbrev pub is_number : Text → Bool
is_number t = nat_le 1 (length t) && (nat_le (length t) 20 && list_all is_ascii_digit t)

-- the number that a word is, from low to high
abbrev pub number : ℕ → ℕ → Text → Option ℕ
number low high t =
    if is_number t && (nat_le low (digits_value 10 t) && nat_le (digits_value 10 t) high)
    then Some (digits_value 10 t) else None

abbrev pub searchers_in : Text → Option ℕ
searchers_in = number 1 64

abbrev pub seed_in : Text → Option ℕ
seed_in = number 0 18446744073709551615

-- ---- options

-- what follows the prefix
abbrev pub after : Text → Text → Option Text
after [] w = Some w
after (p ∷ ps) [] = None
after (p ∷ ps) (b ∷ bs) = if p == b then after ps bs else None

-- ---- `list` and `sum`

-- how many searchers the words after `list` or `sum` ask for
abbrev pub searchers : List Text → Option ℕ
searchers [] = Some 1
searchers (w ∷ []) = option_and_then searchers_in (after (codes "--searchers=") w)
searchers (w ∷ v ∷ []) = if bytes_eq w (codes "--searchers") then searchers_in v else None
searchers (_ ∷ _ ∷ _ ∷ _) = None

-- ---- `poly`

-- the seed that the words after `poly` ask for
abbrev pub system_seed : List Text → Option ℕ
system_seed [] = Some 1
system_seed (w ∷ []) = option_and_then seed_in (after (codes "--seed=") w)
system_seed (w ∷ v ∷ []) = if bytes_eq w (codes "--seed") then seed_in v else None
system_seed (_ ∷ _ ∷ _ ∷ _) = None

-- ---- `make`

abbrev pub cyclic : Text → Option Family
cyclic n = option_map family.Cyclic (number 2 16 n)

abbrev pub scatter_of : ℕ → ℕ → ℕ → Option Family
scatter_of n m side = if nat_le m ((side + 1) ^ n) then Some (family.Scatter n m side) else None

abbrev pub scatter : Text → Text → Text → Option Family
scatter n m side = option_and_then (λ a. option_and_then (λ b. option_and_then (scatter_of a b)
    (number 0 1000000 side)) (number 1 1000 m)) (number 1 16 n)

abbrev pub cyclic_named : Text → Text → Option Family
cyclic_named name n = if bytes_eq name (codes "cyclic") then cyclic n else None

abbrev pub scatter_named : Text → Text → Text → Text → Option Family
scatter_named name n m side = if bytes_eq name (codes "scatter") then scatter n m side else None

-- the family that the positional words name
abbrev pub family_of : List Text → Option Family
family_of (name ∷ n ∷ []) = cyclic_named name n
family_of (name ∷ n ∷ m ∷ side ∷ []) = scatter_named name n m side
family_of _ = None

-- the seed that the values of the option name
abbrev pub seed_of : List Text → Option ℕ
seed_of [] = Some 1
seed_of (v ∷ []) = seed_in v
seed_of _ = None

-- the family that the positional words name, and the seed that the values of the option do
abbrev pub making : List Text → List Text → Option Meaning
making positional seeds =
    option_and_then (λ f. option_map (meaning.Make f) (seed_of seeds)) (family_of positional)

-- the word is the option, or the option joined with its value
abbrev pub is_seed : Text → Bool
is_seed w = bytes_eq w (codes "--seed") || is_some (after (codes "--seed=") w)

-- how many words stand before the option, or how many there are without it
abbrev pub seed_place : List Text → ℕ
seed_place [] = 0
seed_place (w ∷ ws) = if is_seed w then 0 else suc (seed_place ws)

-- the option's value is the next word; all words but these two are positional
abbrev pub made_by_two : List Text → List Text → Option Meaning
made_by_two front [] = None
made_by_two front (v ∷ rest) = making (front ++ rest) (v ∷ [])

-- the words before the option, and those from it on
abbrev pub made_of : List Text → List Text → Option Meaning
made_of front [] = making front []
made_of front (w ∷ rest) = if bytes_eq w (codes "--seed") then made_by_two front rest
    else option_and_then (λ v. making (front ++ rest) (v ∷ [])) (after (codes "--seed=") w)

-- what the words after `make` ask for
abbrev pub made : List Text → Option Meaning
made ws = made_of (take (seed_place ws) ws) (drop (seed_place ws) ws)

-- the word at a place
abbrev pub word_at : List Text → ℕ → Text
word_at ws k = slice_index_or ws k []

-- ---- all words

abbrev pub alone : Meaning → List Text → Option Meaning
alone m [] = Some m
alone m (w ∷ ws) = None

abbrev pub meaning_after : Text → List Text → Option Meaning
meaning_after w ws =
    if bytes_eq w (codes "plain") then alone meaning.Plain ws
    else if bytes_eq w (codes "check") then alone meaning.Check ws
    else if bytes_eq w (codes "powers") then alone meaning.Powers ws
    else if bytes_eq w (codes "generic") then alone meaning.Generic ws
    else if bytes_eq w (codes "move") then alone meaning.Move ws
    else if bytes_eq w (codes "trace") then alone meaning.Trace ws
    else if bytes_eq w (codes "verify") then alone meaning.Verify ws
    else if bytes_eq w (codes "poly") then option_map meaning.Poly (system_seed ws)
    else if bytes_eq w (codes "list") then option_map meaning.List (searchers ws)
    else if bytes_eq w (codes "sum") then option_map meaning.Sum (searchers ws)
    else if bytes_eq w (codes "make") then made ws
    else None

-- the meaning of the words after the program's name
abbrev pub meaning_of : List Text → Option Meaning
meaning_of [] = None
meaning_of (w ∷ ws) = meaning_after w ws

-- ---- the commands that there are

-- the command that is built for a meaning
abbrev pub built : Meaning → Option Command
built meaning.Plain = Some verb.Plain
built (meaning.List searchers) = Some (verb.List searchers)
built (meaning.Sum searchers) = Some (verb.Sum searchers)
built meaning.Check = Some verb.Check
built meaning.Generic = Some verb.Generic
built meaning.Move = Some verb.Move
built meaning.Trace = Some verb.Trace
built meaning.Verify = Some verb.Verify
built meaning.Powers = Some verb.Powers
built (meaning.Poly seed) = Some (verb.Poly seed)
built (meaning.Make family seed) = Some (verb.Make family seed)

abbrev pub command_for : List Text → Option Command
command_for words = option_and_then built (meaning_of words)

-- the words ask for this command
abbrev pub Means : List Text → Command → Type 0
Means words command = command_for words ≡ Some command

abbrev pub HasMeaning : List Text → Type 0
HasMeaning words = (command : Command) × Means words command

-- whether a command is for more than one searcher
abbrev pub needs_team : Command → Bool
needs_team verb.Plain = false
needs_team (verb.List searchers) = nat_le 2 searchers
needs_team (verb.Sum searchers) = nat_le 2 searchers
needs_team verb.Check = false
needs_team verb.Generic = false
needs_team verb.Move = false
needs_team verb.Trace = false
needs_team verb.Verify = false
needs_team verb.Powers = false
needs_team (verb.Poly seed) = false
needs_team (verb.Make family seed) = false

-- whether a command reads its input; for more than one searcher nothing is read
abbrev pub reads : Command → Bool
reads verb.Plain = true
reads (verb.List searchers) = not (nat_le 2 searchers)
reads (verb.Sum searchers) = not (nat_le 2 searchers)
reads verb.Check = true
reads verb.Generic = true
reads verb.Move = true
reads verb.Trace = true
reads verb.Verify = true
reads verb.Powers = true
reads (verb.Poly seed) = true
reads (verb.Make family seed) = false

-- the words ask for more than one searcher
abbrev pub IsForTeam : List Text → Type 0
IsForTeam words = (command : Command) × Means words command × IsTrue (needs_team command)

-- the words ask one searcher to walk along a path
abbrev pub IsWalking : List Text → Type 0
IsWalking words = ((searchers : ℕ) × (nat_le 2 searchers ≡ false) × (Means words (verb.List searchers) ⊎ Means words (verb.Sum searchers))) ⊎ Means words verb.Trace

-- the words ask for a command that reads its input
abbrev pub IsReading : List Text → Type 0
IsReading words = (command : Command) × Means words command × IsTrue (reads command)

-- ---- the same, of what was read

abbrev pub searchers_read : Option Text → Option ℕ
searchers_read None = Some 1
searchers_read (Some v) = searchers_in v

abbrev pub seed_read : Option Text → Option ℕ
seed_read None = Some 1
seed_read (Some v) = seed_in v

abbrev pub family_read : Option Text → Option Text → Option Text → Option Text → Option Family
family_read (Some f) (Some n) None None = cyclic_named f n
family_read (Some f) (Some n) (Some m) (Some side) = scatter_named f n m side
family_read _ _ _ _ = None

abbrev pub meaning_read : Read → Option Meaning
meaning_read r =
    if bytes_eq r.name (codes "plain") then Some meaning.Plain
    else if bytes_eq r.name (codes "check") then Some meaning.Check
    else if bytes_eq r.name (codes "powers") then Some meaning.Powers
    else if bytes_eq r.name (codes "generic") then Some meaning.Generic
    else if bytes_eq r.name (codes "move") then Some meaning.Move
    else if bytes_eq r.name (codes "trace") then Some meaning.Trace
    else if bytes_eq r.name (codes "verify") then Some meaning.Verify
    else if bytes_eq r.name (codes "poly") then option_map meaning.Poly (seed_read r.seed)
    else if bytes_eq r.name (codes "list") then option_map meaning.List (searchers_read r.searchers)
    else if bytes_eq r.name (codes "sum") then option_map meaning.Sum (searchers_read r.searchers)
    else option_and_then (λ f. option_map (meaning.Make f) (seed_read r.seed)) (family_read r.family r.n r.m r.side)

abbrev pub meaning_found : Option Read → Option Meaning
meaning_found = option_and_then meaning_read
