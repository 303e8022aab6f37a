-- What is asked of several searchers.
use Rattle.std.specs.Prelude.{◌⊎◌, ℕ, List, [], ◌∷◌, codes, nat_le, if◌then◌else◌, Option, Some}
use Rattle.clap.specs.Walk.{Text}
use Rattle.mixedcells.specs.declared.words.Command.{Command}
use Rattle.mixedcells.specs.declared.words.Command.TheVariants as verb
use Rattle.mixedcells.specs.Words.{Means, command_for}

-- a command for several searchers as one does it alone
abbrev pub by_one : Command → Command
by_one verb.Plain = verb.Plain
by_one (verb.List searchers) = verb.List 1
by_one (verb.Sum searchers) = verb.Sum 1
by_one verb.Check = verb.Check
by_one verb.Generic = verb.Generic
by_one verb.Move = verb.Move
by_one verb.Trace = verb.Trace
by_one verb.Verify = verb.Verify
by_one verb.Powers = verb.Powers
by_one (verb.Poly seed) = verb.Poly seed
by_one (verb.Make family seed) = verb.Make family seed

-- how many searchers a command is for
abbrev pub searchers_of : Command → ℕ
searchers_of verb.Plain = 1
searchers_of (verb.List searchers) = searchers
searchers_of (verb.Sum searchers) = searchers
searchers_of verb.Check = 1
searchers_of verb.Generic = 1
searchers_of verb.Move = 1
searchers_of verb.Trace = 1
searchers_of verb.Verify = 1
searchers_of verb.Powers = 1
searchers_of (verb.Poly seed) = 1
searchers_of (verb.Make family seed) = 1

-- the words for one searcher, where the command is for two or more
abbrev pub words_by_one : Option Command → List Text → List Text
words_by_one (Some (verb.List searchers)) words = if nat_le 2 searchers then codes "list" ∷ [] else words
words_by_one (Some (verb.Sum searchers)) words = if nat_le 2 searchers then codes "sum" ∷ [] else words
words_by_one _ words = words

-- the same words without the number of searchers, where it is two or more
abbrev pub for_one : List Text → List Text
for_one words = words_by_one (command_for words) words

-- the words ask for a walk along a path, by any number of searchers
abbrev pub IsJourney : List Text → Type 0
IsJourney words = ((searchers : ℕ) × (Means words (verb.List searchers) ⊎ Means words (verb.Sum searchers))) ⊎ Means words verb.Trace
