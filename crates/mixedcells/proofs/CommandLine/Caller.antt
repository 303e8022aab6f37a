-- What a caller of `clap` has of the law.
use Rattle.std.proofs.Common.{◌≡◌, List, Option, Some, ap, ◌∙◌, sym, true}
use Rattle.clap.specs.Walk.{Text, Row}
use Rattle.clap.specs.Takes.{takes}
use Rattle.clap.specs.Simple.{App, subcommand_of}
use Rattle.mixedcells.specs.declared.words.meaning.Meaning.{Meaning}
use Rattle.mixedcells.specs.CommandLine.{top}
use Rattle.mixedcells.specs.Reading.{read}
use Rattle.mixedcells.specs.Words.{meaning_of, meaning_found}
use Rattle.mixedcells.proofs.CommandLine.MakeLaw.{law}

pub found_is : (a : App) (ws : List Text) (o : Option (Text × List Row)) (m : Meaning) → a ≡ top → meaning_of ws ≡ Some m → o ≡ subcommand_of a ws → meaning_found (read o) ≡ meaning_of ws
found_is a ws o m same e rows = ap (λ r. meaning_found (read r)) (rows ∙ ap (λ b. subcommand_of b ws) same) ∙ (law ws m e).1 ∙ sym e

pub taken : (a : App) (ws : List Text) (m : Meaning) → a ≡ top → meaning_of ws ≡ Some m → takes a ws ≡ true
taken a ws m same e = ap (λ b. takes b ws) same ∙ (law ws m e).0
