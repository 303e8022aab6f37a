use Rattle.std.proofs.Common.{◌∙◌, ap, sym}
use Rattle.mixedcells.specs.Words.{meaning_found}
use Rattle.mixedcells.specs.Reading.{read}
use Rattle.clap.specs.Matches.{found_of}
use Rattle.clap.specs.Walk.{rows_of}
use Rattle.mixedcells.proofs.CommandLine.Words.{rows_are}
use Rattle.mixedcells.proofs.words.reading.meaning_in.Goals as goal

pub returns : goal.returns
returns c = c.meaning_below.ensures ∙ ap (λ o. meaning_found (read o)) (sym (rows_are c.args.found.now c.in_ok-name.name.now (rows_of (found_of c.in_ok-name.matches.now)) c.in_ok-name.ensures.name c.in_ok-name.ensures.rows))
