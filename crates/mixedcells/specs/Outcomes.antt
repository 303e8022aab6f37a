-- The status and the line of each outcome.
use Rattle.std.specs.Prelude.{◌≡◌, ℕ, List, [], ◌++◌, Option, None, Some, codes, decimal, flat_map}
use Rattle.std.specs.Fmt.{signed_decimal}
use Rattle.wide_int.specs.Fractions.{Fraction, IsFraction, IsLowest}
use Rattle.lex_height.specs.Entries.{entry}
use Rattle.cayley.specs.Cells.{Cell}
use Rattle.cayley.specs.declared.found.Place.{Place}
use Rattle.cayley.specs.declared.found.TieProof.{TieProof}
use Rattle.mixedcells.specs.declared.outcome.Outcome.{Outcome}
use Rattle.mixedcells.specs.declared.outcome.Outcome.TheVariants.{Ok, No, Usage, Format, Tie, OverflowCell, OverflowLine, ReadFault, WriteFault, OutOfMemory, TooLong, TooMany, NeedsTeam}

-- the exit status of an outcome
abbrev pub status_of : Outcome → ℕ
status_of Ok = 0
status_of (No line reason) = 1
status_of Usage = 2
status_of (Format line kind) = 3
status_of (Tie proof) = 4
status_of (OverflowCell cell) = 5
status_of (OverflowLine line) = 5
status_of ReadFault = 6
status_of WriteFault = 7
status_of OutOfMemory = 8
status_of TooLong = 9
status_of (TooMany choices) = 10
status_of NeedsTeam = 11

-- the positions of a cell's pairs, each behind a blank
abbrev pub positions : Cell → List ℕ
positions cell = flat_map (λ x. (codes " " ++ decimal x.0) ++ (codes " " ++ decimal x.1)) cell

abbrev pub usage_line : List ℕ
usage_line = codes "usage\n"

abbrev pub too_long_line : List ℕ
too_long_line = codes "too long\n"

abbrev pub yes_line : List ℕ
yes_line = codes "yes\n"

abbrev pub tie_free_line : List ℕ
tie_free_line = codes "tie free\n"

abbrev pub format_line : ℕ → ℕ → List ℕ
format_line line kind = codes "format: line " ++ (decimal line ++ (codes " kind " ++ (decimal kind ++ codes "\n")))

abbrev pub no_line : ℕ → ℕ → List ℕ
no_line line reason = codes "no: line " ++ (decimal line ++ (codes " reason " ++ (decimal reason ++ codes "\n")))

abbrev pub overflow_line : ℕ → List ℕ
overflow_line line = codes "overflow: line " ++ (decimal line ++ codes "\n")

abbrev pub too_many_line : ℕ → List ℕ
too_many_line choices = codes "too many: " ++ (decimal choices ++ codes "\n")

abbrev pub overflow_cell : Cell → List ℕ
overflow_cell cell = codes "overflow: cell" ++ (positions cell ++ codes "\n")

-- how many mixed cells and how many cells of the path tree there are
abbrev pub sum_lines : ℕ → ℕ → List ℕ
sum_lines cells tree = codes "cells " ++ (decimal cells ++ (codes "\ntree " ++ (decimal tree ++ codes "\n")))

-- support and position of a point, each behind a blank
abbrev pub spot_words : Place → List ℕ
spot_words place = codes " " ++ (decimal place.support ++ (codes " " ++ decimal place.position))

-- the same of a second point, if there is one
abbrev pub second_words : Option Place → List ℕ
second_words None = []
second_words (Some place) = spot_words place

-- a time in lowest terms
abbrev pub time_words : Fraction → List ℕ
time_words time = codes " at " ++ (signed_decimal time.num ++ (codes " / " ++ signed_decimal time.den))

-- a tie at this time
abbrev pub tie_at : Fraction → TieProof → List ℕ
tie_at time proof = codes "tie: cell" ++ (positions proof.cell ++ (time_words time ++ (codes " points" ++ (spot_words proof.first ++ (second_words proof.second ++ codes "\n")))))

-- the line of a tie, whose time is told by its rational part in lowest terms
abbrev pub IsTieLine : TieProof → List ℕ → Type 0
IsTieLine proof text = (time : Fraction) × IsFraction time (entry proof.time.parts 0) proof.time.den × IsLowest time × (text ≡ tie_at time proof)
