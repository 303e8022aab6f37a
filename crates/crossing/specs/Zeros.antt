-- The zero of a line of one way by its parts; no public clause cites these.
use Rattle.std.specs.Prelude.{ℤ, pos, negsuc, zero, suc, neg_ℤ, List, [], ◌∷◌, ◌++◌, map}
use Rattle.lex_height.specs.declared.part.LexPart.{LexPart}
use Rattle.crossing.specs.declared.line.WallLine.{WallLine}
use Rattle.crossing.specs.declared.leaders.Way.{Way}
use Rattle.crossing.specs.declared.leaders.Way.TheVariants.{Falling, Rising}

-- the number, or its negative where lines rise
abbrev pub turned_by : Way → ℤ → ℤ
turned_by Falling x = x
turned_by Rising x = neg_ℤ x

abbrev pub turned_part : Way → LexPart → LexPart
turned_part way part = record { rank = part.rank; num = turned_by way part.num }

-- the part of rank 0, where it isn't zero
abbrev pub first_part : ℤ → List LexPart
first_part (pos zero) = []
first_part (pos (suc n)) = record { rank = 0; num = pos (suc n) } ∷ []
first_part (negsuc n) = record { rank = 0; num = negsuc n } ∷ []

-- the parts of the zero over the steepness
abbrev pub zero_numbers : Way → WallLine → List LexPart
zero_numbers way line = map (turned_part way) (first_part line.alpha ++ line.fine)
