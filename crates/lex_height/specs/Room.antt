-- A list of parts in an array.
use Rattle.std.specs.Prelude.{◌≡◌, ℕ, ◌-◌, ◌≤◌, List, ◌++◌, length, take, replicate, pos}
use Rattle.lex_height.specs.declared.part.TheConstants.{PARTS}
use Rattle.lex_height.specs.declared.part.LexPart.{LexPart}

-- what stands where there is no part
abbrev pub blank : LexPart
blank = record { rank = 0; num = pos 0 }

-- the parts, and blanks up to the array's end
abbrev pub filled : List LexPart → List LexPart
filled parts = parts ++ replicate (PARTS - length parts) blank

-- so many parts stand first, and blanks behind them
pub record IsFilled (n : ℕ) (all : List LexPart) : Type 0 where
  pub room : n ≤ PARTS
  pub count : length (take n all) ≡ n
  pub rest : all ≡ filled (take n all)
