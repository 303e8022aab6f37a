-- The words of a line, read from left to right, and the next line with words.
use Rattle.std.specs.Prelude.{ℕ, List, [], ◌∷◌, ◌++◌, map, ℤ, bytes_eq, flat_map, Result, Ok, Err, if◌then◌else◌}
use Rattle.std.specs.List.{join_with_byte}
use Rattle.line_text.specs.declared.numbers.BadNumber.{BadNumber}
use Rattle.line_text.specs.declared.numbers.BadNumber.TheVariants.{Spelling, Outside}
use Rattle.line_text.specs.Numbers.{number_in}
use Rattle.line_text.specs.Lines.{Row}
use Rattle.support_text.specs.declared.fault.Kind.{Kind}
use Rattle.support_text.specs.declared.fault.Kind.TheVariants.{Missing}
use Rattle.support_text.specs.Faults.{Reading, ◌>>=◌, fault}

abbrev pub Text : Type 0
Text = List ℕ

-- the texts of a line's tokens
abbrev pub words : Row → List Text
words row = map (λ t. t.text) row.tokens

-- the first word is this one
unfoldable pub word : Text → Kind → ℕ → List Text → Reading (List Text)
word text kind line [] = Err (fault line kind)
word text kind line (w ∷ ws) = if bytes_eq w text then Ok ws else Err (fault line kind)

-- a number, or the fault of its spelling or of its size
abbrev pub judged : Kind → Kind → ℕ → List Text → Result ℤ BadNumber → Reading (ℤ × List Text)
judged wrong outside line ws (Ok z) = Ok (z, ws)
judged wrong outside line ws (Err Spelling) = Err (fault line wrong)
judged wrong outside line ws (Err Outside) = Err (fault line outside)

-- the first word is a number from low to high; otherwise it is missing or spelled wrongly, or it is outside
unfoldable pub number : ℤ → ℤ → Kind → Kind → ℕ → List Text → Reading (ℤ × List Text)
number low high wrong outside line [] = Err (fault line wrong)
number low high wrong outside line (w ∷ ws) = judged wrong outside line ws (number_in low high w)

-- no word is left
unfoldable pub nothing_more : Kind → ℕ → List Text → Reading (Unit {0})
nothing_more kind line [] = Ok tt
nothing_more kind line (w ∷ ws) = Err (fault line kind)

-- the next line that has words, read by its number and its words; where there is none, the line past the last one is missing
unfoldable pub next_line : {A : Type 0} → (ℕ → List Text → Reading A) → ℕ → List Row → Reading (A × List Row)
next_line read end [] = Err (fault end Missing)
next_line read end (row ∷ rows) = do
  x ← read row.number (words row)
  Ok (x, rows)

-- lines are written with one space between two words and LF behind the last
abbrev pub text_of : List (List Text) → List ℕ
text_of lines = flat_map (λ ws. join_with_byte 32 ws ++ 10 ∷ []) lines
