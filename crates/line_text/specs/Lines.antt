-- The lines of a source, each with its number and its tokens.
use Rattle.std.specs.Prelude.{◌≡◌, ◌+◌, ◌<◌, ◌≤◌, ◌++◌, ℕ, List, [], ◌∷◌, length, take, drop, if◌then◌else◌}
use Rattle.line_text.specs.Tokens.{Word, is_line_feed, content, tokens}

-- b stands before the first line
abbrev pub onto_first : ℕ → List (List ℕ) → List (List ℕ)
onto_first b [] = (b ∷ []) ∷ []
onto_first b (l ∷ ls) = (b ∷ l) ∷ ls

-- the lines' bytes: a line ends at a line feed, the last one also at the end of the source if bytes follow
unfoldable pub split : List ℕ → List (List ℕ)
split [] = []
split (b ∷ bs) = if is_line_feed b then [] ∷ split bs else onto_first b (split bs)

-- a line that has tokens: its number, from 1, and its tokens
pub record Row : Type 0 where
  pub number : ℕ
  pub tokens : List Word

-- a line without tokens is left out
abbrev pub with_row : ℕ → List Word → List Row → List Row
with_row number [] rows = rows
with_row number (w ∷ ws) rows = record { number = number; tokens = w ∷ ws } ∷ rows

-- the rows of lines of which the first has this place and this number
unfoldable pub rows_from : ℕ → ℕ → List (List ℕ) → List Row
rows_from place number [] = []
rows_from place number (l ∷ ls) = with_row number (tokens place (content l)) (rows_from (place + length l + 1) (number + 1) ls)

-- the lines of a source that have tokens
unfoldable pub lines_of : List ℕ → List Row
lines_of bytes = rows_from 0 1 (split bytes)

-- the number of lines, plus 1
unfoldable pub end_line_of : List ℕ → ℕ
end_line_of bytes = length (split bytes) + 1

-- what a reader of lines has left: the lines that have tokens, and the number that the end of input has
pub record Unread : Type 0 where
  pub rows : List Row
  pub end_line : ℕ

-- the tokens of all rows
abbrev pub all_tokens : List Row → List Word
all_tokens [] = []
all_tokens (r ∷ rs) = r.tokens ++ all_tokens rs

-- the token isn't empty and is the slice of the source that starts at its place
pub record IsSlice (source : List ℕ) (w : Word) : Type 0 where
  pub some : 0 < length w.text
  pub within : w.start + length w.text ≤ length source
  pub same : take (length w.text) (drop w.start source) ≡ w.text

-- the tokens are slices of the source, one after the other from a place on
abbrev pub StandInOrder : List ℕ → ℕ → List Word → Type 0
StandInOrder source place [] = Unit {0}
StandInOrder source place (w ∷ ws) = (place ≤ w.start) × IsSlice source w × StandInOrder source (w.start + length w.text) ws
