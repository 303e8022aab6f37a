-- The tokens of a line, each with the place in the source at which it starts.
use Rattle.std.specs.Prelude.{◌==◌, ◌||◌, ◌&&◌, ◌+◌, ℕ, Bool, false, not, List, [], ◌∷◌, if◌then◌else◌}
use Rattle.std.specs.List.{before_first}
use Rattle.std.specs.Str.Lines.{strip_carriage_return}

abbrev pub is_line_feed : ℕ → Bool
is_line_feed b = b == 10

-- space and tab
abbrev pub is_blank : ℕ → Bool
is_blank b = (b == 32) || (b == 9)

-- `:` and `/` are tokens by themselves
abbrev pub is_mark : ℕ → Bool
is_mark b = (b == 58) || (b == 47)

-- `#` begins a comment
abbrev pub is_comment : ℕ → Bool
is_comment b = b == 35

-- no other token goes on over a blank or a mark
abbrev pub ends_token : ℕ → Bool
ends_token b = is_blank b || is_mark b

-- where a token starts in the source, from 0, and its bytes
pub record Word : Type 0 where
  pub start : ℕ
  pub text : List ℕ

abbrev pub token : ℕ → List ℕ → Word
token start text = record { start = start; text = text }

-- a line's text without the one carriage return at its end, if it has one
abbrev pub without_return : List ℕ → List ℕ
without_return text = strip_carriage_return text

-- a line's text without a carriage return at its end and without its comment
unfoldable pub content : List ℕ → List ℕ
content text = before_first is_comment (without_return text)

-- the token that the bytes begin with goes on
abbrev pub goes_on : List ℕ → Bool
goes_on [] = false
goes_on (b ∷ bs) = not (ends_token b)

-- the first token begins one byte earlier, with b
abbrev pub widened : ℕ → ℕ → List Word → List Word
widened start b [] = []
widened start b (w ∷ ws) = token start (b ∷ w.text) ∷ ws

abbrev pub begins_blank : List ℕ → Bool
begins_blank [] = false
begins_blank (b ∷ bs) = is_blank b

-- the tokens of the bytes that stand at a place of the source
unfoldable pub tokens : ℕ → List ℕ → List Word
tokens place [] = []
tokens place (b ∷ bs) =
    if is_blank b then tokens (place + 1) bs
    else if not (is_mark b) && goes_on bs then widened place b (tokens (place + 1) bs)
    else token place (b ∷ []) ∷ tokens (place + 1) bs
