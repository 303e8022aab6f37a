-- Numbers as tokens.
use Rattle.std.specs.Prelude.{◌≡◌, ◌&&◌, ◌≤◌, ◌⊎◌, ℕ, ℤ, Bool, List, length, nat_lt, int_le, if◌then◌else◌, Result, Ok, Err}
use Rattle.std.specs.Char.{is_ascii_digit}
use Rattle.std.specs.List.{list_all}
use Rattle.std.specs.Str.Parse.{without_leading_sign, signed_digits_value}
use Rattle.line_text.specs.declared.numbers.BadNumber.{BadNumber}
use Rattle.line_text.specs.declared.numbers.BadNumber.TheVariants.{Spelling, Outside}

-- one digit or more
abbrev pub are_digits : List ℕ → Bool
are_digits digits = nat_lt 0 (length digits) && list_all is_ascii_digit digits

-- an optional sign and one digit or more
unfoldable pub is_number : List ℕ → Bool
is_number text = are_digits (without_leading_sign text)

-- the number that a sign and digits write
unfoldable pub value_of : List ℕ → ℤ
value_of text = signed_digits_value 10 text

-- what `read_int` answers
unfoldable pub number_in : ℤ → ℤ → List ℕ → Result ℤ BadNumber
number_in min max text =
    if is_number text then (if int_le min (value_of text) && int_le (value_of text) max then Ok (value_of text) else Err Outside)
    else Err Spelling

-- a digit or `-`: no written number has another byte
abbrev pub IsNumberByte : ℕ → Type 0
IsNumberByte b = ((48 ≤ b) × (b ≤ 57)) ⊎ (b ≡ 45)
