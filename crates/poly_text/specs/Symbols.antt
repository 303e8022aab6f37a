-- The symbols of a polynomial's line.
use Rattle.std.specs.Prelude.{ℕ, suc, zero, ◌+◌, ◌==◌, ◌≡◌, ℤ, pos, Bool, true, false, not, List, [], ◌∷◌, ◌++◌, length, drop, take, Option, Some, None, Result, Ok, Err, if◌then◌else◌}
use Rattle.std.specs.List.{position_or_len}
use Rattle.std.specs.Char.{is_ascii_digit}
use Rattle.line_text.specs.declared.numbers.BadNumber.{BadNumber}
use Rattle.line_text.specs.Numbers.{number_in}
use Rattle.support_text.specs.Faults.{Reading}
use Rattle.poly_text.specs.declared.fault.Kind.TheVariants.{Grammar}
use Rattle.poly_text.specs.Faults.{fault}
use Rattle.poly_text.specs.declared.symbols.Symbol.{Symbol}
use Rattle.poly_text.specs.declared.symbols.Symbol.TheVariants.{Digits, Variable, Sign, Times, Power, Open, Close}

abbrev pub found : Result ℤ BadNumber → Option ℤ
found (Ok z) = Some z
found (Err e) = None

-- the value of digits, none where it is above 2^127 - 1
unfoldable pub value_of_digits : List ℕ → Option ℤ
value_of_digits digits = found (number_in (pos 0) (pos 170141183460469231731687303715884105727) digits)

-- no digit goes on over this byte
abbrev pub ends_digits : ℕ → Bool
ends_digits b = not (is_ascii_digit b)

-- how many digits the bytes begin with
unfoldable pub digit_count : List ℕ → ℕ
digit_count bytes = position_or_len ends_digits bytes

-- the symbols of one byte: `+`, `-`, `*`, `^`, `(`, `)`
unfoldable pub mark : ℕ → Option Symbol
mark b =
    if b == 43 then Some (Sign false)
    else if b == 45 then Some (Sign true)
    else if b == 42 then Some Times
    else if b == 94 then Some Power
    else if b == 40 then Some Open
    else if b == 41 then Some Close
    else None

-- a mark and its length
abbrev pub one_byte : Option Symbol → Option (Symbol × ℕ)
one_byte (Some s) = Some (s, 1)
one_byte None = None

-- digits, `x` with digits directly behind it, or a mark: the symbol that the bytes begin with, and its length
unfoldable pub first_symbol : List ℕ → Option (Symbol × ℕ)
first_symbol [] = None
first_symbol (b ∷ bs) =
    if is_ascii_digit b then Some (Digits (value_of_digits (take (digit_count (b ∷ bs)) (b ∷ bs))), digit_count (b ∷ bs))
    else if b == 120 then (if digit_count bs == 0 then None else Some (Variable (value_of_digits (take (digit_count bs) bs)), digit_count bs + 1))
    else one_byte (mark b)

-- one symbol before others, and two lists of symbols
abbrev pub followed : Symbol → Option (List Symbol) → Option (List Symbol)
followed s (Some ss) = Some (s ∷ ss)
followed s None = None

abbrev pub joined : Option (List Symbol) → Option (List Symbol) → Option (List Symbol)
joined (Some ss) (Some ts) = Some (ss ++ ts)
joined (Some ss) None = None
joined None o = None

-- the symbols of bytes, at most so many, each as long as it can be; none where a byte is part of no symbol
abbrev pub behind : (List ℕ → Option (List Symbol)) → List ℕ → Option (Symbol × ℕ) → Option (List Symbol)
behind others bytes None = None
behind others bytes (Some p) = followed p.0 (others (drop p.1 bytes))

unfoldable pub symbols_from : ℕ → List ℕ → Option (List Symbol)
symbols_from most [] = Some []
symbols_from zero (b ∷ bs) = None
symbols_from (suc most) (b ∷ bs) = behind (symbols_from most) (b ∷ bs) (first_symbol (b ∷ bs))

-- the symbols of a word
unfoldable pub symbols_of_word : List ℕ → Option (List Symbol)
symbols_of_word word = symbols_from (length word) word

-- the symbols of words; no symbol goes on over a blank
unfoldable pub symbols_of : List (List ℕ) → Option (List Symbol)
symbols_of [] = Some []
symbols_of (w ∷ ws) = joined (symbols_of_word w) (symbols_of ws)

-- the symbols of a line
abbrev pub symbols_in : ℕ → Option (List Symbol) → Reading (List Symbol)
symbols_in line None = Err (fault line Grammar)
symbols_in line (Some symbols) = Ok symbols

-- where the answer is yes, the symbols were put behind those before, and else there are none
abbrev pub Appends : Bool → List Symbol → List Symbol → Option (List Symbol) → Type 0
Appends done before after None = done ≡ false
Appends done before after (Some ss) = (done ≡ true) × (after ≡ before ++ ss)
