-- How a polynomial is read, symbol by symbol, with what is open in a list.
use Rattle.std.specs.Prelude.{ℕ, ℤ, pos, Bool, true, false, List, [], ◌∷◌, length, Option, Some, None, Ok, if◌then◌else◌}
use Rattle.poly_text.specs.declared.symbols.Symbol.{Symbol}
use Rattle.poly_text.specs.declared.symbols.Symbol.TheVariants.{Digits, Variable, Sign, Times, Power, Open, Close}
use Rattle.poly_text.specs.declared.reading.Place.{Place}
use Rattle.poly_text.specs.declared.reading.Place.TheVariants.{Start, Operator, Atom, Power as Caret, Negative, Raised}
use Rattle.poly_text.specs.declared.reading.Part.{Part}
use Rattle.poly_text.specs.declared.reading.Base.{Base}
use Rattle.poly_text.specs.declared.reading.Base.TheVariants.{Named, Valued}
use Rattle.poly_text.specs.Maps.{Monomial, constant}
use Rattle.poly_text.specs.Bounds.{Verdict, added, multiplied}
use Rattle.poly_text.specs.Trees.{both, number, exponent, base_power, base_value, within}

-- the polynomials around, the innermost first, the one that is open, what comes next, and the last atom
pub record State : Type 0 where
  pub outer : List Part
  pub part : Part
  pub place : Place
  pub base : Base

abbrev pub new_part : ℕ → Part
new_part n = record { sum = Ok []; minus = false; product = Ok (constant n (pos 1)) }

abbrev pub awaits_factor : Place → Bool
awaits_factor Start = true
awaits_factor Operator = true
awaits_factor Atom = false
awaits_factor Caret = false
awaits_factor Negative = false
awaits_factor Raised = false

abbrev pub ends_factor : Place → Bool
ends_factor Start = false
ends_factor Operator = false
ends_factor Atom = true
ends_factor Caret = false
ends_factor Negative = false
ends_factor Raised = true

abbrev pub begun : ℕ → State
begun n = record { outer = []; part = new_part n; place = Start; base = Named None }

abbrev pub with_atom : State → Base → Option State
with_atom s b = if awaits_factor s.place then Some (record { outer = s.outer; part = s.part; place = Atom; base = b }) else None

abbrev pub with_exponent : ℕ → State → Option ℤ → Option State
with_exponent n s k = Some (record { outer = s.outer; part = s.part; place = Raised; base = Valued (base_power n s.base k) })

abbrev pub with_digits : ℕ → Place → State → Option ℤ → Option State
with_digits n Start s z = with_atom s (Valued (number n z))
with_digits n Operator s z = with_atom s (Valued (number n z))
with_digits n Atom s z = with_atom s (Valued (number n z))
with_digits n Caret s z = with_exponent n s (exponent false z)
with_digits n Negative s z = with_exponent n s (exponent true z)
with_digits n Raised s z = with_atom s (Valued (number n z))

-- the product of the factors of the open term
abbrev pub term_of : ℕ → Part → Base → Verdict (List Monomial)
term_of n p b = both multiplied p.product (base_value n b)

-- the sum with the open term
abbrev pub closed : ℕ → Part → Base → Verdict (List Monomial)
closed n p b = both (added p.minus) p.sum (term_of n p b)

abbrev pub operator : List Part → Part → State
operator outer p = record { outer = outer; part = p; place = Operator; base = Named None }

abbrev pub next_term : ℕ → State → Bool → Option State
next_term n s minus = Some (operator s.outer (record { sum = closed n s.part s.base; minus = minus; product = Ok (constant n (pos 1)) }))

abbrev pub with_sign : ℕ → Place → State → Bool → Option State
with_sign n Start s minus = Some (record { outer = s.outer; part = record { sum = s.part.sum; minus = minus; product = s.part.product }; place = Operator; base = s.base })
with_sign n Operator s minus = None
with_sign n Atom s minus = next_term n s minus
with_sign n Caret s minus = if minus then Some (record { outer = s.outer; part = s.part; place = Negative; base = s.base }) else None
with_sign n Negative s minus = None
with_sign n Raised s minus = next_term n s minus

abbrev pub with_times : ℕ → State → Option State
with_times n s = if ends_factor s.place then Some (operator s.outer (record { sum = s.part.sum; minus = s.part.minus; product = term_of n s.part s.base })) else None

abbrev pub with_power : Place → State → Option State
with_power Start s = None
with_power Operator s = None
with_power Atom s = Some (record { outer = s.outer; part = s.part; place = Caret; base = s.base })
with_power Caret s = None
with_power Negative s = None
with_power Raised s = None

abbrev pub with_open : ℕ → State → Option State
with_open n s = if awaits_factor s.place then Some (record { outer = s.part ∷ s.outer; part = new_part n; place = Start; base = Named None }) else None

abbrev pub back_in : ℕ → State → List Part → Option State
back_in n s [] = None
back_in n s (p ∷ ps) = Some (record { outer = ps; part = p; place = Atom; base = Valued (within (length (p ∷ ps)) (closed n s.part s.base)) })

abbrev pub with_close : ℕ → State → Option State
with_close n s = if ends_factor s.place then back_in n s s.outer else None

-- one symbol more; none where the grammar has none such here
unfoldable pub step : ℕ → State → Symbol → Option State
step n s (Digits z) = with_digits n s.place s z
step n s (Variable i) = with_atom s (Named i)
step n s (Sign minus) = with_sign n s.place s minus
step n s Times = with_times n s
step n s Power = with_power s.place s
step n s Open = with_open n s
step n s Close = with_close n s

abbrev pub whole : ℕ → State → List Part → Option (Verdict (List Monomial))
whole n s [] = Some (closed n s.part s.base)
whole n s (p ∷ ps) = None

-- the value at the end of a line
unfoldable pub ended : ℕ → State → Option (Verdict (List Monomial))
ended n s = if ends_factor s.place then whole n s s.outer else None

abbrev pub then_read : {A : Type 0} → (State → Option A) → Option State → Option A
then_read f None = None
then_read f (Some s) = f s

-- what the symbols mean behind what was read
unfoldable pub read_from : ℕ → List Symbol → State → Option (Verdict (List Monomial))
read_from n [] s = ended n s
read_from n (x ∷ xs) s = then_read (read_from n xs) (step n s x)
