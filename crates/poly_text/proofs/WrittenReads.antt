-- What a polynomial writes is read as its meaning.
use Rattle.std.proofs.Common.{◌≡◌, ℕ, suc, ℤ, pos, Bool, true, false, List, [], ◌∷◌, ◌++◌, length, Option, Some, None, Ok, refl, sym, ap, ◌∙◌, append_assoc, append-nil}
use Rattle.poly_text.specs.declared.symbols.Symbol.{Symbol}
use Rattle.poly_text.specs.declared.symbols.Symbol.TheVariants.{Digits, Variable, Sign, Times, Power, Open, Close}
use Rattle.poly_text.specs.declared.reading.Part.{Part}
use Rattle.poly_text.specs.declared.reading.Place.{Place}
use Rattle.poly_text.specs.declared.reading.Place.TheVariants.{Start, Operator, Atom as Behind, Power as Caret, Negative, Raised}
use Rattle.poly_text.specs.declared.reading.Base.{Base}
use Rattle.poly_text.specs.declared.reading.Base.TheVariants.{Named, Valued}
use Rattle.poly_text.specs.Maps.{Monomial, constant}
use Rattle.poly_text.specs.Bounds.{Verdict, multiplied}
use Rattle.poly_text.specs.Trees.{Polynomial, Term, Factor, Atom, first, more, one_factor, product, plain, power, digits, variable, enclosed, written, written_term, written_factor, written_atom, written_minus, both, number, exponent, base_power, base_value, within, minus_of, meaning, meaning_term, meaning_factor, base}
use Rattle.poly_text.specs.Steps.{new_part, awaits_factor, begun, term_of, closed, step, ended, read_from}
use Rattle.poly_text.proofs.ReadWrites.{state}

abbrev open_part : Verdict (List Monomial) → Bool → Verdict (List Monomial) → Part
open_part sum minus f = record { sum = sum; minus = minus; product = f }

abbrev one : ℕ → Verdict (List Monomial)
one n = Ok (constant n (pos 1))

-- where a factor ends, and its last atom
abbrev place_of : Factor → Place
place_of (plain a) = Behind
place_of (power a minus z) = Raised

unfoldable base_of : ℕ → ℕ → Factor → Base
base_of n depth (plain a) = base n depth a
base_of n depth (power a minus z) = Valued (base_power n (base n depth a) (exponent minus z))

-- the product before the last factor, and that factor
unfoldable before_last : ℕ → ℕ → Term → Verdict (List Monomial)
before_last n depth (one_factor f) = one n
before_last n depth (product t f) = meaning_term n depth t

abbrev last_of : Term → Factor
last_of (one_factor f) = f
last_of (product t f) = f

-- the part that is open behind a polynomial, and its last factor
unfoldable part_of : ℕ → ℕ → Polynomial → Part
part_of n depth (first sign t) = open_part (Ok []) (minus_of sign) (before_last n depth t)
part_of n depth (more p minus t) = open_part (meaning n depth p) minus (before_last n depth t)

abbrev last_term : Polynomial → Term
last_term (first sign t) = t
last_term (more p minus t) = t

factor_value : (n depth : ℕ) (f : Factor) → base_value n (base_of n depth f) ≡ meaning_factor n depth f
unfolding base_of meaning
factor_value n depth (plain a) = refl
factor_value n depth (power a minus z) = refl

term_value : (n depth : ℕ) (t : Term) → both multiplied (before_last n depth t) (base_value n (base_of n depth (last_of t))) ≡ meaning_term n depth t
unfolding before_last meaning
term_value n depth (one_factor f) = rw (factor_value n depth f) refl
term_value n depth (product t f) = rw (factor_value n depth f) refl

whole_value : (n depth : ℕ) (p : Polynomial) → closed n (part_of n depth p) (base_of n depth (last_of (last_term p))) ≡ meaning n depth p
unfolding part_of meaning
whole_value n depth (first sign t) = rw (term_value n depth t) refl
whole_value n depth (more p minus t) = rw (term_value n depth t) refl

-- ---- one symbol

read_digits : (n : ℕ) (z : Option ℤ) (xs : List Symbol) (o : List Part) (p : Part) (place : Place) (b : Base) → awaits_factor place ≡ true
    → read_from n (Digits z ∷ xs) (state o p place b) ≡ read_from n xs (state o p Behind (Valued (number n z)))
unfolding read_from step
read_digits n z xs o p Start b h = refl
read_digits n z xs o p Operator b h = refl
read_digits n z xs o p Behind b h = absurd cc
read_digits n z xs o p Caret b h = absurd cc
read_digits n z xs o p Negative b h = absurd cc
read_digits n z xs o p Raised b h = absurd cc

read_variable : (n : ℕ) (i : Option ℤ) (xs : List Symbol) (o : List Part) (p : Part) (place : Place) (b : Base) → awaits_factor place ≡ true
    → read_from n (Variable i ∷ xs) (state o p place b) ≡ read_from n xs (state o p Behind (Named i))
unfolding read_from step
read_variable n i xs o p place b h = rw h refl

read_open : (n : ℕ) (xs : List Symbol) (o : List Part) (p : Part) (place : Place) (b : Base) → awaits_factor place ≡ true
    → read_from n (Open ∷ xs) (state o p place b) ≡ read_from n xs (state (p ∷ o) (new_part n) Start (Named None))
unfolding read_from step
read_open n xs o p place b h = rw h refl

read_close : (n : ℕ) (xs : List Symbol) (o : List Part) (q p : Part) (f : Factor) (b : Base)
    → read_from n (Close ∷ xs) (state (q ∷ o) p (place_of f) b) ≡ read_from n xs (state o q Behind (Valued (within (suc (length o)) (closed n p b))))
unfolding read_from step
read_close n xs o q p (plain a) b = refl
read_close n xs o q p (power a minus z) b = refl

read_times : (n : ℕ) (xs : List Symbol) (o : List Part) (p : Part) (f : Factor) (b : Base)
    → read_from n (Times ∷ xs) (state o p (place_of f) b) ≡ read_from n xs (state o (open_part p.sum p.minus (term_of n p b)) Operator (Named None))
unfolding read_from step
read_times n xs o p (plain a) b = refl
read_times n xs o p (power a minus z) b = refl

read_sign : (n : ℕ) (minus : Bool) (xs : List Symbol) (o : List Part) (p : Part) (f : Factor) (b : Base)
    → read_from n (Sign minus ∷ xs) (state o p (place_of f) b) ≡ read_from n xs (state o (open_part (closed n p b) minus (one n)) Operator (Named None))
unfolding read_from step
read_sign n minus xs o p (plain a) b = refl
read_sign n minus xs o p (power a m z) b = refl

read_exponent : (n : ℕ) (minus : Bool) (z : Option ℤ) (xs : List Symbol) (o : List Part) (p : Part) (b : Base)
    → read_from n (Power ∷ (written_minus minus ++ Digits z ∷ xs)) (state o p Behind b) ≡ read_from n xs (state o p Raised (Valued (base_power n b (exponent minus z))))
unfolding read_from step
read_exponent n false z xs o p b = refl
read_exponent n true z xs o p b = refl

-- ---- the parts of a polynomial, at any depth

signed_start : (n : ℕ) (minus : Bool) (xs : List Symbol) (o : List Part)
    → read_from n (Sign minus ∷ xs) (state o (new_part n) Start (Named None)) ≡ read_from n xs (state o (open_part (Ok []) minus (one n)) Operator (Named None))
unfolding read_from step
signed_start n minus xs o = refl

at_end : (n : ℕ) (p : Part) (f : Factor) (b : Base) → read_from n [] (state [] p (place_of f) b) ≡ Some (closed n p b)
unfolding read_from ended
at_end n p (plain a) b = refl
at_end n p (power a minus z) b = refl

mutual
  unfolding written meaning base_of before_last part_of

  atom_reads : (a : Atom) (n : ℕ) (rest : List Symbol) (o : List Part) (p : Part) (place : Place) (b : Base) → awaits_factor place ≡ true
      → read_from n (written_atom a ++ rest) (state o p place b) ≡ read_from n rest (state o p Behind (base n (length o) a))
  atom_reads (digits z) n rest o p place b h = read_digits n z rest o p place b h
  atom_reads (variable i) n rest o p place b h = read_variable n i rest o p place b h
  atom_reads (enclosed q) n rest o p place b h =
      let opened = read_open n ((written q ++ Close ∷ []) ++ rest) o p place b h in
      let moved : read_from n ((written q ++ Close ∷ []) ++ rest) (state (p ∷ o) (new_part n) Start (Named None)) ≡ read_from n (written q ++ (Close ∷ rest)) (state (p ∷ o) (new_part n) Start (Named None)) =
      ap (λ (l : List Symbol). read_from n l (state (p ∷ o) (new_part n) Start (Named None))) (append_assoc (written q) (Close ∷ []) rest) in
      let inside = polynomial_reads q n (Close ∷ rest) (p ∷ o) in
      let back = read_close n rest o p (part_of n (suc (length o)) q) (last_of (last_term q)) (base_of n (suc (length o)) (last_of (last_term q))) in
      let value : read_from n rest (state o p Behind (Valued (within (suc (length o)) (closed n (part_of n (suc (length o)) q) (base_of n (suc (length o)) (last_of (last_term q)))))))
      ≡ read_from n rest (state o p Behind (base n (length o) (enclosed q))) =
      ap (λ (v : Verdict (List Monomial)). read_from n rest (state o p Behind (Valued (within (suc (length o)) v)))) (whole_value n (suc (length o)) q) in
      opened ∙ moved ∙ inside ∙ back ∙ value

  factor_reads : (f : Factor) (n : ℕ) (rest : List Symbol) (o : List Part) (p : Part) (place : Place) (b : Base) → awaits_factor place ≡ true
      → read_from n (written_factor f ++ rest) (state o p place b) ≡ read_from n rest (state o p (place_of f) (base_of n (length o) f))
  factor_reads (plain a) n rest o p place b h = atom_reads a n rest o p place b h
  factor_reads (power a minus z) n rest o p place b h =
      let moved : (written_atom a ++ (Power ∷ (written_minus minus ++ Digits z ∷ []))) ++ rest ≡ written_atom a ++ (Power ∷ (written_minus minus ++ Digits z ∷ rest)) =
      append_assoc (written_atom a) (Power ∷ (written_minus minus ++ Digits z ∷ [])) rest
      ∙ ap (λ (l : List Symbol). written_atom a ++ (Power ∷ l)) (append_assoc (written_minus minus) (Digits z ∷ []) rest) in
      ap (λ (l : List Symbol). read_from n l (state o p place b)) moved
      ∙ atom_reads a n (Power ∷ (written_minus minus ++ Digits z ∷ rest)) o p place b h
      ∙ read_exponent n minus z rest o p (base n (length o) a)

  term_reads : (t : Term) (n : ℕ) (rest : List Symbol) (o : List Part) (sum : Verdict (List Monomial)) (minus : Bool) (place : Place) (b : Base) → awaits_factor place ≡ true
      → read_from n (written_term t ++ rest) (state o (open_part sum minus (one n)) place b)
      ≡ read_from n rest (state o (open_part sum minus (before_last n (length o) t)) (place_of (last_of t)) (base_of n (length o) (last_of t)))
  term_reads (one_factor f) n rest o sum minus place b h = factor_reads f n rest o (open_part sum minus (one n)) place b h
  term_reads (product t f) n rest o sum minus place b h =
      let first_part = term_reads t n (Times ∷ (written_factor f ++ rest)) o sum minus place b h in
      let star = read_times n (written_factor f ++ rest) o (open_part sum minus (before_last n (length o) t)) (last_of t) (base_of n (length o) (last_of t)) in
      let value : read_from n (written_factor f ++ rest) (state o (open_part sum minus (both multiplied (before_last n (length o) t) (base_value n (base_of n (length o) (last_of t))))) Operator (Named None))
      ≡ read_from n (written_factor f ++ rest) (state o (open_part sum minus (meaning_term n (length o) t)) Operator (Named None)) =
      ap (λ (v : Verdict (List Monomial)). read_from n (written_factor f ++ rest) (state o (open_part sum minus v) Operator (Named None))) (term_value n (length o) t) in
      ap (λ (l : List Symbol). read_from n l (state o (open_part sum minus (one n)) place b)) (append_assoc (written_term t) (Times ∷ written_factor f) rest)
      ∙ first_part ∙ star ∙ value
      ∙ factor_reads f n rest o (open_part sum minus (meaning_term n (length o) t)) Operator (Named None) refl

  polynomial_reads : (p : Polynomial) (n : ℕ) (rest : List Symbol) (o : List Part)
      → read_from n (written p ++ rest) (state o (new_part n) Start (Named None))
      ≡ read_from n rest (state o (part_of n (length o) p) (place_of (last_of (last_term p))) (base_of n (length o) (last_of (last_term p))))
  polynomial_reads (first None t) n rest o = term_reads t n rest o (Ok []) false Start (Named None) refl
  polynomial_reads (first (Some minus) t) n rest o = signed_start n minus (written_term t ++ rest) o ∙ term_reads t n rest o (Ok []) minus Operator (Named None) refl
  polynomial_reads (more p minus t) n rest o =
      let first_part = polynomial_reads p n (Sign minus ∷ (written_term t ++ rest)) o in
      let sign = read_sign n minus (written_term t ++ rest) o (part_of n (length o) p) (last_of (last_term p)) (base_of n (length o) (last_of (last_term p))) in
      let value : read_from n (written_term t ++ rest) (state o (open_part (closed n (part_of n (length o) p) (base_of n (length o) (last_of (last_term p)))) minus (one n)) Operator (Named None))
      ≡ read_from n (written_term t ++ rest) (state o (open_part (meaning n (length o) p) minus (one n)) Operator (Named None)) =
      ap (λ (v : Verdict (List Monomial)). read_from n (written_term t ++ rest) (state o (open_part v minus (one n)) Operator (Named None))) (whole_value n (length o) p) in
      ap (λ (l : List Symbol). read_from n l (state o (new_part n) Start (Named None))) (append_assoc (written p) (Sign minus ∷ written_term t) rest)
      ∙ first_part ∙ sign ∙ value
      ∙ term_reads t n rest o (meaning n (length o) p) minus Operator (Named None) refl

-- the symbols of a polynomial are read as its meaning
pub written_reads : (n : ℕ) (p : Polynomial) → read_from n (written p) (begun n) ≡ Some (meaning n 0 p)
unfolding read_from ended
written_reads n p =
    ap (λ (l : List Symbol). read_from n l (begun n)) (sym (append-nil (written p)))
    ∙ polynomial_reads p n [] []
    ∙ at_end n (part_of n 0 p) (last_of (last_term p)) (base_of n 0 (last_of (last_term p)))
    ∙ ap (λ (v : Verdict (List Monomial)). Some v) (whole_value n 0 p)
