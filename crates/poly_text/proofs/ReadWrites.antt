-- What is read was written by a polynomial.
use Rattle.std.proofs.Common.{◌≡◌, ℕ, suc, ℤ, Bool, true, false, List, [], ◌∷◌, ◌++◌, length, Option, Some, None, refl, sym, ap, ◌∙◌, append_assoc, append-nil, arith}
use Rattle.poly_text.specs.declared.symbols.Symbol.{Symbol}
use Rattle.poly_text.specs.declared.symbols.Symbol.TheVariants.{Digits, Variable, Sign, Times, Power, Open, Close}
use Rattle.poly_text.specs.declared.reading.Part.{Part}
use Rattle.poly_text.specs.declared.reading.Place.{Place}
use Rattle.poly_text.specs.declared.reading.Place.TheVariants.{Start, Operator, Atom as Behind, Power as Caret, Negative, Raised}
use Rattle.poly_text.specs.declared.reading.Base.{Base}
use Rattle.poly_text.specs.Maps.{Monomial}
use Rattle.poly_text.specs.Bounds.{Verdict}
use Rattle.poly_text.specs.Trees.{Polynomial, Term, Factor, Atom, first, more, one_factor, product, plain, power, digits, variable, enclosed, written, written_term, written_factor, written_atom, written_sign}
use Rattle.poly_text.specs.Steps.{State, begun, step, ended, read_from, then_read}

-- what stands before the open term, and before its open factor
data Head : Type 0 where
  starting : Option Bool → Head
  following : Polynomial → Bool → Head

record Unclosed : Type 0 where
  head : Head
  factors : Option Term

-- a polynomial that is being read
data Spot : Type 0 where
  beginning : Spot
  awaiting : Unclosed → Spot
  behind_atom : Unclosed → Atom → Spot
  behind_caret : Unclosed → Atom → Spot
  behind_minus : Unclosed → Atom → Spot
  behind_power : Unclosed → Atom → Bool → Option ℤ → Spot

abbrev nothing : Unclosed
nothing = record { head = starting None; factors = None }

abbrev written_head : Head → List Symbol
written_head (starting sign) = written_sign sign
written_head (following p minus) = written p ++ Sign minus ∷ []

abbrev written_factors : Option Term → List Symbol
written_factors None = []
written_factors (Some t) = written_term t ++ Times ∷ []

abbrev written_open : Unclosed → List Symbol
written_open u = written_head u.head ++ written_factors u.factors

abbrev written_spot : Spot → List Symbol
written_spot beginning = []
written_spot (awaiting u) = written_open u
written_spot (behind_atom u a) = written_open u ++ written_atom a
written_spot (behind_caret u a) = written_open u ++ (written_atom a ++ Power ∷ [])
written_spot (behind_minus u a) = written_open u ++ (written_atom a ++ (Power ∷ Sign true ∷ []))
written_spot (behind_power u a minus z) = written_open u ++ written_factor (power a minus z)

abbrev written_outer : List Unclosed → List Symbol
written_outer [] = []
written_outer (u ∷ us) = written_outer us ++ (written_open u ++ Open ∷ [])

abbrev place_of : Spot → Place
place_of beginning = Start
place_of (awaiting u) = Operator
place_of (behind_atom u a) = Behind
place_of (behind_caret u a) = Caret
place_of (behind_minus u a) = Negative
place_of (behind_power u a minus z) = Raised

abbrev with_factor : Option Term → Factor → Term
with_factor None f = one_factor f
with_factor (Some t) f = product t f

abbrev with_term : Head → Term → Polynomial
with_term (starting sign) t = first sign t
with_term (following p minus) t = more p minus t

abbrev close : Unclosed → Factor → Polynomial
close u f = with_term u.head (with_factor u.factors f)

term_written : (o : Option Term) (f : Factor) → written_term (with_factor o f) ≡ written_factors o ++ written_factor f
unfolding written
term_written None f = refl
term_written (Some t) f = sym (append_assoc (written_term t) (Times ∷ []) (written_factor f))

polynomial_written : (h : Head) (t : Term) → written (with_term h t) ≡ written_head h ++ written_term t
unfolding written
polynomial_written (starting sign) t = refl
polynomial_written (following p minus) t = sym (append_assoc (written p) (Sign minus ∷ []) (written_term t))

close_written : (u : Unclosed) (f : Factor) → written (close u f) ≡ written_open u ++ written_factor f
close_written u f =
    polynomial_written u.head (with_factor u.factors f) ∙ ap (λ (l : List Symbol). written_head u.head ++ l) (term_written u.factors f)
    ∙ sym (append_assoc (written_head u.head) (written_factors u.factors) (written_factor f))

plain_written : (u : Unclosed) (a : Atom) → written (close u (plain a)) ≡ written_open u ++ written_atom a
unfolding written
plain_written u a = close_written u (plain a)

-- ---- one symbol more

record Grown (outer : List Unclosed) (t : Spot) (x : Symbol) (s : State) : Type 0 where
  around : List Unclosed
  spot : Spot
  depth : length s.outer ≡ length around
  place : s.place ≡ place_of spot
  symbols : written_outer around ++ written_spot spot ≡ (written_outer outer ++ written_spot t) ++ x ∷ []

abbrev pub state : List Part → Part → Place → Base → State
state outer p place b = record { outer = outer; part = p; place = place; base = b }

abbrev got : State → Option State
got s = Some s

is_same : (s t : State) → got s ≡ got t → s ≡ t
is_same s t e = cc

-- a symbol in the innermost parentheses
grown : (outer : List Unclosed) (t u : Spot) (x : Symbol) (s s2 : State) → length s2.outer ≡ length outer → s2.place ≡ place_of u → written_spot u ≡ written_spot t ++ x ∷ [] → got s2 ≡ got s → Grown outer t x s
grown outer t u x s s2 len place w e =
    let is = is_same s2 s e in
    record {
      around = outer;
      spot = u;
      depth = ap (λ (r : State). length r.outer) (sym is) ∙ len;
      place = ap (λ (r : State). r.place) (sym is) ∙ place;
      symbols = ap (λ (l : List Symbol). written_outer outer ++ l) w ∙ sym (append_assoc (written_outer outer) (written_spot t) (x ∷ []));
    }

module _ (n : ℕ) (outer : List Unclosed) (o : List Part) (p : Part) (b : Base) (len : length o ≡ length outer) where
  grown_digits : (t : Spot) (z : Option ℤ) (s : State) → step n (state o p (place_of t) b) (Digits z) ≡ Some s → Grown outer t (Digits z) s
  unfolding step written
  grown_digits beginning z s e = grown outer beginning (behind_atom nothing (digits z)) (Digits z) s _ len refl refl e
  grown_digits (awaiting u) z s e = grown outer (awaiting u) (behind_atom u (digits z)) (Digits z) s _ len refl refl e
  grown_digits (behind_atom u a) z s e = absurd cc
  grown_digits (behind_caret u a) z s e =
      grown outer (behind_caret u a) (behind_power u a false z) (Digits z) s _ len refl
      (ap (λ (l : List Symbol). written_open u ++ l) (sym (append_assoc (written_atom a) (Power ∷ []) (Digits z ∷ []))) ∙ sym (append_assoc (written_open u) (written_atom a ++ Power ∷ []) (Digits z ∷ []))) e
  grown_digits (behind_minus u a) z s e =
      grown outer (behind_minus u a) (behind_power u a true z) (Digits z) s _ len refl
      (ap (λ (l : List Symbol). written_open u ++ l) (sym (append_assoc (written_atom a) (Power ∷ Sign true ∷ []) (Digits z ∷ []))) ∙ sym (append_assoc (written_open u) (written_atom a ++ (Power ∷ Sign true ∷ [])) (Digits z ∷ []))) e
  grown_digits (behind_power u a minus y) z s e = absurd cc

  grown_variable : (t : Spot) (i : Option ℤ) (s : State) → step n (state o p (place_of t) b) (Variable i) ≡ Some s → Grown outer t (Variable i) s
  unfolding step written
  grown_variable beginning i s e = grown outer beginning (behind_atom nothing (variable i)) (Variable i) s _ len refl refl e
  grown_variable (awaiting u) i s e = grown outer (awaiting u) (behind_atom u (variable i)) (Variable i) s _ len refl refl e
  grown_variable (behind_atom u a) i s e = absurd cc
  grown_variable (behind_caret u a) i s e = absurd cc
  grown_variable (behind_minus u a) i s e = absurd cc
  grown_variable (behind_power u a minus y) i s e = absurd cc

  next_term : (u : Unclosed) (f : Factor) (minus : Bool) (t : Spot) → written_spot t ≡ written_open u ++ written_factor f
      → written_open (record { head = following (close u f) minus; factors = None }) ≡ written_spot t ++ Sign minus ∷ []
  next_term u f minus t w = append-nil (written (close u f) ++ Sign minus ∷ []) ∙ ap (λ (l : List Symbol). l ++ Sign minus ∷ []) (close_written u f ∙ sym w)

  grown_sign : (t : Spot) (minus : Bool) (s : State) → step n (state o p (place_of t) b) (Sign minus) ≡ Some s → Grown outer t (Sign minus) s
  unfolding step written
  grown_sign beginning minus s e = grown outer beginning (awaiting (record { head = starting (Some minus); factors = None })) (Sign minus) s _ len refl refl e
  grown_sign (awaiting u) minus s e = absurd cc
  grown_sign (behind_atom u a) minus s e =
      grown outer (behind_atom u a) (awaiting (record { head = following (close u (plain a)) minus; factors = None })) (Sign minus) s _ len refl (next_term u (plain a) minus (behind_atom u a) refl) e
  grown_sign (behind_caret u a) false s e = absurd cc
  grown_sign (behind_caret u a) true s e =
      grown outer (behind_caret u a) (behind_minus u a) (Sign true) s _ len refl
      (ap (λ (l : List Symbol). written_open u ++ l) (sym (append_assoc (written_atom a) (Power ∷ []) (Sign true ∷ []))) ∙ sym (append_assoc (written_open u) (written_atom a ++ Power ∷ []) (Sign true ∷ []))) e
  grown_sign (behind_minus u a) minus s e = absurd cc
  grown_sign (behind_power u a m y) minus s e =
      grown outer (behind_power u a m y) (awaiting (record { head = following (close u (power a m y)) minus; factors = None })) (Sign minus) s _ len refl (next_term u (power a m y) minus (behind_power u a m y) refl) e

  next_factor : (u : Unclosed) (f : Factor) (t : Spot) → written_spot t ≡ written_open u ++ written_factor f
      → written_open (record { head = u.head; factors = Some (with_factor u.factors f) }) ≡ written_spot t ++ Times ∷ []
  next_factor u f t w =
      ap (λ (l : List Symbol). written_head u.head ++ (l ++ Times ∷ [])) (term_written u.factors f)
      ∙ ap (λ (l : List Symbol). written_head u.head ++ l) (append_assoc (written_factors u.factors) (written_factor f) (Times ∷ []))
      ∙ sym (append_assoc (written_head u.head) (written_factors u.factors) (written_factor f ++ Times ∷ []))
      ∙ sym (append_assoc (written_open u) (written_factor f) (Times ∷ []))
      ∙ ap (λ (l : List Symbol). l ++ Times ∷ []) (sym w)

  grown_times : (t : Spot) (s : State) → step n (state o p (place_of t) b) Times ≡ Some s → Grown outer t Times s
  unfolding step written
  grown_times beginning s e = absurd cc
  grown_times (awaiting u) s e = absurd cc
  grown_times (behind_atom u a) s e =
      grown outer (behind_atom u a) (awaiting (record { head = u.head; factors = Some (with_factor u.factors (plain a)) })) Times s _ len refl (next_factor u (plain a) (behind_atom u a) refl) e
  grown_times (behind_caret u a) s e = absurd cc
  grown_times (behind_minus u a) s e = absurd cc
  grown_times (behind_power u a m y) s e =
      grown outer (behind_power u a m y) (awaiting (record { head = u.head; factors = Some (with_factor u.factors (power a m y)) })) Times s _ len refl (next_factor u (power a m y) (behind_power u a m y) refl) e

  grown_power : (t : Spot) (s : State) → step n (state o p (place_of t) b) Power ≡ Some s → Grown outer t Power s
  unfolding step written
  grown_power beginning s e = absurd cc
  grown_power (awaiting u) s e = absurd cc
  grown_power (behind_atom u a) s e = grown outer (behind_atom u a) (behind_caret u a) Power s _ len refl (sym (append_assoc (written_open u) (written_atom a) (Power ∷ []))) e
  grown_power (behind_caret u a) s e = absurd cc
  grown_power (behind_minus u a) s e = absurd cc
  grown_power (behind_power u a m y) s e = absurd cc

  opened : (u : Unclosed) (t : Spot) (s s2 : State) → written_spot t ≡ written_open u → length s2.outer ≡ suc (length outer) → s2.place ≡ Start → got s2 ≡ got s → Grown outer t Open s
  opened u t s s2 w deep place e =
      let is = is_same s2 s e in
      record {
        around = u ∷ outer;
        spot = beginning;
        depth = ap (λ (r : State). length r.outer) (sym is) ∙ deep;
        place = ap (λ (r : State). r.place) (sym is) ∙ place;
        symbols = append-nil (written_outer outer ++ (written_open u ++ Open ∷ []))
            ∙ sym (append_assoc (written_outer outer) (written_open u) (Open ∷ []))
            ∙ ap (λ (l : List Symbol). (written_outer outer ++ l) ++ Open ∷ []) (sym w);
      }

  grown_open : (t : Spot) (s : State) → step n (state o p (place_of t) b) Open ≡ Some s → Grown outer t Open s
  unfolding step written
  grown_open beginning s e = opened nothing beginning s _ refl (ap suc len) refl e
  grown_open (awaiting u) s e = opened u (awaiting u) s _ refl (ap suc len) refl e
  grown_open (behind_atom u a) s e = absurd cc
  grown_open (behind_caret u a) s e = absurd cc
  grown_open (behind_minus u a) s e = absurd cc
  grown_open (behind_power u a m y) s e = absurd cc

closed_symbols : (us : List Unclosed) (u v : Unclosed) (f : Factor) (l : List Symbol) → l ≡ written_open v ++ written_factor f
    → written_outer us ++ (written_open u ++ written_atom (enclosed (close v f))) ≡ (written_outer (u ∷ us) ++ l) ++ Close ∷ []
unfolding written
closed_symbols us u v f l w =
    let inner = close_written v f ∙ sym w in
    ap (λ (m : List Symbol). written_outer us ++ (written_open u ++ (Open ∷ (m ++ Close ∷ [])))) inner
    ∙ ap (λ (m : List Symbol). written_outer us ++ m) (sym (append_assoc (written_open u) (Open ∷ []) (l ++ Close ∷ [])))
    ∙ sym (append_assoc (written_outer us) (written_open u ++ Open ∷ []) (l ++ Close ∷ []))
    ∙ sym (append_assoc (written_outer us ++ (written_open u ++ Open ∷ [])) l (Close ∷ []))

grown_close_by : (us : List Unclosed) (u v : Unclosed) (f : Factor) (t : Spot) (s s2 : State) → written_spot t ≡ written_open v ++ written_factor f → length s2.outer ≡ length us → s2.place ≡ Behind → got s2 ≡ got s → Grown (u ∷ us) t Close s
grown_close_by us u v f t s s2 w deep place e =
    let is = is_same s2 s e in
    record {
      around = us;
      spot = behind_atom u (enclosed (close v f));
      depth = ap (λ (r : State). length r.outer) (sym is) ∙ deep;
      place = ap (λ (r : State). r.place) (sym is) ∙ place;
      symbols = closed_symbols us u v f (written_spot t) w;
    }

grown_close : (n : ℕ) (outer : List Unclosed) (o : List Part) (p : Part) (b : Base) (t : Spot) (s : State) → length o ≡ length outer
    → step n (state o p (place_of t) b) Close ≡ Some s → Grown outer t Close s
unfolding step written
grown_close n [] [] p b beginning s len e = absurd cc
grown_close n [] [] p b (awaiting u) s len e = absurd cc
grown_close n [] [] p b (behind_atom u a) s len e = absurd cc
grown_close n [] [] p b (behind_caret u a) s len e = absurd cc
grown_close n [] [] p b (behind_minus u a) s len e = absurd cc
grown_close n [] [] p b (behind_power u a m y) s len e = absurd cc
grown_close n [] (q ∷ o) p b t s len e = absurd (omega (arith, len))
grown_close n (v ∷ vs) [] p b t s len e = absurd (omega (arith, len))
grown_close n (v ∷ vs) (q ∷ o) p b beginning s len e = absurd cc
grown_close n (v ∷ vs) (q ∷ o) p b (awaiting u) s len e = absurd cc
grown_close n (v ∷ vs) (q ∷ o) p b (behind_atom u a) s len e = grown_close_by vs v u (plain a) (behind_atom u a) s _ refl (omega (arith, len)) refl e
grown_close n (v ∷ vs) (q ∷ o) p b (behind_caret u a) s len e = absurd cc
grown_close n (v ∷ vs) (q ∷ o) p b (behind_minus u a) s len e = absurd cc
grown_close n (v ∷ vs) (q ∷ o) p b (behind_power u a m y) s len e = grown_close_by vs v u (power a m y) (behind_power u a m y) s _ refl (omega (arith, len)) refl e

grown_by : (n : ℕ) (outer : List Unclosed) (o : List Part) (p : Part) (b : Base) (t : Spot) (x : Symbol) (s : State) → length o ≡ length outer
    → step n (state o p (place_of t) b) x ≡ Some s → Grown outer t x s
grown_by n outer o p b t (Digits z) s len e = grown_digits n outer o p b len t z s e
grown_by n outer o p b t (Variable i) s len e = grown_variable n outer o p b len t i s e
grown_by n outer o p b t (Sign minus) s len e = grown_sign n outer o p b len t minus s e
grown_by n outer o p b t Times s len e = grown_times n outer o p b len t s e
grown_by n outer o p b t Power s len e = grown_power n outer o p b len t s e
grown_by n outer o p b t Open s len e = grown_open n outer o p b len t s e
grown_by n outer o p b t Close s len e = grown_close n outer o p b t s len e

-- ---- all symbols

abbrev Answer : Type 0
Answer = Option (Verdict (List Monomial))

whole : (n : ℕ) (outer : List Unclosed) (o : List Part) (p : Part) (b : Base) (t : Spot) (v : Verdict (List Monomial)) → length o ≡ length outer
    → ended n (state o p (place_of t) b) ≡ Some v → (q : Polynomial) × (written q ≡ written_outer outer ++ written_spot t)
unfolding ended
whole n (u ∷ us) [] p b t v len e = absurd (omega (arith, len))
whole n [] (q ∷ o) p b t v len e = absurd (omega (arith, len))
whole n outer o p b beginning v len e = absurd cc
whole n outer o p b (awaiting u) v len e = absurd cc
whole n [] [] p b (behind_atom u a) v len e = (close u (plain a), plain_written u a)
whole n (w ∷ ws) (q ∷ o) p b (behind_atom u a) v len e = absurd cc
whole n outer o p b (behind_caret u a) v len e = absurd cc
whole n outer o p b (behind_minus u a) v len e = absurd cc
whole n [] [] p b (behind_power u a m y) v len e = (close u (power a m y), close_written u (power a m y))
whole n (w ∷ ws) (q ∷ o) p b (behind_power u a m y) v len e = absurd cc

then_is : {A : Type 0} (f : State → Option A) (o : Option State) (v : A) → then_read f o ≡ Some v → (s : State) × (o ≡ Some s) × (f s ≡ Some v)
then_is f None v e = absurd cc
then_is f (Some s) v e = (s, refl, e)

placed : (n : ℕ) (xs : List Symbol) (s : State) (t : Spot) → s.place ≡ place_of t → read_from n xs s ≡ read_from n xs (state s.outer s.part (place_of t) s.base)
placed n xs s t e = ap (λ (place : Place). read_from n xs (state s.outer s.part place s.base)) e

read_grows : (xs : List Symbol) (n : ℕ) (outer : List Unclosed) (o : List Part) (p : Part) (b : Base) (t : Spot) (v : Verdict (List Monomial)) → length o ≡ length outer
    → read_from n xs (state o p (place_of t) b) ≡ Some v → (q : Polynomial) × (written q ≡ (written_outer outer ++ written_spot t) ++ xs)
unfolding read_from
read_grows [] n outer o p b t v len e =
    let w = whole n outer o p b t v len e in
    (w.0, w.1 ∙ sym (append-nil (written_outer outer ++ written_spot t)))
read_grows (x ∷ xs) n outer o p b t v len e =
    let s = then_is (read_from n xs) (step n (state o p (place_of t) b) x) v e in
    let g = grown_by n outer o p b t x s.0 len s.1 in
    let q = read_grows xs n g.around s.0.outer s.0.part s.0.base g.spot v g.depth (sym (placed n xs s.0 g.spot g.place) ∙ s.2) in
    (q.0, q.1 ∙ ap (λ (l : List Symbol). l ++ xs) g.symbols ∙ append_assoc (written_outer outer ++ written_spot t) (x ∷ []) xs)

pub read_writes : (n : ℕ) (xs : List Symbol) (v : Verdict (List Monomial)) → read_from n xs (begun n) ≡ Some v → (q : Polynomial) × (written q ≡ xs)
read_writes n xs v e = read_grows xs n [] [] _ _ beginning v refl e

abbrev answer : Verdict (List Monomial) → Answer
answer v = Some v

pub one_value : (v w : Verdict (List Monomial)) → answer v ≡ answer w → v ≡ w
one_value v w e = cc
