-- What the reader of a polynomial holds and answers.
use Rattle.std.specs.Prelude.{◌≡◌, reverse, Option, Some, None, Result, Ok, Err}
use Rattle.poly_text.specs.declared.reading.Reader.{Reader}
use Rattle.poly_text.specs.declared.reading.Stop.{Stop}
use Rattle.poly_text.specs.declared.reading.Stop.TheVariants.{Grammar, OutOfMemory}
use Rattle.poly_text.specs.Steps.{State}

abbrev pub state_of : Reader → State
state_of r = record { outer = reverse r.outer.items; part = r.part; place = r.place; base = r.base }

abbrev pub same : {A : Type 0} → A → A
same x = x

-- the answer is what was read, or that the grammar has no such symbol here; memory may lack at any time
abbrev pub Follows : {A B : Type 0} → (A → B) → Result A Stop → Option B → Type 0
Follows view (Ok x) o = o ≡ Some (view x)
Follows view (Err Grammar) o = o ≡ None
Follows view (Err OutOfMemory) o = Unit {0}
