-- Symbols that are read one after the other.
use Rattle.std.proofs.Common.{◌≡◌, ℕ, suc, ◌+◌, ◌<◌, ◌≤◌, List, length, drop, get_or, Option, Some, None, Result, Err, sym, ap, ◌∙◌, drop-cons, drop_of_length-le, arith}
use Rattle.poly_text.specs.declared.symbols.Symbol.{Symbol}
use Rattle.poly_text.specs.declared.reading.Reader.{Reader}
use Rattle.poly_text.specs.declared.reading.Stop.{Stop}
use Rattle.poly_text.specs.declared.reading.Stop.TheVariants.{Grammar, OutOfMemory}
use Rattle.poly_text.specs.Maps.{Monomial}
use Rattle.poly_text.specs.Bounds.{Verdict}
use Rattle.poly_text.specs.Steps.{State, step, ended, then_read, read_from}
use Rattle.poly_text.specs.Reading.{Follows, state_of}

module _ (n : ℕ) (xs : List Symbol) (k : ℕ) (s : State) (whole : Option (Verdict (List Monomial))) where
  rest_read : (x d : Symbol) → x ≡ get_or xs k d → k < length xs → read_from n (drop k xs) s ≡ then_read (read_from n (drop (k + 1) xs)) (step n s x)
  unfolding read_from
  rest_read x d e h =
      let next : k + 1 ≡ suc k = omega arith in
      ap (λ (l : List Symbol). read_from n l s) (drop-cons xs k d h)
      ∙ ap (λ (y : Symbol). then_read (read_from n (drop (suc k) xs)) (step n s y)) (sym e)
      ∙ ap (λ (j : ℕ). then_read (read_from n (drop j xs)) (step n s x)) (sym next)

  pub read_more : (x d : Symbol) (t : State) → x ≡ get_or xs k d → k < length xs → step n s x ≡ Some t → read_from n (drop k xs) s ≡ whole → read_from n (drop (k + 1) xs) t ≡ whole
  read_more x d t e h is so_far = sym (rest_read x d e h ∙ ap (then_read (read_from n (drop (k + 1) xs))) is) ∙ so_far

  pub read_stops : (x d : Symbol) → x ≡ get_or xs k d → k < length xs → step n s x ≡ None → read_from n (drop k xs) s ≡ whole → whole ≡ None
  read_stops x d e h is so_far = sym so_far ∙ rest_read x d e h ∙ ap (then_read (read_from n (drop (k + 1) xs))) is

  pub read_ends : length xs ≤ k → read_from n (drop k xs) s ≡ whole → ended n s ≡ whole
  unfolding read_from
  read_ends h so_far = sym (ap (λ (l : List Symbol). read_from n l s) (drop_of_length-le xs h)) ∙ so_far

abbrev stopped : Stop → Result Reader Stop
stopped f = Err f

-- an error of a step is one of the whole
pub step_fails : {A B : Type 0} (f : Stop) (o : Option State) (view : A → B) (whole : Option B) → Follows state_of (stopped f) o → (o ≡ None → whole ≡ None) → Follows view (Err f) whole
step_fails Grammar o view whole h k = k h
step_fails OutOfMemory o view whole h k = tt
