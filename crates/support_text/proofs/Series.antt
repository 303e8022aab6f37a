-- Items read one after the other.
use Rattle.std.proofs.Common.{◌≡◌, ℕ, suc, ◌+◌, ◌-◌, ◌<◌, ◌≤◌, List, [], ◌∷◌, ◌++◌, length, Ok, Err, refl, sym, ap, ◌∙◌, append_assoc, append-nil, arith}
use Rattle.support_text.specs.declared.fault.FormatFault.{FormatFault}
use Rattle.support_text.specs.declared.fault.TextFault.{TextFault}
use Rattle.support_text.specs.declared.fault.TextFault.TheVariants.{Format, OutOfMemory}
use Rattle.support_text.specs.Faults.{Reading, ◌>>=◌, Fails, series}

-- one item after the other takes s to t
abbrev pub Chain : {A S : Type 0} → (A → S → S → Type 0) → List A → S → S → Type 0
Chain Takes [] s t = s ≡ t
Chain {A} {S} Takes (x ∷ xs) s t = (u : S) × Takes x s u × Chain Takes xs u t

-- each item is read where it stands, in view of those before it
abbrev pub ReadsEach : {A S : Type 0} → (A → S → S → Type 0) → (List A → S → Reading (A × S)) → List A → List A → Type 0
ReadsEach Takes read before [] = Unit {0}
ReadsEach {A} {S} Takes read before (x ∷ xs) = ((s t : S) → Takes x s t → read before s ≡ Ok (x, t)) × ReadsEach Takes read (before ++ x ∷ []) xs

pub series_again : {A S : Type 0} (Takes : A → S → S → Type 0) (read : List A → S → Reading (A × S)) (before xs : List A) (s t : S)
    → ReadsEach Takes read before xs → Chain Takes xs s t → series (length xs) read before s ≡ Ok (before ++ xs, t)
unfolding series
series_again Takes read before [] s t each chain = rw (append-nil before, chain) refl
series_again Takes read before (x ∷ xs) s t each chain =
    let first = each.0 s chain.0 chain.1 in
    let others = series_again Takes read (before ++ x ∷ []) xs chain.0 t each.1 chain.2 in
    rw first (others ∙ ap (λ l. Ok (l, t)) (append_assoc before (x ∷ []) xs))

-- the value of a step that didn't fail
pub bind_ok : {A B : Type 0} (r : Reading A) (f : A → Reading B) (y : B) → (r >>= f) ≡ Ok y → (x : A) × (r ≡ Ok x) × (f x ≡ Ok y)
bind_ok (Ok x) f y e = (x, refl, e)
bind_ok (Err d) f y e = absurd cc

abbrev pub failed : {A : Type 0} → FormatFault → Reading A
failed e = Err e

pub err_is : {A : Type 0} (d e : FormatFault) → failed {A = A} d ≡ failed e → d ≡ e
err_is d e h = cc

-- the fault of the first of two steps, where the second never fails
bind_err : {A B : Type 0} (r : Reading A) (f : A → B) (e : FormatFault) → (r >>= λ (x : A). Ok (f x)) ≡ Err e → r ≡ Err e
bind_err (Ok x) f e h = absurd cc
bind_err (Err d) f e h = ap failed (err_is d e h)

abbrev done : {A : Type 0} → A → Reading A
done x = Ok x

pub ok_is : {A : Type 0} (x y : A) → done x ≡ done y → x ≡ y
ok_is x y e = cc

-- ---- a loop over a count

left_over : (count turn : ℕ) → turn < count → count - turn ≡ suc (count - (turn + 1))
left_over count turn h = omega arith

module _ {A S : Type 0} (read : List A → S → Reading (A × S)) (count turn : ℕ) (before : List A) (s : S) (whole : Reading (List A × S)) where
  pub series_step : (after : List A) (x : A) (t : S) → after ≡ before ++ x ∷ [] → turn < count → read before s ≡ Ok (x, t) → series (count - turn) read before s ≡ whole
      → series (count - (turn + 1)) read after t ≡ whole
  unfolding series
  series_step after x t more lt e so_far =
      let k = left_over count turn lt in
      let one : series (count - turn) read before s ≡ series (count - (turn + 1)) read (before ++ x ∷ []) t = rw (k, e) refl in
      ap (λ (l : List A). series (count - (turn + 1)) read l t) more ∙ sym one ∙ so_far

  pub series_end : count ≤ turn → series (count - turn) read before s ≡ whole → whole ≡ Ok (before, s)
  unfolding series
  series_end le so_far =
      let k : count - turn ≡ 0 = omega arith in
      let one : series (count - turn) read before s ≡ Ok (before, s) = rw k refl in
      sym so_far ∙ one

  pub series_fails : (f : TextFault) → turn < count → Fails f (read before s) → series (count - turn) read before s ≡ whole → Fails f whole
  unfolding series
  series_fails OutOfMemory lt h so_far = tt
  series_fails (Format f) lt h so_far =
      let k = left_over count turn lt in
      let one : series (count - turn) read before s ≡ Err f = rw (k, h) refl in
      sym so_far ∙ one

  -- one item is read as a series of one
  pub series_one : (after : List A) (t : S) → turn < count → series 1 read before s ≡ Ok (after, t) → series (count - turn) read before s ≡ whole → series (count - (turn + 1)) read after t ≡ whole
  unfolding series
  series_one after t lt e so_far =
      let a = bind_ok (read before s) (λ (x : A × S). done (before ++ x.0 ∷ [], x.1)) (after, t) e in
      let is = ok_is (before ++ a.0.0 ∷ [], a.0.1) (after, t) a.2 in
      series_step after a.0.0 t (sym (ap (λ (p : List A × S). p.0) is)) lt (a.1 ∙ ap (λ (p : List A × S). done (a.0.0, p.1)) is) so_far

  pub series_one_fails : (f : TextFault) → turn < count → Fails f (series 1 read before s) → series (count - turn) read before s ≡ whole → Fails f whole
  unfolding series
  series_one_fails OutOfMemory lt h so_far = tt
  series_one_fails (Format f) lt h so_far = series_fails (Format f) lt (bind_err (read before s) (λ (x : A × S). (before ++ x.0 ∷ [], x.1)) f h) so_far

pub series_start : {A S : Type 0} (read : List A → S → Reading (A × S)) (count : ℕ) (items : List A) (s : S) → items ≡ [] → series (count - 0) read items s ≡ series count read [] s
series_start read count items s e =
    let k : count - 0 ≡ count = omega arith in
    ap (λ (n : ℕ). series n read items s) k ∙ ap (λ l. series count read l s) e
