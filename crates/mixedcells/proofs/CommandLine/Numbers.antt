-- Numbers and options in words.
use Rattle.std.proofs.Common.{◌≡◌, ◌≢◌, ◌∙◌, ℕ, ◌^◌, ◌<◌, ◌≤◌, Bool, true, List, [], ◌∷◌, ◌++◌, length, drop, refl, sym, ap, subst, arith, SomeIff, OkIff, Option, Some, None, option_map, Bor, ◌&&◌, Ok, Err}
use Rattle.std.specs.Prelude.{◌==◌, Result, nat_le, MatchOption, get_or}
use Rattle.std.specs.Char.{is_ascii_digit}
use Rattle.std.specs.List.{list_all}
use Rattle.std.specs.Result.{result_ok}
use Rattle.std.specs.Str.Parse.{IsNumeral, ParsesUnsigned, digits_value}
use Rattle.std.specs.Str.Pattern.{FindsTextPrefix, StripsPrefix, LacksTextAt}
use Rattle.std.proofs.lemmas.Bool.Decides.{nat_tests}
use Rattle.std.proofs.lemmas.Str.Parse.{without_leading_plus_none}
use Rattle.clap.specs.Walk.{Text}
use Rattle.line_text.proofs.TokenLemmas.{and_parts}
use Rattle.line_text.proofs.NumberLemmas.{AllDigits-from}
use Rattle.mixedcells.specs.Words.{is_number, after}
use Rattle.mixedcells.proofs.CommandLine.Law.{after_is}

pub number_is : (w bytes : List ℕ) (r : Bool) → bytes ≡ w → nat_le 1 (length bytes) ≡ true → nat_le (length bytes) 20 ≡ true → r ≡ list_all is_ascii_digit bytes → r ≡ is_number w
number_is w bytes r same some few all =
    let P : List ℕ → Type 0 = λ l. r ≡ is_number l in
    subst P same (rw (some, few) all)

numeral : (w : List ℕ) → is_number w ≡ true → IsNumeral 10 w
numeral w h =
    let p = and_parts (nat_le 1 (length w)) (nat_le (length w) 20 && list_all is_ascii_digit w) h in
    let q = and_parts (nat_le (length w) 20) (list_all is_ascii_digit w) p.1 in
    (grind (arith, nat_tests, p.0), AllDigits-from w q.1)

no_plus : (w : List ℕ) → is_number w ≡ true → get_or w 0 0 ≢ 43
no_plus [] h = cc
no_plus (d ∷ ds) h =
    let p = and_parts (nat_le 1 (length (d ∷ ds))) (nat_le (length (d ∷ ds)) 20 && list_all is_ascii_digit (d ∷ ds)) h in
    let q = and_parts (nat_le (length (d ∷ ds)) 20) (list_all is_ascii_digit (d ∷ ds)) p.1 in
    let r = and_parts (is_ascii_digit d) (list_all is_ascii_digit ds) q.1 in
    let most : 48 ≤ d = grind (arith, nat_tests, r.0) in
    λ e. omega (arith, most, e)

-- what std's parsing says of a number
pub parsed : {E : Type 0} (w : List ℕ) (r : Result ℕ E) → is_number w ≡ true → ParsesUnsigned 64 10 w r → SomeIff (result_ok r) (digits_value 10 w < 2 ^ 64) (digits_value 10 w)
parsed {E = E} w (Ok v) number parses =
    let P : List ℕ → Type 0 = λ l. OkIff {E = E} (Ok v) (IsNumeral 10 l × (digits_value 10 l < 2 ^ 64)) (digits_value 10 l) in
    let at : P w = subst P (without_leading_plus_none w (no_plus w number)) parses in
    (at.0.1, at.1)
parsed {E = E} w (Err e) number parses =
    let P : List ℕ → Type 0 = λ l. OkIff {E = E} (Err e) (IsNumeral 10 l × (digits_value 10 l < 2 ^ 64)) (digits_value 10 l) in
    let at : P w = subst P (without_leading_plus_none w (no_plus w number)) parses in
    λ fits. at (numeral w number, fits)

same_byte : (c : ℕ) → (c == c) ≡ true
same_byte c = grind (arith, nat_tests)

after_own : (p v : Text) → after p (p ++ v) ≡ Some v
after_own [] v = refl
after_own (c ∷ p) v = rw (same_byte c) (after_own p v)

lacks : (p w : Text) (o : Option Text) → after p w ≡ o → LacksTextAt p w 0 → None ≡ o
lacks p w None e h = refl
lacks p w (Some v) e h = absurd (h v (after_is p w v e))

-- what std's stripping of a prefix says
pub after_cases : (p w : Text) (r : Option (Bor (List ℕ))) → MatchOption r (FindsTextPrefix p w None) (λ x. StripsPrefix (FindsTextPrefix p) w x.now) → option_map (λ s. s.now) r ≡ after p w
after_cases p w None h = lacks p w (after p w) refl h
after_cases p w (Some x) h =
    let P : Text → Type 0 = λ t. Some (drop h.0 w) ≡ after p t in
    ap Some h.2 ∙ subst P (sym h.1.1) (sym (after_own p (drop h.0 w)))
