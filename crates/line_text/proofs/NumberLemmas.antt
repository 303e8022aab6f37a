-- Numbers as the standard library reads and writes them.
use Rattle.std.proofs.Common.{◌≡◌, ◌&&◌, ◌↔◌, ℕ, zero, suc, ◌+◌, ◌<◌, ◌≤◌, ℤ, ◌≤ℤ◌, Bool, true, false, not, cond, List, [], ◌∷◌, length, drop, refl, sym, arith, subst, ap, ◌∙◌, nat_lt, IsTrue, IfOk, Ok, Err, int_le, FitsSigned, pos, negsuc, neg_ℤ, SomeIff, ◌++◌, inl, inr, All}
use lib.Dec.{T}
use Rattle.std.specs.Prelude.{◌==◌, if◌then◌else◌, Result}
use Rattle.std.specs.Char.{is_ascii_digit, digit_value}
use Rattle.std.specs.Fmt.{decimal, signed_decimal}
use Rattle.std.specs.Int.{w128}
use Rattle.std.specs.Int.Signed.{le_z_yes, mag}
use Rattle.std.specs.List.{list_all}
use Rattle.std.specs.Str.{IsAscii, IsUtf8}
use Rattle.std.specs.Result.{result_ok}
use Rattle.std.specs.Str.Parse.{AllDigits, IsNumeral, without_leading_sign, ParsesSigned, digits_value}
use Rattle.std.proofs.lemmas.Bool.Decides.{nat_tests}
use Rattle.std.proofs.lemmas.Fmt.{decimal_is_IsNumeral_wide}
use Rattle.std.proofs.lemmas.Str.{IsUtf8-from_ascii}
use Rattle.std.proofs.lemmas.Str.Parse.{digit_from_value}
use Rattle.wide_int.proofs.Bools.{by_test}
use Rattle.line_text.specs.Numbers.{are_digits, is_number, value_of, number_in, IsNumberByte}
use Rattle.line_text.specs.Tokens.{token, tokens, ends_token, goes_on}
use Rattle.line_text.proofs.TokenLemmas.{run_of, and_parts}
use Rattle.line_text.proofs.WrittenLines.{is_kept}
use Rattle.line_text.specs.declared.numbers.BadNumber.{BadNumber}
use Rattle.line_text.specs.declared.numbers.BadNumber.TheVariants.{Spelling, Outside}

-- ---- the digits of std's words

pub digit_is : (c : ℕ) → is_ascii_digit c ≡ true → digit_value c < 10
digit_is c h =
    let low : nat_lt c 48 ≡ false = grind (arith, nat_tests, h) in
    let high : nat_lt c 58 ≡ true = grind (arith, nat_tests, h) in
    let most : c ≤ 57 = grind (arith, nat_tests, h) in
    rw (low, high) (omega arith)

digit_from : (c : ℕ) → digit_value c < 10 → is_ascii_digit c ≡ true
digit_from c h = let r = digit_from_value c h in grind (arith, nat_tests, r)

pub AllDigits-from : (ds : List ℕ) → list_all is_ascii_digit ds ≡ true → AllDigits 10 ds
AllDigits-from [] h = tt
AllDigits-from (d ∷ ds) h = let p = and_parts (is_ascii_digit d) (list_all is_ascii_digit ds) h in (digit_is d p.0, AllDigits-from ds p.1)

list_all-from : (ds : List ℕ) → AllDigits 10 ds → list_all is_ascii_digit ds ≡ true
list_all-from [] h = refl
list_all-from (d ∷ ds) h = let first = digit_from d h.0 in let rest = list_all-from ds h.1 in rw (first, rest) refl

-- a number is what std calls a numeral behind a sign
pub IsNumeral-from : (text : List ℕ) → is_number text ≡ true → IsNumeral 10 (without_leading_sign text)
unfolding is_number
IsNumeral-from text h =
    let ds = without_leading_sign text in
    let p = and_parts (nat_lt 0 (length ds)) (list_all is_ascii_digit ds) h in
    (grind (arith, nat_tests, p.0), AllDigits-from ds p.1)

pub is_number-from : (text : List ℕ) → IsNumeral 10 (without_leading_sign text) → is_number text ≡ true
unfolding is_number
is_number-from text h =
    let ds = without_leading_sign text in
    let some : nat_lt 0 (length ds) ≡ true = grind (arith, nat_tests, h.0) in
    let all : list_all is_ascii_digit ds ≡ true = list_all-from ds h.1 in
    rw (some, all) refl

-- the digits behind a sign decide, where there are some
pub digits_decide : (text ds : List ℕ) → ds ≡ without_leading_sign text → false ≡ (length ds == 0) → list_all is_ascii_digit ds ≡ is_number text
unfolding is_number
digits_decide text ds is some =
    let more : nat_lt 0 (length ds) ≡ true = grind (arith, nat_tests, some) in
    let same : list_all is_ascii_digit ds ≡ are_digits ds = rw more refl in
    same ∙ ap are_digits is

-- without digits it is no number
pub no_digits : (text ds : List ℕ) → ds ≡ without_leading_sign text → true ≡ (length ds == 0) → false ≡ is_number text
unfolding is_number
no_digits text ds is none =
    let empty : nat_lt 0 (length ds) ≡ false = grind (arith, nat_tests, none) in
    let same : false ≡ are_digits ds = rw empty refl in
    same ∙ ap are_digits is

-- what std's parsing says of a text
pub parsed : {E : Type 0} (text bs : List ℕ) (r : Result ℤ E) → bs ≡ text → ParsesSigned w128 10 bs r
    → SomeIff (result_ok r) ((is_number text ≡ true) × FitsSigned w128 (value_of text)) (value_of text)
unfolding value_of
parsed {E = E} text bs (Ok v) is parses =
    let P : List ℕ → Type 0 = λ l. ParsesSigned {E = E} w128 10 l (Ok v) in
    let at : P text = subst P is parses in
    ((is_number-from text at.0.0, at.0.1), at.1)
parsed {E = E} text bs (Err e) is parses =
    let P : List ℕ → Type 0 = λ l. ParsesSigned {E = E} w128 10 l (Err e) in
    let at : P text = subst P is parses in
    λ h. at (IsNumeral-from text h.0, h.1)

-- ---- a number's text is ASCII

all_ascii : (ds : List ℕ) → AllDigits 10 ds → IsAscii ds
all_ascii [] h i = omega arith
all_ascii (d ∷ ds) h zero = let r = digit_from_value d h.0 in omega (arith, r)
all_ascii (d ∷ ds) h (suc i) = all_ascii ds h.1 i

signed_ascii : (c : ℕ) (cs : List ℕ) (minus plus : Bool) → (minus ≡ true → c ≡ 45) → (plus ≡ true → c ≡ 43) → AllDigits 10 (cond minus cs (drop (cond plus 1 0) (c ∷ cs))) → IsAscii (c ∷ cs)
signed_ascii c cs true plus m p h zero = let e = m refl in omega (arith, e)
signed_ascii c cs true plus m p h (suc i) = all_ascii cs h i
signed_ascii c cs false true m p h zero = let e = p refl in omega (arith, e)
signed_ascii c cs false true m p h (suc i) = all_ascii cs h i
signed_ascii c cs false false m p h i = all_ascii (c ∷ cs) h i

tested : (c n : ℕ) → (c == n) ≡ true → c ≡ n
tested c n h = grind (arith, nat_tests)

numeral_is_ascii : (bs : List ℕ) → IsNumeral 10 (without_leading_sign bs) → IsAscii bs
numeral_is_ascii [] h i = omega arith
numeral_is_ascii (c ∷ cs) h i = signed_ascii c cs (c == 45) (c == 43) (tested c 45) (tested c 43) h.1 i

pub number_is_text : (bs : List ℕ) → is_number bs ≡ true → IsUtf8 bs
number_is_text bs h = IsUtf8-from_ascii bs (numeral_is_ascii bs (IsNumeral-from bs h))

-- ---- what the answer of a reading says

-- whether a value is in a range
abbrev pub inside : ℤ → ℤ → ℤ → Bool
inside min max v = int_le min v && int_le v max

-- a number in the range of two numbers that fit fits
between : (bound : ℕ) (min max v : ℤ) → int_le min v ≡ true → int_le v max ≡ true → mag min < bound → mag max < bound → mag v < bound
between bound min (pos m) (pos n) low high least most = let le : n ≤ m = grind (arith, nat_tests, high) in omega arith
between bound min (negsuc m) (pos n) low high least most = cc
between bound (pos m) max (negsuc n) low high least most = cc
between bound (negsuc m) max (negsuc n) low high least most = let le : n ≤ m = grind (arith, nat_tests, low) in omega arith

pub not_inside : (min max v : ℤ) → FitsSigned w128 min → FitsSigned w128 max → ¬ (FitsSigned w128 v) → inside min max v ≡ false
not_inside min max v least most wide =
    by_test (int_le min v)
    (λ low. by_test (int_le v max) (λ high. absurd (wide (record { sfits = between _ min max v low high least.sfits most.sfits }))) (λ above. rw (low, above) refl))
    (λ below. rw below refl)

no_right : (x : Bool) → (x && false) ≡ false
no_right true = refl
no_right false = refl

pub too_low : (min max v : ℤ) → int_le min v ≡ false → inside min max v ≡ false
too_low min max v low = rw low refl

pub too_high : (min max v : ℤ) → int_le v max ≡ false → inside min max v ≡ false
too_high min max v high = rw high (no_right (int_le min v))

pub no_number : (min max : ℤ) (text : List ℕ) → is_number text ≡ false → Err Spelling ≡ number_in min max text
unfolding number_in
no_number min max text other = rw other refl

pub number_outside : (min max : ℤ) (text : List ℕ) → is_number text ≡ true → inside min max (value_of text) ≡ false → Err Outside ≡ number_in min max text
unfolding number_in
number_outside min max text number out = rw (number, out) refl

pub number_inside : (min max v : ℤ) (text : List ℕ) → is_number text ≡ true → v ≡ value_of text → inside min max v ≡ true → Ok v ≡ number_in min max text
unfolding number_in
number_inside min max v text number is within =
    let here : inside min max (value_of text) ≡ true = ap (inside min max) (sym is) ∙ within in
    rw (number, here) (ap Ok is)

abbrev answer : Bool → Bool → ℤ → Result ℤ BadNumber
answer number within v = if number then (if within then Ok v else Err Outside) else Err Spelling

spelling_is : (number within : Bool) (v : ℤ) → (answer number within v ≡ Err Spelling) ↔ ¬ (IsTrue number)
spelling_is true true v = (λ h. cc, λ no. absurd (no refl))
spelling_is true false v = (λ h. cc, λ no. absurd (no refl))
spelling_is false within v = (λ h number. cc, λ no. refl)

outside_is : (number within : Bool) (v : ℤ) → (answer number within v ≡ Err Outside) ↔ (IsTrue number × ¬ (IsTrue within))
outside_is true true v = (λ h. cc, λ p. absurd (p.1 refl))
outside_is true false v = (λ h. (refl, λ within. cc), λ p. refl)
outside_is false within v = (λ h. cc, λ p. cc)

test_of : (t : Bool) → T t → t ≡ true
test_of true h = refl
test_of false h = absurd h

of_test : (t : Bool) → t ≡ true → T t
of_test true h = tt
of_test false h = cc

in_range : (min max v : ℤ) → IsTrue (inside min max v) ↔ ((min ≤ℤ v) × (v ≤ℤ max))
in_range min max v = (
  λ within. let p = and_parts (int_le min v) (int_le v max) within in (le_z_yes (of_test _ p.0), le_z_yes (of_test _ p.1)),
  λ p. let low = test_of (int_le min v) p.0.le in let high = test_of (int_le v max) p.1.le in rw (low, high) refl,
)

reads_in : (min max v : ℤ) (number within : Bool) → (IsTrue within → (min ≤ℤ v) × (v ≤ℤ max))
    → IfOk (answer number within v) (λ x. (x ≡ v) × (min ≤ℤ x) × (x ≤ℤ max))
reads_in min max v true true range = let p = range refl in (refl, p.0, p.1)
reads_in min max v true false range = tt
reads_in min max v false within range = tt

module _ (min max : ℤ) (text : List ℕ) where
  pub reads_spelling : (number_in min max text ≡ Err Spelling) ↔ ¬ (IsTrue (is_number text))
  unfolding number_in
  reads_spelling = spelling_is (is_number text) (inside min max (value_of text)) (value_of text)

  pub reads_outside : (number_in min max text ≡ Err Outside) ↔ (IsTrue (is_number text) × ¬ ((min ≤ℤ value_of text) × (value_of text ≤ℤ max)))
  unfolding number_in
  reads_outside =
      let p = outside_is (is_number text) (inside min max (value_of text)) (value_of text) in
      let r = in_range min max (value_of text) in
      (λ h. let q = p.0 h in (q.0, λ within. q.1 (r.1 within)), λ h. p.1 (h.0, λ within. h.1 (r.0 within)))

  pub reads_value : IfOk (number_in min max text) (λ v. (v ≡ value_of text) × (min ≤ℤ v) × (v ≤ℤ max))
  unfolding number_in
  reads_value = reads_in min max (value_of text) (is_number text) (inside min max (value_of text)) (λ within. (in_range min max (value_of text)).0 within)

-- ---- what is written

unsigned : (ds : List ℕ) → IsNumeral 10 ds → without_leading_sign ds ≡ ds
unsigned [] h = absurd (omega arith)
unsigned (d ∷ ds) h =
    let r = digit_from_value d h.1.0 in
    let minus : (d == 45) ≡ false = grind (arith, nat_tests, r) in
    let plus : (d == 43) ≡ false = grind (arith, nat_tests, r) in
    rw (minus, plus) refl

numeral_number : (ds : List ℕ) → IsNumeral 10 ds → is_number ds ≡ true
numeral_number ds h = is_number-from ds (let P : List ℕ → Type 0 = IsNumeral 10 in subst P (sym (unsigned ds h)) h)

numeral_value : (ds : List ℕ) → IsNumeral 10 ds → value_of ds ≡ pos (digits_value 10 ds)
unfolding value_of
numeral_value [] h = absurd (omega arith)
numeral_value (d ∷ ds) h =
    let r = digit_from_value d h.1.0 in
    let minus : (d == 45) ≡ false = grind (arith, nat_tests, r) in
    let plus : (d == 43) ≡ false = grind (arith, nat_tests, r) in
    rw (minus, plus) refl

-- a written number is spelled right
pub written_number : (z : ℤ) → FitsSigned w128 z → is_number (signed_decimal z) ≡ true
written_number (pos n) fits = numeral_number (decimal n) (decimal_is_IsNumeral_wide n (omega (arith, fits.sfits))).0
written_number (negsuc n) fits = is_number-from (45 ∷ decimal (suc n)) (decimal_is_IsNumeral_wide (suc n) (omega (arith, fits.sfits))).0

-- and has the number as its value
pub written_value : (z : ℤ) → FitsSigned w128 z → value_of (signed_decimal z) ≡ z
unfolding value_of
written_value (pos n) fits =
    let d = decimal_is_IsNumeral_wide n (omega (arith, fits.sfits)) in
    numeral_value (decimal n) d.0 ∙ ap pos d.1
written_value (negsuc n) fits =
    let d = decimal_is_IsNumeral_wide (suc n) (omega (arith, fits.sfits)) in
    ap (λ k. neg_ℤ (pos k)) d.1

digit_bytes : (ds : List ℕ) → AllDigits 10 ds → All IsNumberByte ds
digit_bytes [] h k d less = absurd (omega arith)
digit_bytes (c ∷ cs) h zero d less = let r = digit_from_value c h.0 in inl r
digit_bytes (c ∷ cs) h (suc k) d less = digit_bytes cs h.1 k d (omega arith)

minus_bytes : (ds : List ℕ) → All IsNumberByte ds → All IsNumberByte (45 ∷ ds)
minus_bytes ds h zero d less = inr refl
minus_bytes ds h (suc k) d less = h k d (omega arith)

-- and has no other bytes than digits and a sign
pub written_bytes : (z : ℤ) → FitsSigned w128 z → All IsNumberByte (signed_decimal z)
written_bytes (pos n) fits = digit_bytes (decimal n) (decimal_is_IsNumeral_wide n (omega (arith, fits.sfits))).0.1
written_bytes (negsuc n) fits = minus_bytes (decimal (suc n)) (digit_bytes (decimal (suc n)) (decimal_is_IsNumeral_wide (suc n) (omega (arith, fits.sfits))).0.1)

plain_byte : (c : ℕ) → digit_value c < 10 → ends_token c ≡ false
plain_byte c h =
    let r = digit_from_value c h in
    let space : (c == 32) ≡ false = grind (arith, nat_tests, r) in
    let tab : (c == 9) ≡ false = grind (arith, nat_tests, r) in
    let colon : (c == 58) ≡ false = grind (arith, nat_tests, r) in
    let slash : (c == 47) ≡ false = grind (arith, nat_tests, r) in
    rw (space, tab, colon, slash) refl

digits_plain : (ds : List ℕ) → AllDigits 10 ds → list_all (λ x. not (ends_token x)) ds ≡ true
digits_plain [] h = refl
digits_plain (c ∷ cs) h = let first = plain_byte c h.0 in let rest = digits_plain cs h.1 in rw (first, rest) refl

-- and is one token before a blank, a mark or the end
pub written_token : (z : ℤ) → FitsSigned w128 z → (place : ℕ) (rest : List ℕ) → goes_on rest ≡ false
    → tokens place (signed_decimal z ++ rest) ≡ token place (signed_decimal z) ∷ tokens (place + length (signed_decimal z)) rest
written_token (pos n) fits =
    let d = (decimal_is_IsNumeral_wide n (omega (arith, fits.sfits))).0 in
    run_of (decimal n) d.0 (digits_plain (decimal n) d.1)
written_token (negsuc n) fits =
    let d = (decimal_is_IsNumeral_wide (suc n) (omega (arith, fits.sfits))).0 in
    let plain = digits_plain (decimal (suc n)) d.1 in
    run_of (45 ∷ decimal (suc n)) (omega arith) plain

kept_byte : (c : ℕ) → digit_value c < 10 → is_kept c ≡ true
kept_byte c h =
    let r = digit_from_value c h in
    let feed : (c == 10) ≡ false = grind (arith, nat_tests, r) in
    let return' : (c == 13) ≡ false = grind (arith, nat_tests, r) in
    let comment : (c == 35) ≡ false = grind (arith, nat_tests, r) in
    rw (feed, return', comment) refl

digits_kept : (ds : List ℕ) → AllDigits 10 ds → list_all is_kept ds ≡ true
digits_kept [] h = refl
digits_kept (c ∷ cs) h = let first = kept_byte c h.0 in let rest = digits_kept cs h.1 in rw (first, rest) refl

-- and stands within a line
pub written_kept : (z : ℤ) → FitsSigned w128 z → list_all is_kept (signed_decimal z) ≡ true
written_kept (pos n) fits = digits_kept (decimal n) (decimal_is_IsNumeral_wide n (omega (arith, fits.sfits))).0.1
written_kept (negsuc n) fits = digits_kept (decimal (suc n)) (decimal_is_IsNumeral_wide (suc n) (omega (arith, fits.sfits))).0.1
