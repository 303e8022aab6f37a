-- The tokens of a line from its front.
use Rattle.std.proofs.Common.{◌≡◌, ◌||◌, ◌&&◌, ℕ, suc, ◌+◌, ◌<◌, ◌≤◌, Bool, true, false, not, cond, List, [], ◌∷◌, ◌++◌, length, take, drop, refl, ap, sym, ◌∙◌, subst, arith, get_or, IsTrue, ◌↔◌, nat_lt, length-drop}
use Rattle.std.specs.List.{position_or_len, list_all}
use Rattle.std.proofs.lemmas.Bool.Decides.{nat_tests}
use Rattle.std.proofs.lemmas.List.{drop_all}
use Rattle.wide_int.proofs.Bools.{by_test, not_true}
use Rattle.line_text.specs.Tokens.{Word, token, tokens, widened, goes_on, is_blank, is_mark, ends_token, begins_blank}

-- a blank is skipped
pub blank_step : (place b : ℕ) (bs : List ℕ) → is_blank b ≡ true → tokens place (b ∷ bs) ≡ tokens (place + 1) bs
unfolding tokens
blank_step place b bs blank = rw blank refl

no_mark : (b : ℕ) → is_mark b ≡ true → is_blank b ≡ false
no_mark b mark = grind (arith, nat_tests)

-- a mark is a token by itself
pub mark_step : (place b : ℕ) (bs : List ℕ) → is_mark b ≡ true → tokens place (b ∷ bs) ≡ token place (b ∷ []) ∷ tokens (place + 1) bs
unfolding tokens
mark_step place b bs mark = let solid = no_mark b mark in rw (solid, mark) refl

pub neither : (x y : Bool) → (x || y) ≡ false → (x ≡ false) × (y ≡ false)
neither true y h = cc
neither false y h = (refl, h)

-- a byte of a run begins a token, or goes before the bytes of the token that goes on
pub run_step : (place b : ℕ) (bs : List ℕ) → ends_token b ≡ false
    → tokens place (b ∷ bs) ≡ cond (goes_on bs) (widened place b (tokens (place + 1) bs)) (token place (b ∷ []) ∷ tokens (place + 1) bs)
unfolding tokens
run_step place b bs run =
    let both = neither (is_blank b) (is_mark b) run in
    let solid : is_blank b ≡ false = both.0 in
    let plain : is_mark b ≡ false = both.1 in
    rw (solid, plain) refl

abbrev run_len : List ℕ → ℕ
run_len bs = position_or_len ends_token bs

-- what is claimed of a byte of a run and the bytes behind it
abbrev BeginsToken : ℕ → ℕ → List ℕ → ℕ → Type 0
BeginsToken place b bs n = tokens place (b ∷ bs) ≡ token place (b ∷ take n bs) ∷ tokens (place + suc n) (drop n bs)

run_ends : (place b d : ℕ) (ds : List ℕ) → ends_token b ≡ false → ends_token d ≡ true → BeginsToken place b (d ∷ ds) (run_len (d ∷ ds))
run_ends place b d ds run stop = run_step place b (d ∷ ds) run ∙ rw stop refl

run_more : (d : ℕ) (ds : List ℕ) → ends_token d ≡ false → run_len (d ∷ ds) ≡ suc (run_len ds)
run_more d ds more = rw more (omega arith)

run_goes_on : (place b d : ℕ) (ds : List ℕ) → ends_token b ≡ false → ends_token d ≡ false → BeginsToken (place + 1) d ds (run_len ds)
    → BeginsToken place b (d ∷ ds) (run_len (d ∷ ds))
run_goes_on place b d ds run more rest =
    let m = run_len ds in
    let behind : place + 1 + suc m ≡ place + suc (suc m) = omega arith in
    let longer : BeginsToken place b (d ∷ ds) (suc m) =
    run_step place b (d ∷ ds) run ∙ rw more (ap (widened place b) rest ∙ ap (λ k. token place (b ∷ d ∷ take m ds) ∷ tokens k (drop m ds)) behind) in
    subst (BeginsToken place b (d ∷ ds)) (sym (run_more d ds more)) longer

-- a run of bytes up to the next blank or mark is a token
pub run_token : (place b : ℕ) (bs : List ℕ) → ends_token b ≡ false
    → tokens place (b ∷ bs) ≡ token place (b ∷ take (position_or_len ends_token bs) bs) ∷ tokens (place + suc (position_or_len ends_token bs)) (drop (position_or_len ends_token bs) bs)
run_token place b [] run = run_step place b [] run
run_token place b (d ∷ ds) run =
    by_test (ends_token d) (run_ends place b d ds run) (λ more. run_goes_on place b d ds run more (run_token (place + 1) d ds more))

-- the token of a text that begins with a mark
pub mark_first : (bs : List ℕ) → 0 < length bs → is_mark (get_or bs 0 0) ≡ true
    → (place : ℕ) → tokens place bs ≡ token place (take 1 bs) ∷ tokens (place + 1) (drop 1 bs)
mark_first [] some mark place = absurd (omega arith)
mark_first (b ∷ bs) some mark place = mark_step place b bs mark

-- the token of a text that begins with neither a blank nor a mark
pub run_first : (bs : List ℕ) → 0 < length bs → begins_blank bs ≡ false → is_mark (get_or bs 0 0) ≡ false → (n : ℕ) → n ≡ position_or_len ends_token bs
    → (place : ℕ) → tokens place bs ≡ token place (take n bs) ∷ tokens (place + n) (drop n bs)
run_first [] some solid plain n is place = absurd (omega arith)
run_first (b ∷ bs) some solid plain n is place =
    let run : ends_token b ≡ false = rw (solid, plain) refl in
    let P : ℕ → Type 0 = λ k. tokens place (b ∷ bs) ≡ token place (take k (b ∷ bs)) ∷ tokens (place + k) (drop k (b ∷ bs)) in
    subst P (sym (is ∙ run_more b bs run)) (run_token place b bs run)

no_bytes : (place : ℕ) → tokens place [] ≡ []
unfolding tokens
no_bytes place = refl

-- without bytes there is no token
pub no_token : (bs : List ℕ) → length bs ≡ 0 → (place : ℕ) → tokens place bs ≡ []
no_token [] none place = no_bytes place
no_token (b ∷ bs) none place = absurd (omega arith)

some_length : (ts : List Word) (w : Word) (ws : List Word) → ts ≡ w ∷ ws → 0 < length ts
some_length ts w ws is = let long : length ts ≡ suc (length ws) = ap length is in omega arith

-- bytes that don't begin with a blank have a token
solid_token : (place : ℕ) (bs : List ℕ) → 0 < length bs → begins_blank bs ≡ false → 0 < length (tokens place bs)
solid_token place bs some solid =
    by_test (is_mark (get_or bs 0 0)) (λ mark. some_length _ _ _ (mark_first bs some mark place))
    (λ plain. some_length _ _ _ (run_first bs some solid plain _ refl place))

-- whether bytes are left behind the blanks tells whether a token is left
pub token_left : (place n : ℕ) (bs : List ℕ) → n ≤ length bs → tokens place bs ≡ tokens (place + n) (drop n bs) → begins_blank (drop n bs) ≡ false
    → IsTrue (nat_lt n (length bs)) ↔ (0 < length (tokens place bs))
token_left place n bs within same solid = (
  λ less. rw same (solid_token (place + n) (drop n bs) (grind (arith, nat_tests, length-drop n bs)) solid),
  λ some. by_test (nat_lt n (length bs)) (λ holds. holds)
      (λ fails.
      let none : drop n bs ≡ [] = drop_all n bs (grind (arith, nat_tests)) in
      let empty : length (tokens place bs) ≡ 0 = ap length (same ∙ ap (tokens (place + n)) none ∙ no_bytes (place + n)) in
      absurd (omega arith)),
)

-- ---- laws on texts that are put together, for the crates above

pub and_parts : (x y : Bool) → (x && y) ≡ true → (x ≡ true) × (y ≡ true)
and_parts true y h = (refl, h)
and_parts false y h = cc

-- a run of bytes before a blank, a mark or the end is a token
pub run_before : (place b : ℕ) (bs rest : List ℕ) → list_all (λ x. not (ends_token x)) (b ∷ bs) ≡ true → goes_on rest ≡ false
    → tokens place ((b ∷ bs) ++ rest) ≡ token place (b ∷ bs) ∷ tokens (place + length (b ∷ bs)) rest
run_before place b [] rest plain stop =
    let run : ends_token b ≡ false = not_true (ends_token b) (and_parts _ _ plain).0 in
    run_step place b rest run ∙ rw stop refl
run_before place b (d ∷ ds) rest plain stop =
    let first = and_parts (not (ends_token b)) (list_all (λ x. not (ends_token x)) (d ∷ ds)) plain in
    let run : ends_token b ≡ false = not_true (ends_token b) first.0 in
    let more : ends_token d ≡ false = not_true (ends_token d) (and_parts (not (ends_token d)) _ first.1).0 in
    let behind : place + 1 + suc (length ds) ≡ place + suc (suc (length ds)) = omega arith in
    run_step place b (d ∷ ds ++ rest) run
    ∙ rw more (ap (widened place b) (run_before (place + 1) d ds rest first.1 stop) ∙ ap (λ k. token place (b ∷ d ∷ ds) ∷ tokens k rest) behind)

pub run_of : (bs : List ℕ) → 0 < length bs → list_all (λ x. not (ends_token x)) bs ≡ true
    → (place : ℕ) (rest : List ℕ) → goes_on rest ≡ false → tokens place (bs ++ rest) ≡ token place bs ∷ tokens (place + length bs) rest
run_of [] some plain place rest stop = absurd (omega arith)
run_of (b ∷ bs) some plain place rest stop = run_before place b bs rest plain stop
