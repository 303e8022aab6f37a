-- The symbols of words, taken one after the other.
use Rattle.std.proofs.Common.{◌≡◌, ℕ, suc, zero, ◌<◌, ◌≤◌, ◌==◌, Bool, true, false, List, [], ◌∷◌, ◌++◌, length, drop, take, get_or, ℤ, Ok, Err, Option, Some, None, refl, sym, ap, ap₂, subst, ◌∙◌, append_assoc, append-nil, arith, if◌then◌else◌, length-drop}
use Rattle.std.proofs.lemmas.List.Sums.{position_or_len_is}
use Rattle.std.specs.Char.{is_ascii_digit}
use Rattle.wide_int.proofs.Bools.{by_test}
use Rattle.poly_text.specs.declared.symbols.Symbol.TheVariants.{Digits}
use Rattle.poly_text.specs.declared.fault.Kind.TheVariants.{Grammar}
use Rattle.support_text.specs.Faults.{Reading}
use Rattle.poly_text.specs.Faults.{fault}
use Rattle.poly_text.specs.declared.symbols.Symbol.{Symbol}
use Rattle.poly_text.specs.Symbols.{mark, one_byte, digit_count, ends_digits, value_of_digits, symbols_in, first_symbol, followed, joined, behind, symbols_from, symbols_of_word, symbols_of, Appends}

abbrev pub IsLong : Option (Symbol × ℕ) → Type 0
IsLong None = Unit {0}
IsLong (Some p) = 1 ≤ p.1

digits_long : (b : ℕ) (bs : List ℕ) → is_ascii_digit b ≡ true → 1 ≤ digit_count (b ∷ bs)
unfolding digit_count
digits_long b bs h = rw h (omega arith)

mark_long : (o : Option Symbol) → IsLong (one_byte o)
mark_long None = tt
mark_long (Some s) = omega arith

long_if : (t : Bool) (o p : Option (Symbol × ℕ)) → (t ≡ true → IsLong o) → (t ≡ false → IsLong p) → IsLong (if t then o else p)
long_if true o p f g = f refl
long_if false o p f g = g refl

pub symbol_long : (bs : List ℕ) → IsLong (first_symbol bs)
unfolding first_symbol
symbol_long [] = tt
symbol_long (b ∷ bs) =
    long_if (is_ascii_digit b) _ _ (λ h. digits_long b bs h)
    (λ h. long_if (b == 120) _ _ (λ e. long_if (digit_count bs == 0) _ _ (λ z. tt) (λ z. omega arith)) (λ e. mark_long (mark b)))

shorter : (n k : ℕ) (bs : List ℕ) → 1 ≤ k → length bs ≤ suc n → length (drop k bs) ≤ n
shorter n k bs h e = let l = length-drop k bs in omega (arith, l)

same_behind : (f g : List ℕ → Option (List Symbol)) (bs : List ℕ) (o : Option (Symbol × ℕ)) → IsLong o → ((n : ℕ) → 1 ≤ n → f (drop n bs) ≡ g (drop n bs)) → behind f bs o ≡ behind g bs o
same_behind f g bs None long h = refl
same_behind f g bs (Some p) long h = ap (followed p.0) (h p.1 long)

-- what is allowed beyond the length makes no difference
pub enough : (m k : ℕ) (bs : List ℕ) → length bs ≤ m → length bs ≤ k → symbols_from m bs ≡ symbols_from k bs
unfolding symbols_from
enough m k [] h e = refl
enough zero k (b ∷ bs) h e = absurd (omega arith)
enough (suc m) zero (b ∷ bs) h e = absurd (omega arith)
enough (suc m) (suc k) (b ∷ bs) h e =
    same_behind (symbols_from m) (symbols_from k) (b ∷ bs) (first_symbol (b ∷ bs)) (symbol_long (b ∷ bs))
    (λ n long. enough m k (drop n (b ∷ bs)) (shorter m n (b ∷ bs) long h) (shorter k n (b ∷ bs) long e))

-- symbols behind those before
abbrev pub prefixed : List Symbol → Option (List Symbol) → Option (List Symbol)
prefixed made None = None
prefixed made (Some ss) = Some (made ++ ss)

followed_prefix : (made : List Symbol) (s : Symbol) (o : Option (List Symbol)) → prefixed made (followed s o) ≡ prefixed (made ++ s ∷ []) o
followed_prefix made s None = refl
followed_prefix made s (Some ss) = ap (λ (l : List Symbol). Some l) (sym (append_assoc made (s ∷ []) ss))

pub word_more : (made : List Symbol) (bs : List ℕ) (p : Symbol × ℕ) (whole : Option (List Symbol)) → 0 < length bs → first_symbol bs ≡ Some p → prefixed made (symbols_of_word bs) ≡ whole
    → prefixed (made ++ p.0 ∷ []) (symbols_of_word (drop p.1 bs)) ≡ whole
unfolding symbols_of_word symbols_from
word_more made [] p whole h e so_far = absurd (omega arith)
word_more made (b ∷ bs) p whole h e so_far =
    let long : IsLong (Some p) = subst IsLong e (symbol_long (b ∷ bs)) in
    let rest = enough (length bs) (length (drop p.1 (b ∷ bs))) (drop p.1 (b ∷ bs)) (shorter (length bs) p.1 (b ∷ bs) long (omega arith)) (omega arith) in
    let one : symbols_from (length (b ∷ bs)) (b ∷ bs) ≡ followed p.0 (symbols_from (length bs) (drop p.1 (b ∷ bs))) = ap (behind (symbols_from (length bs)) (b ∷ bs)) e in
    sym (followed_prefix made p.0 (symbols_of_word (drop p.1 (b ∷ bs)))) ∙ ap (λ (o : Option (List Symbol)). prefixed made (followed p.0 o)) (sym rest) ∙ ap (prefixed made) (sym one) ∙ so_far

pub word_fails : (made : List Symbol) (bs : List ℕ) (whole : Option (List Symbol)) → 0 < length bs → first_symbol bs ≡ None → prefixed made (symbols_of_word bs) ≡ whole → whole ≡ None
unfolding symbols_of_word symbols_from
word_fails made [] whole h e so_far = absurd (omega arith)
word_fails made (b ∷ bs) whole h e so_far =
    let one : symbols_from (length (b ∷ bs)) (b ∷ bs) ≡ None = ap (behind (symbols_from (length bs)) (b ∷ bs)) e in
    sym so_far ∙ ap (prefixed made) one

pub word_ends : (made : List Symbol) (bs : List ℕ) (whole : Option (List Symbol)) → length bs ≡ 0 → prefixed made (symbols_of_word bs) ≡ whole → whole ≡ Some made
unfolding symbols_of_word symbols_from
word_ends made [] whole h so_far = sym so_far ∙ ap (λ (l : List Symbol). Some l) (append-nil made)
word_ends made (b ∷ bs) whole h so_far = absurd (omega (arith, h))

-- ---- the first symbol

no_digits : (b : ℕ) (bs : List ℕ) → is_ascii_digit b ≡ false → digit_count (b ∷ bs) ≡ 0
unfolding digit_count
no_digits b bs h = rw h refl

digits_found : (b : ℕ) (bs : List ℕ) → is_ascii_digit b ≡ true → first_symbol (b ∷ bs) ≡ Some (Digits (value_of_digits (take (digit_count (b ∷ bs)) (b ∷ bs))), digit_count (b ∷ bs))
unfolding first_symbol
digits_found b bs h = rw h refl

mark_found : (b : ℕ) (bs : List ℕ) → is_ascii_digit b ≡ false → (b == 120) ≡ false → first_symbol (b ∷ bs) ≡ one_byte (mark b)
unfolding first_symbol
mark_found b bs h e = rw (h, e) refl

none_counted : digit_count [] ≡ 0
unfolding digit_count
none_counted = refl

pub digits_are : (bs front : List ℕ) (count : ℕ) (v : Option ℤ) → 0 < count → count ≡ digit_count bs → front ≡ take count bs → v ≡ value_of_digits front → Some (Digits v, count) ≡ first_symbol bs
digits_are [] front count v h e f g = absurd (let z = none_counted in omega (arith, e, z))
digits_are (b ∷ bs) front count v h e f g =
    let yes : is_ascii_digit b ≡ true = by_test (is_ascii_digit b) (λ t. t) (λ t. absurd (let z = no_digits b bs t in omega (arith, e, z))) in
    ap₂ (λ (w : Option ℤ) (n : ℕ). Some (Digits w, n)) (g ∙ ap value_of_digits (f ∙ ap (λ (n : ℕ). take n (b ∷ bs)) e)) e ∙ sym (digits_found b bs yes)

pub mark_is : (bs : List ℕ) → 0 < length bs → digit_count bs ≡ 0 → (get_or bs 0 0 == 120) ≡ false → one_byte (mark (get_or bs 0 0)) ≡ first_symbol bs
mark_is [] h e f = absurd (omega arith)
mark_is (b ∷ bs) h e f =
    let no : is_ascii_digit b ≡ false = by_test (is_ascii_digit b) (λ t. absurd (let z = digits_long b bs t in omega (arith, e, z))) (λ t. t) in
    sym (mark_found b bs no f)

-- where the first byte of a kind stands
pub first_at : (xs : List ℕ) (i : ℕ) → i ≤ length xs → ((k : ℕ) → k < i → ends_digits (get_or xs k 0) ≡ false) → ends_digits (get_or xs i 0) ≡ true → i ≡ digit_count xs
unfolding digit_count
first_at xs i within below at = sym (position_or_len_is ends_digits xs i 0 within below (λ _. at))

pub none_at : (xs : List ℕ) (i : ℕ) → i ≤ length xs → ((k : ℕ) → k < i → ends_digits (get_or xs k 0) ≡ false) → length xs ≤ i → i ≡ digit_count xs
unfolding digit_count
none_at xs i within below past = sym (position_or_len_is ends_digits xs i 0 within below (λ less. absurd (omega arith)))

-- the answer of a word
pub word_read : (before after : List Symbol) (o : Option (List Symbol)) → prefixed before o ≡ Some after → Appends true before after o
word_read before after None e = absurd cc
word_read before after (Some ss) e = (refl, cc)

pub word_not : (before after : List Symbol) (o : Option (List Symbol)) → prefixed before o ≡ None → Appends false before after o
word_not before after None e = refl
word_not before after (Some ss) e = absurd cc

-- ---- lines

joined_more : (before after : List Symbol) (o p : Option (List Symbol)) → Appends true before after o → prefixed after p ≡ prefixed before (joined o p)
joined_more before after None p a = absurd cc
joined_more before after (Some ss) None a = refl
joined_more before after (Some ss) (Some ts) a = ap (λ (l : List Symbol). Some l) (ap (λ (l : List Symbol). l ++ ts) a.1 ∙ append_assoc before ss ts)

pub line_more : (before after : List Symbol) (w : List ℕ) (ws : List (List ℕ)) (whole : Option (List Symbol)) → Appends true before after (symbols_of_word w) → prefixed before (symbols_of (w ∷ ws)) ≡ whole
    → prefixed after (symbols_of ws) ≡ whole
unfolding symbols_of
line_more before after w ws whole a so_far = joined_more before after (symbols_of_word w) (symbols_of ws) a ∙ so_far

joined_fails : (before after : List Symbol) (o p : Option (List Symbol)) → Appends false before after o → prefixed before (joined o p) ≡ None
joined_fails before after None p a = refl
joined_fails before after (Some ss) p a = absurd (cc)

pub line_fails : (before after : List Symbol) (w : List ℕ) (ws : List (List ℕ)) (whole : Option (List Symbol)) → Appends false before after (symbols_of_word w) → prefixed before (symbols_of (w ∷ ws)) ≡ whole → whole ≡ None
unfolding symbols_of
line_fails before after w ws whole a so_far = sym so_far ∙ joined_fails before after (symbols_of_word w) (symbols_of ws) a

abbrev pub bad_line : ℕ → Reading (List Symbol)
bad_line line = Err (fault line Grammar)

pub line_bad : (o : Option (List Symbol)) (line : ℕ) → prefixed [] o ≡ None → symbols_in line o ≡ Err (fault line Grammar)
line_bad None line h = refl
line_bad (Some ss) line h = absurd cc

abbrev pub good : List Symbol → Option (List Symbol)
good ss = Some ss

same_symbols : (ss ts : List Symbol) → good ss ≡ good ts → ss ≡ ts
same_symbols ss ts e = cc

pub line_done : (o : Option (List Symbol)) (line : ℕ) (made : List Symbol) → prefixed made (symbols_of []) ≡ prefixed [] o → symbols_in line o ≡ Ok made
unfolding symbols_of
line_done None line made h = absurd cc
line_done (Some ss) line made h = ap (λ (l : List Symbol). Ok l) (sym (same_symbols (made ++ []) ss h) ∙ append-nil made)
