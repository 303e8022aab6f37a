-- The lines of a source from its front.
use Rattle.std.proofs.Common.{◌≡◌, ℕ, suc, ◌+◌, ◌<◌, ◌≤◌, true, false, not, List, [], ◌∷◌, length, take, drop, min, refl, ap, sym, ◌∙◌, subst, nat_lt, arith}
use Rattle.std.specs.List.{position_or_len}
use Rattle.std.proofs.lemmas.List.{drop_all, length-take-le}
use Rattle.std.proofs.lemmas.List.Sums.{prefix_len-le-length}
use Rattle.line_text.specs.Tokens.{is_line_feed, content, tokens}
use Rattle.line_text.specs.Lines.{split, onto_first, rows_from, with_row}
use Rattle.std.proofs.lemmas.Bool.Decides.{nat_tests}
use Rattle.wide_int.proofs.Bools.{by_test}

abbrev line_len : List ℕ → ℕ
line_len bs = position_or_len is_line_feed bs

pub split-nil : split [] ≡ []
unfolding split
split-nil = refl

pub split_at_feed : (b : ℕ) (bs : List ℕ) → is_line_feed b ≡ true → split (b ∷ bs) ≡ [] ∷ split bs
unfolding split
split_at_feed b bs feed = rw feed refl

pub split_onto : (b : ℕ) (bs : List ℕ) → is_line_feed b ≡ false → split (b ∷ bs) ≡ onto_first b (split bs)
unfolding split
split_onto b bs other = rw other refl

-- the bytes begin with a line of n bytes
abbrev BeginsLine : List ℕ → ℕ → Type 0
BeginsLine bs n = split bs ≡ take n bs ∷ split (drop (n + 1) bs)

feed_first : (b : ℕ) (bs : List ℕ) → is_line_feed b ≡ true → BeginsLine (b ∷ bs) (line_len (b ∷ bs))
feed_first b bs feed = rw feed (split_at_feed b bs feed)

longer : (b : ℕ) (bs : List ℕ) → is_line_feed b ≡ false → line_len (b ∷ bs) ≡ suc (line_len bs)
longer b bs other = rw other (omega arith)

last_byte : (b : ℕ) → is_line_feed b ≡ false → BeginsLine (b ∷ []) (line_len (b ∷ []))
last_byte b other = subst (BeginsLine (b ∷ [])) (sym (longer b [] other)) (split_onto b [] other ∙ rw split-nil refl)

goes_before : (b : ℕ) (bs : List ℕ) (n : ℕ) → is_line_feed b ≡ false → BeginsLine bs n → BeginsLine (b ∷ bs) (suc n)
goes_before b bs n other rest =
    let behind : suc (n + 1) ≡ suc n + 1 = omega arith in
    split_onto b bs other ∙ ap (onto_first b) rest ∙ ap (λ k. (b ∷ take n bs) ∷ split (drop k (b ∷ bs))) behind

-- the first line goes up to the first line feed
pub first_line : (bs : List ℕ) → 0 < length bs → BeginsLine bs (line_len bs)
first_line [] some = absurd (omega arith)
first_line (b ∷ []) some = by_test (is_line_feed b) (feed_first b []) (last_byte b)
first_line (b ∷ d ∷ ds) some = by_test (is_line_feed b) (feed_first b (d ∷ ds)) (λ other. subst (BeginsLine (b ∷ d ∷ ds)) (sym (longer b (d ∷ ds) other)) (goes_before b (d ∷ ds) _ other (first_line (d ∷ ds) (omega arith))))

no_bytes_behind : (n : ℕ) (bs : List ℕ) → length bs ≤ n → split (drop n bs) ≡ []
no_bytes_behind n bs past = ap split (drop_all n bs past) ∙ split-nil

-- what follows a line of n bytes: its line feed is skipped, if it has one
abbrev behind_line : ℕ → List ℕ → ℕ
behind_line n bs = min (n + 1) (length bs)

same_behind : (n : ℕ) (bs : List ℕ) → n ≤ length bs → split (drop (n + 1) bs) ≡ split (drop (behind_line n bs) bs)
same_behind n bs within =
    by_test (nat_lt n (length bs)) (λ less. ap (λ k. split (drop k bs)) (grind (arith, nat_tests)))
    (λ fails. no_bytes_behind (n + 1) bs (grind (arith, nat_tests)) ∙ sym (no_bytes_behind (behind_line n bs) bs (grind (arith, nat_tests))))

-- a source is its first line and what follows it
pub first_split : (bs : List ℕ) (n : ℕ) → 0 < length bs → n ≡ line_len bs → split bs ≡ take n bs ∷ split (drop (min (n + 1) (length bs)) bs)
first_split bs n some is =
    let within : line_len bs ≤ length bs = prefix_len-le-length (λ x. not (is_line_feed x)) bs in
    subst (BeginsLine bs) (sym is) (first_line bs some) ∙ ap (λ ls. take n bs ∷ ls) (same_behind n bs (omega (arith, is, within)))

no_rows : (place number : ℕ) (ls : List (List ℕ)) → ls ≡ [] → rows_from place number ls ≡ []
unfolding rows_from
no_rows place number ls none = ap (rows_from place number) none

-- the place behind a line
same_rows : (place number n : ℕ) (bs : List ℕ) → n ≤ length bs
    → rows_from (place + length (take n bs) + 1) number (split (drop (behind_line n bs) bs)) ≡ rows_from (place + behind_line n bs) number (split (drop (behind_line n bs) bs))
same_rows place number n bs within =
    let next = behind_line n bs in
    let long : length (take n bs) ≡ n = length-take-le n bs within in
    by_test (nat_lt n (length bs)) (λ less. ap (λ k. rows_from k number (split (drop next bs))) (grind (arith, nat_tests, long)))
    (λ fails.
    let none : split (drop next bs) ≡ [] = no_bytes_behind next bs (grind (arith, nat_tests)) in
    no_rows _ number _ none ∙ sym (no_rows _ number _ none))

pub rows_of_line : (place number : ℕ) (l : List ℕ) (ls : List (List ℕ))
    → rows_from place number (l ∷ ls) ≡ with_row number (tokens place (content l)) (rows_from (place + length l + 1) (number + 1) ls)
unfolding rows_from
rows_of_line place number l ls = refl

-- the rows of a source are the one of its first line, if it has tokens, and those of what follows
pub first_row : (place number n : ℕ) (bs : List ℕ) → 0 < length bs → n ≡ line_len bs
    → rows_from place number (split bs) ≡ with_row number (tokens place (content (take n bs)))
    (rows_from (place + min (n + 1) (length bs)) (number + 1) (split (drop (min (n + 1) (length bs)) bs)))
first_row place number n bs some is =
    let within : line_len bs ≤ length bs = prefix_len-le-length (λ x. not (is_line_feed x)) bs in
    ap (rows_from place number) (first_split bs n some is)
    ∙ rows_of_line place number (take n bs) (split (drop (behind_line n bs) bs))
    ∙ ap (with_row number (tokens place (content (take n bs)))) (same_rows place (number + 1) n bs (omega (arith, is, within)))

-- one line fewer is left behind the first line
pub lines_left : (n : ℕ) (bs : List ℕ) → 0 < length bs → n ≡ line_len bs → length (split bs) ≡ suc (length (split (drop (min (n + 1) (length bs)) bs)))
lines_left n bs some is = ap length (first_split bs n some is)

onto_longer : (b : ℕ) (ls : List (List ℕ)) → length (onto_first b ls) ≤ suc (length ls)
onto_longer b [] = omega arith
onto_longer b (l ∷ ls) = omega arith

-- there are at most as many lines as bytes
pub lines_within : (bs : List ℕ) → length (split bs) ≤ length bs
lines_within [] = let none = ap length split-nil in omega (arith, none)
lines_within (b ∷ bs) = by_test (is_line_feed b)
    (λ feed. let more : length (split (b ∷ bs)) ≡ suc (length (split bs)) = ap length (split_at_feed b bs feed) in omega (arith, more, lines_within bs))
    (λ other.
    let onto : length (split (b ∷ bs)) ≡ length (onto_first b (split bs)) = ap length (split_onto b bs other) in
    omega (arith, onto, onto_longer b (split bs), lines_within bs))

no_bytes_left : (bs : List ℕ) → length bs ≡ 0 → split bs ≡ []
no_bytes_left [] none = split-nil
no_bytes_left (b ∷ bs) none = absurd (omega arith)

-- without bytes there are no rows
pub no_rows_left : (place number : ℕ) (bs : List ℕ) → length bs ≡ 0 → rows_from place number (split bs) ≡ []
no_rows_left place number bs none = no_rows place number (split bs) (no_bytes_left bs none)

-- without bytes there are no lines
pub no_lines_left : (bs : List ℕ) → length bs ≡ 0 → length (split bs) ≡ 0
no_lines_left bs none = ap length (no_bytes_left bs none)
