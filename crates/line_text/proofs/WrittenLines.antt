-- Lines that are put together, for the crates above.
use Rattle.std.proofs.Common.{◌≡◌, ◌==◌, ◌&&◌, ℕ, ◌+◌, ◌-◌, ◌<◌, Bool, true, false, not, List, [], ◌∷◌, ◌++◌, length, take, refl, ap, ◌∙◌, arith, get_or, slice_index}
use Rattle.std.specs.List.{list_all, position_or_len}
use Rattle.std.proofs.lemmas.List.{take_all}
use Rattle.std.proofs.lemmas.List.Sums.{AllPass-from_list_all, position_or_len_is}
use Rattle.line_text.specs.Tokens.{is_line_feed, is_comment, content, tokens}
use Rattle.line_text.specs.Lines.{split, onto_first, rows_from, with_row}
use Rattle.line_text.proofs.LineLemmas.{split_at_feed, split_onto, rows_of_line}
use Rattle.line_text.proofs.TokenLemmas.{and_parts}

-- the byte doesn't end a line or begin a comment
abbrev pub is_kept : ℕ → Bool
is_kept b = not (is_line_feed b) && (not (b == 13) && not (is_comment b))

kept_parts : (x y z : Bool) → (not x && (not y && not z)) ≡ true → (x ≡ false) × (y ≡ false) × (z ≡ false)
kept_parts true y z h = cc
kept_parts false true z h = cc
kept_parts false false true h = cc
kept_parts false false false h = (refl, refl, refl)

-- such bytes before a line feed are a line
pub line_before : (l rest : List ℕ) → list_all is_kept l ≡ true → split (l ++ 10 ∷ rest) ≡ l ∷ split rest
line_before [] rest kept = split_at_feed 10 rest refl
line_before (b ∷ l) rest kept =
    let p = and_parts (is_kept b) (list_all is_kept l) kept in
    let other : is_line_feed b ≡ false = (kept_parts (is_line_feed b) (b == 13) (is_comment b) p.0).0 in
    split_onto b (l ++ 10 ∷ rest) other ∙ ap (onto_first b) (line_before l rest p.1)

kept_at : (l : List ℕ) → list_all is_kept l ≡ true → (k : ℕ) → k < length l → ((get_or l k 0 == 13) ≡ false) × (is_comment (get_or l k 0) ≡ false)
kept_at l kept k less =
    let b = get_or l k 0 in
    let p = kept_parts (is_line_feed b) (b == 13) (is_comment b) (AllPass-from_list_all is_kept l kept k 0 less) in
    (p.1, p.2)

last_kept : (l : List ℕ) → list_all is_kept l ≡ true → (slice_index l (length l - 1) == 13) ≡ false
last_kept [] kept = refl
last_kept (b ∷ bs) kept = (kept_at (b ∷ bs) kept (length (b ∷ bs) - 1) (omega arith)).0

-- a line of such bytes is its own content
pub content_kept : (l : List ℕ) → list_all is_kept l ≡ true → content l ≡ l
unfolding content
content_kept l kept =
    let last = last_kept l kept in
    let all : position_or_len is_comment l ≡ length l =
    position_or_len_is is_comment l (length l) 0 (omega arith) (λ k less. (kept_at l kept k less).1) (λ past. absurd (omega arith)) in
    rw last (ap (λ n. take n l) all ∙ take_all (length l) l (omega arith))

-- the row of such a line, before the rows of what follows
pub row_before : (place number : ℕ) (l rest : List ℕ) → list_all is_kept l ≡ true
    → rows_from place number (split (l ++ 10 ∷ rest)) ≡ with_row number (tokens place l) (rows_from (place + length l + 1) (number + 1) (split rest))
row_before place number l rest kept =
    ap (rows_from place number) (line_before l rest kept)
    ∙ rows_of_line place number l (split rest)
    ∙ ap (λ c. with_row number (tokens place c) (rows_from (place + length l + 1) (number + 1) (split rest))) (content_kept l kept)
