-- The lines of a text are those whose words were written.
use Rattle.std.proofs.Common.{◌≡◌, ℕ, ◌+◌, ◌<◌, true, false, not, ℤ, List, [], ◌∷◌, ◌++◌, map, length, refl, sym, ap, ◌∙◌, append_assoc, append-nil, arith}
use Rattle.std.specs.Prelude.{FitsSigned, flat_map}
use Rattle.std.specs.Int.{w128}
use Rattle.std.specs.List.{join_with_byte, list_all}
use Rattle.std.specs.Fmt.{signed_decimal}
use Rattle.std.proofs.lemmas.List.Folds.{list_all-append}
use Rattle.int_vectors.specs.Vectors.{Each}
use Rattle.line_text.specs.Tokens.{Word, token, tokens, goes_on, ends_token, is_mark}
use Rattle.line_text.specs.Lines.{Row, split, rows_from, with_row, lines_of}
use Rattle.line_text.proofs.TokenLemmas.{blank_step, mark_step, run_before, no_token}
use Rattle.line_text.proofs.LineLemmas.{no_rows_left}
use Rattle.line_text.proofs.NumberLemmas.{written_token, written_kept}
use Rattle.line_text.proofs.WrittenLines.{is_kept, row_before}
use Rattle.int_vectors.proofs.Each.{each_append}
use Rattle.support_text.specs.Words.{Text, words, text_of}
use Rattle.support_text.proofs.Numbers.{both_are}

-- it is one token wherever it stands before a blank, a mark or the end, and it ends no line
pub record IsWord (w : Text) : Type 0 where
  pub token : (place : ℕ) (rest : List ℕ) → goes_on rest ≡ false → tokens place (w ++ rest) ≡ token place w ∷ tokens (place + length w) rest
  pub kept : list_all is_kept w ≡ true

pub plain_word : (b : ℕ) (bs : List ℕ) → list_all (λ x. not (ends_token x)) (b ∷ bs) ≡ true → list_all is_kept (b ∷ bs) ≡ true → IsWord (b ∷ bs)
plain_word b bs plain kept = record { token = λ place rest stop. run_before place b bs rest plain stop; kept = kept }

pub mark_word : (b : ℕ) → is_mark b ≡ true → is_kept b ≡ true → IsWord (b ∷ [])
mark_word b mark kept = record { token = λ place rest stop. mark_step place b rest mark; kept = rw kept refl }

pub number_word : (z : ℤ) → FitsSigned w128 z → IsWord (signed_decimal z)
number_word z fits = record { token = written_token z fits; kept = written_kept z fits }

abbrev pub texts : List Word → List Text
texts ts = map (λ t. t.text) ts

last_word : (w : Text) (place : ℕ) → IsWord w → texts (tokens place w) ≡ w ∷ []
last_word w place is =
    let whole : w ++ [] ≡ w = append-nil w in
    let one = is.token place [] refl in
    let none = no_token [] refl (place + length w) in
    ap (λ l. texts (tokens place l)) (sym whole) ∙ ap texts one ∙ ap (λ l. w ∷ texts l) none

-- ---- a line

pub joined_words : (ws : List Text) (place : ℕ) → Each ws IsWord → texts (tokens place (join_with_byte 32 ws)) ≡ ws
joined_words [] place are = ap texts (no_token [] refl place)
joined_words (w ∷ []) place are = last_word w place are.0
joined_words (w ∷ v ∷ ws) place are =
    let rest = join_with_byte 32 (v ∷ ws) in
    let first = are.0.token place (32 ∷ rest) refl in
    let blank = blank_step (place + length w) 32 rest refl in
    let others = joined_words (v ∷ ws) (place + length w + 1) are.1 in
    ap texts first ∙ ap (λ l. w ∷ texts l) blank ∙ ap (λ l. w ∷ l) others

joined_kept : (ws : List Text) → Each ws IsWord → list_all is_kept (join_with_byte 32 ws) ≡ true
joined_kept [] are = refl
joined_kept (w ∷ []) are = are.0.kept
joined_kept (w ∷ v ∷ ws) are =
    let rest = join_with_byte 32 (v ∷ ws) in
    let others : list_all is_kept (32 ∷ rest) ≡ true = joined_kept (v ∷ ws) are.1 in
    list_all-append is_kept w (32 ∷ rest) ∙ both_are (list_all is_kept w) (list_all is_kept (32 ∷ rest)) are.0.kept others

-- ---- lines

-- a line has a word, and each of its words is one
abbrev pub IsLine : List Text → Type 0
IsLine ws = (0 < length ws) × Each ws IsWord

row_words : (number : ℕ) (ts : List Word) (rows : List Row) (ws : List Text) → 0 < length ws → texts ts ≡ ws → map words (with_row number ts rows) ≡ ws ∷ map words rows
row_words number [] rows ws some e = absurd (omega (arith, ap length e))
row_words number (t ∷ ts) rows ws some e = ap (λ l. l ∷ map words rows) e

rows_again : (wss : List (List Text)) (place number : ℕ) → Each wss IsLine → map words (rows_from place number (split (text_of wss))) ≡ wss
rows_again [] place number are = ap (map words) (no_rows_left place number [] refl)
rows_again (ws ∷ wss) place number are =
    let line = join_with_byte 32 ws in
    let rest = text_of wss in
    let regrouped : text_of (ws ∷ wss) ≡ line ++ 10 ∷ rest = append_assoc line (10 ∷ []) rest in
    let first = row_before place number line rest (joined_kept ws are.0.1) in
    let later = rows_from (place + length line + 1) (number + 1) (split rest) in
    ap (λ l. map words (rows_from place number (split l))) regrouped ∙ ap (map words) first
    ∙ row_words number (tokens place line) later ws are.0.0 (joined_words ws place are.0.1)
    ∙ ap (λ l. ws ∷ l) (rows_again wss (place + length line + 1) (number + 1) are.1)

pub lines_again : (wss : List (List Text)) → Each wss IsLine → map words (lines_of (text_of wss)) ≡ wss
unfolding lines_of
lines_again wss are = rows_again wss 0 1 are

-- ---- each of some lists
pub each-map : {A B : Type 0} (P : B → Type 0) (Q : A → Type 0) (f : A → B) → ((x : A) → Q x → P (f x)) → (xs : List A) → Each xs Q → Each (map f xs) P
each-map P Q f g [] h = tt
each-map P Q f g (x ∷ xs) h = (g x h.0, each-map P Q f g xs h.1)

pub each-flat : {A B : Type 0} (P : B → Type 0) (Q : A → Type 0) (f : A → List B) → ((x : A) → Q x → Each (f x) P) → (xs : List A) → Each xs Q → Each (flat_map f xs) P
each-flat P Q f g [] h = tt
each-flat P Q f g (x ∷ xs) h = each_append P (f x) (flat_map f xs) (g x h.0) (each-flat P Q f g xs h.1)
