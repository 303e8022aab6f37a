-- Tokens are slices of the source, one after the other.
use Rattle.std.proofs.Common.{◌≡◌, ℕ, suc, ◌+◌, ◌≤◌, Bool, true, false, cond, List, [], ◌∷◌, ◌++◌, length, take, drop, refl, ap, sym, ◌∙◌, subst, arith, append_assoc, append-nil, length-append, length-drop, ◌-◌, ◌==◌, slice_index}
use Rattle.std.specs.List.{position_or_len}
use Rattle.std.proofs.lemmas.List.{drop-drop, take-append-drop}
use Rattle.wide_int.proofs.Bools.{by_test}
use Rattle.line_text.specs.Tokens.{Word, token, tokens, widened, goes_on, is_blank, is_mark, is_line_feed, is_comment, ends_token, content, without_return}
use Rattle.line_text.specs.Lines.{Row, IsSlice, StandInOrder, all_tokens, split, onto_first, rows_from, with_row}
use Rattle.line_text.proofs.TokenLemmas.{no_token, blank_step, mark_step, run_step, run_token}
use Rattle.line_text.proofs.LineLemmas.{split-nil, split_at_feed, split_onto}

-- ---- tokens in order

-- all tokens end at this place or before it
abbrev EndBy : ℕ → List Word → Type 0
EndBy end [] = Unit {0}
EndBy end (w ∷ ws) = (w.start + length w.text ≤ end) × EndBy end ws

end_later : (end later : ℕ) (ws : List Word) → end ≤ later → EndBy end ws → EndBy later ws
end_later end later [] le h = tt
end_later end later (w ∷ ws) le h = (omega (arith, h.0), end_later end later ws le h.1)

stand_lower : (source : List ℕ) (low place : ℕ) (ws : List Word) → low ≤ place → StandInOrder source place ws → StandInOrder source low ws
stand_lower source low place [] le h = tt
stand_lower source low place (w ∷ ws) le h = (omega (arith, h.0), h.1, h.2)

stand_append : (source : List ℕ) (place end : ℕ) (xs ys : List Word) → place ≤ end → StandInOrder source place xs → EndBy end xs → StandInOrder source end ys
    → StandInOrder source place (xs ++ ys)
stand_append source place end [] ys le h e k = stand_lower source place end ys le k
stand_append source place end (w ∷ ws) ys le h e k = (h.0, h.1, stand_append source (w.start + length w.text) end ws ys e.0 h.2 e.1 k)

-- the tokens stand in order from a place on and end by another
abbrev Stand : List ℕ → ℕ → ℕ → List Word → Type 0
Stand source place end ws = StandInOrder source place ws × EndBy end ws

-- ---- the tokens of a piece of the source

behind : (source bs : List ℕ) (place b : ℕ) → drop place source ≡ b ∷ bs → drop (place + 1) source ≡ bs
behind source bs place b at = sym (drop-drop 1 place source) ∙ ap (drop 1) at

within_source : (source bs : List ℕ) (place b : ℕ) → drop place source ≡ b ∷ bs → place + 1 + length bs ≤ length source
within_source source bs place b at = let long : length (drop place source) ≡ suc (length bs) = ap length at in omega (arith, long, length-drop place source)

one_byte : (source bs : List ℕ) (place b end : ℕ) (ws : List Word) → drop place source ≡ b ∷ bs → place + 1 ≤ end → Stand source (place + 1) end ws
    → Stand source place end (token place (b ∷ []) ∷ ws)
one_byte source bs place b end ws at le h =
    let slice : IsSlice source (token place (b ∷ [])) =
    record { some = omega arith; within = omega (arith, within_source source bs place b at); same = ap (take 1) at } in
    ((omega arith, slice, h.0), (le, h.1))

one_more : (source bs : List ℕ) (place b end : ℕ) (t : List ℕ) (ws : List Word) → drop place source ≡ b ∷ bs → Stand source (place + 1) end (token (place + 1) t ∷ ws)
    → Stand source place end (token place (b ∷ t) ∷ ws)
one_more source bs place b end t ws at h =
    let rest = h.0.1 in
    let next : place + 1 + length t ≡ place + suc (length t) = omega arith in
    let same : take (suc (length t)) (drop place source) ≡ b ∷ t =
    ap (take (suc (length t))) at ∙ ap (λ l. b ∷ take (length t) l) (sym (behind source bs place b at)) ∙ ap (λ l. b ∷ l) rest.same in
    let slice : IsSlice source (token place (b ∷ t)) = record { some = omega arith; within = omega (arith, rest.within); same = same } in
    ((omega arith, slice, (let P : ℕ → Type 0 = λ k. StandInOrder source k ws in subst P next h.0.2)), (omega (arith, h.1.0), h.1.1))

-- a byte of a run stands before tokens that stand in order
run_stands : (source bs : List ℕ) (place b end : ℕ) → drop place source ≡ b ∷ bs → place + 1 ≤ end → ends_token b ≡ false → (l : List ℕ)
    → Stand source (place + 1) end (tokens (place + 1) l) → Stand source place end (cond (goes_on l) (widened place b (tokens (place + 1) l)) (token place (b ∷ []) ∷ tokens (place + 1) l))
run_stands source bs place b end at le run [] h = one_byte source bs place b end _ at le h
run_stands source bs place b end at le run (d ∷ ds) h =
    by_test (ends_token d) (λ stop. rw stop (one_byte source bs place b end _ at le h))
    (λ more.
    let is = run_token (place + 1) d ds more in
    let P : List Word → Type 0 = Stand source (place + 1) end in
    let Q : List Word → Type 0 = λ ws. Stand source place end (widened place b ws) in
    rw more (subst Q (sym is) (one_more source bs place b end _ _ at (subst P is h))))

tokens_stand : (source more bs : List ℕ) (place : ℕ) → drop place source ≡ bs ++ more → Stand source place (place + length bs) (tokens place bs)
tokens_stand source more [] place at = let P : List Word → Type 0 = Stand source place (place + 0) in subst P (sym (no_token [] refl place)) (tt, tt)
tokens_stand source more (b ∷ bs) place at =
    let end = place + length (b ∷ bs) in
    let P : List Word → Type 0 = Stand source place end in
    let le : place + 1 ≤ end = omega arith in
    let same : place + 1 + length bs ≡ end = omega arith in
    let E : ℕ → Type 0 = λ k. Stand source (place + 1) k (tokens (place + 1) bs) in
    let rest : Stand source (place + 1) end (tokens (place + 1) bs) = subst E same (tokens_stand source more bs (place + 1) (behind source (bs ++ more) place b at)) in
    by_test (is_blank b) (λ blank. subst P (sym (blank_step place b bs blank)) (stand_lower source place (place + 1) _ (omega arith) rest.0, rest.1))
    (λ solid. by_test (is_mark b) (λ mark. subst P (sym (mark_step place b bs mark)) (one_byte source (bs ++ more) place b end _ at le rest))
    (λ plain.
    let run : ends_token b ≡ false = rw (solid, plain) refl in
    subst P (sym (run_step place b bs run)) (run_stands source (bs ++ more) place b end at le run bs rest)))

-- ---- the lines of the source

-- each line is a piece of the source, one line feed after the other
abbrev Lie : List ℕ → ℕ → List (List ℕ) → Type 0
Lie source place [] = Unit {0}
Lie source place (l ∷ ls) = ((more : List ℕ) × (drop place source ≡ l ++ more)) × Lie source (place + length l + 1) ls

onto_lies : (source bs : List ℕ) (place b : ℕ) (ls : List (List ℕ)) → drop place source ≡ b ∷ bs → Lie source (place + 1) ls → Lie source place (onto_first b ls)
onto_lies source bs place b [] at h = ((bs, at), tt)
onto_lies source bs place b (l ∷ ls) at h =
    let next : place + 1 + length l + 1 ≡ place + suc (length l) + 1 = omega arith in
    let P : ℕ → Type 0 = λ k. Lie source k ls in
    ((h.0.0, at ∙ ap (λ r. b ∷ r) (sym (behind source bs place b at) ∙ h.0.1)), subst P next h.1)

split_lies : (source bs : List ℕ) (place : ℕ) → drop place source ≡ bs → Lie source place (split bs)
split_lies source [] place at = let P : List (List ℕ) → Type 0 = Lie source place in subst P (sym split-nil) tt
split_lies source (b ∷ bs) place at =
    let P : List (List ℕ) → Type 0 = Lie source place in
    let rest : Lie source (place + 1) (split bs) = split_lies source bs (place + 1) (behind source bs place b at) in
    let N : ℕ → Type 0 = λ k. Lie source k (split bs) in
    let next : place + 1 ≡ place + 0 + 1 = omega arith in
    by_test (is_line_feed b) (λ feed. subst P (sym (split_at_feed b bs feed)) ((b ∷ bs, at), subst N next rest))
    (λ other. subst P (sym (split_onto b bs other)) (onto_lies source bs place b (split bs) at rest))

cut_return : (t : Bool) (l : List ℕ) (n : ℕ) → (cut : List ℕ) × (l ≡ cond t (take n l) l ++ cut)
cut_return true l n = (drop n l, sym (take-append-drop n l))
cut_return false l n = ([], sym (append-nil l))

-- the content is the front of a line
content_front : (l : List ℕ) → (cut : List ℕ) × (l ≡ content l ++ cut)
unfolding content
content_front l =
    let text = without_return l in
    let n = position_or_len is_comment text in
    let r = cut_return (slice_index l (length l - 1) == 13) l (length l - 1) in
    (drop n text ++ r.0, r.1 ∙ ap (λ k. k ++ r.0) (sym (take-append-drop n text)) ∙ append_assoc (take n text) (drop n text) r.0)

tokens_of_row : (number : ℕ) (ws : List Word) (rows : List Row) → all_tokens (with_row number ws rows) ≡ ws ++ all_tokens rows
tokens_of_row number [] rows = refl
tokens_of_row number (w ∷ ws) rows = refl

rows_stand : (source : List ℕ) (ls : List (List ℕ)) (place number : ℕ) → Lie source place ls → StandInOrder source place (all_tokens (rows_from place number ls))
unfolding rows_from
rows_stand source [] place number h = tt
rows_stand source (l ∷ ls) place number h =
    let front = content_front l in
    let next = place + length l + 1 in
    let at : drop place source ≡ content l ++ (front.0 ++ h.0.0) = h.0.1 ∙ ap (λ k. k ++ h.0.0) front.1 ∙ append_assoc (content l) front.0 h.0.0 in
    let here = tokens_stand source (front.0 ++ h.0.0) (content l) place at in
    let short : length l ≡ length (content l) + length front.0 = ap length front.1 ∙ length-append (content l) front.0 in
    let rest = rows_stand source ls next (number + 1) h.1 in
    let P : List Word → Type 0 = StandInOrder source place in
    subst P (sym (tokens_of_row number (tokens place (content l)) (rows_from next (number + 1) ls)))
    (stand_append source place next _ _ (omega arith) here.0 (end_later _ next _ (omega (arith, short)) here.1) rest)

-- the tokens of a source stand in it in order
pub source_stands : (source : List ℕ) → StandInOrder source 0 (all_tokens (rows_from 0 1 (split source)))
source_stands source = rows_stand source (split source) 0 1 (split_lies source source 0 refl)
