-- what the lines of powers that are written piece by piece come to
use Rattle.std.proofs.Common.{◌≡◌, ◌++◌, ℕ, List, [], ◌∷◌, ℤ, pos, length, map, flat_map, codes, decimal, refl, sym, ap, ap₂, ◌∙◌, append-nil}
use Rattle.std.proofs.lemmas.List.{append_assoc, length-map}
use Rattle.std.proofs.lemmas.Grind.{flat_map-append}
use Rattle.std.specs.List.{join_with_byte}
use Rattle.std.specs.Fmt.{signed_decimal}
use Rattle.support_text.specs.Words.{text_of}
use Rattle.support_text.proofs.Written.{text_append, text_each, led}
use Rattle.listing_text.specs.Writing.{position_words}
use Rattle.listing_text.proofs.Written.{spaced, led as behind, positions}
use Rattle.homotopy_rows.specs.Powers.{Row}
use Rattle.homotopy_rows.specs.Writing.{power_words, scale_words, row_lines, homotopy_text}

-- the line of a support's powers
pub powers_written : (o i j k : List ℕ) (ws : List ℤ) → i ≡ o ++ codes "powers" → j ≡ i ++ flat_map (λ z. codes " " ++ signed_decimal z) ws → k ≡ j ++ codes "\n"
    → k ≡ o ++ text_of (power_words ws ∷ [])
powers_written o i j k ws a b c =
    let s = flat_map (λ z. codes " " ++ signed_decimal z) ws in
    c ∙ ap (λ t. t ++ codes "\n") (b ∙ ap (λ t. t ++ s) a)
    ∙ append_assoc (o ++ codes "powers") s (codes "\n") ∙ append_assoc o (codes "powers") (s ++ codes "\n")
    ∙ ap (λ t. o ++ t) (sym (append-nil (join_with_byte 32 (power_words ws) ++ 10 ∷ []) ∙ ap (λ t. t ++ 10 ∷ []) (led (codes "powers") ws) ∙ append_assoc (codes "powers") s (10 ∷ [])))

-- the line of a cell and its scale
pub scale_written : (o i j k l m : List ℕ) (r : Row) → i ≡ o ++ codes "cell" → j ≡ i ++ flat_map (λ x. (codes " " ++ decimal x.0) ++ (codes " " ++ decimal x.1)) r.cell
    → k ≡ j ++ codes " : " → l ≡ k ++ signed_decimal r.scale → m ≡ l ++ codes "\n" → m ≡ o ++ text_of (scale_words r ∷ [])
scale_written o i j k l m r a b c d e =
    let s = flat_map (λ x. (codes " " ++ decimal x.0) ++ (codes " " ++ decimal x.1)) r.cell in
    let h = signed_decimal r.scale in
    e ∙ ap (λ q. q ++ codes "\n") (d ∙ ap (λ q. q ++ h) (c ∙ ap (λ q. q ++ codes " : ") (b ∙ ap (λ q. q ++ s) a)))
    ∙ five o (codes "cell") s (codes " : ") h (codes "\n")
    ∙ ap (λ q. o ++ q) (ap (λ u. codes "cell" ++ (u ++ (codes " : " ++ (h ++ codes "\n")))) (positions r.cell)
    ∙ sym (append-nil (join_with_byte 32 (scale_words r) ++ 10 ∷ []) ∙ ap (λ q. q ++ 10 ∷ []) whole ∙ line (spaced (position_words r.cell)) h))
  where
    five : (o a b c d e : List ℕ) → ((((o ++ a) ++ b) ++ c) ++ d) ++ e ≡ o ++ (a ++ (b ++ (c ++ (d ++ e))))
    five o a b c d e = append_assoc (((o ++ a) ++ b) ++ c) d e ∙ append_assoc ((o ++ a) ++ b) c (d ++ e) ∙ append_assoc (o ++ a) b (c ++ (d ++ e)) ∙ append_assoc o a (b ++ (c ++ (d ++ e)))

    whole : join_with_byte 32 (scale_words r) ≡ codes "cell" ++ (spaced (position_words r.cell) ++ ((32 ∷ codes ":") ++ ((32 ∷ signed_decimal r.scale) ++ [])))
    whole = behind (codes "cell") (position_words r.cell ++ codes ":" ∷ signed_decimal r.scale ∷ [])
        ∙ ap (λ q. codes "cell" ++ q) (flat_map-append (λ u. 32 ∷ u) (position_words r.cell) (codes ":" ∷ signed_decimal r.scale ∷ []))

    line : (a h : List ℕ) → (codes "cell" ++ (a ++ ((32 ∷ codes ":") ++ ((32 ∷ h) ++ [])))) ++ 10 ∷ [] ≡ codes "cell" ++ (a ++ (codes " : " ++ (h ++ codes "\n")))
    line a h = ap (λ q. codes "cell" ++ q)
        (append_assoc a ((32 ∷ codes ":") ++ ((32 ∷ h) ++ [])) (10 ∷ []) ∙ ap (λ q. a ++ (codes " : " ++ (q ++ 10 ∷ []))) (append-nil h))

-- the lines of a cell
pub row_written : (o i j : List ℕ) (r : Row) → i ≡ o ++ text_of (scale_words r ∷ []) → j ≡ i ++ flat_map (λ ws. text_of (power_words ws ∷ [])) r.powers → j ≡ o ++ text_of (row_lines r)
row_written o i j r a b =
    b ∙ ap₂ (λ s t. s ++ t) a (text_each power_words r.powers)
    ∙ append_assoc o (text_of (scale_words r ∷ [])) (text_of (map power_words r.powers))
    ∙ ap (λ t. o ++ t) (sym (text_append (scale_words r ∷ []) (map power_words r.powers)))

-- the whole text
pub rows_written : {A : Type 0} (f : A → Row) (o i j k : List ℕ) (xs : List A) → i ≡ o ++ (codes "homotopies" ++ (codes " " ++ (signed_decimal (pos (length xs)) ++ codes "\n")))
    → j ≡ i ++ flat_map (λ x. text_of (row_lines (f x))) xs → k ≡ j ++ codes "end\n" → k ≡ o ++ homotopy_text (map f xs)
rows_written f o i j k xs a b c =
    let s = flat_map (λ x. text_of (row_lines (f x))) xs in
    c ∙ ap (λ t. t ++ codes "end\n") (b ∙ ap (λ t. t ++ s) a)
    ∙ append_assoc (o ++ line (length xs)) s (codes "end\n") ∙ append_assoc o (line (length xs)) (s ++ codes "end\n")
    ∙ ap (λ n. o ++ (line n ++ (s ++ codes "end\n"))) (sym (length-map xs f))
    ∙ ap (λ t. o ++ (line (length (map f xs)) ++ t)) (sym rest)
  where
    line : ℕ → List ℕ
    line n = codes "homotopies" ++ (codes " " ++ (signed_decimal (pos n) ++ codes "\n"))

    flat : {A : Type 0} (f : A → Row) (xs : List A) → flat_map (λ x. text_of (row_lines (f x))) xs ≡ text_of (flat_map row_lines (map f xs))
    flat f [] = refl
    flat f (x ∷ xs) = ap (λ t. text_of (row_lines (f x)) ++ t) (flat f xs) ∙ sym (text_append (row_lines (f x)) (flat_map row_lines (map f xs)))

    rest : text_of (flat_map row_lines (map f xs) ++ (codes "end" ∷ []) ∷ []) ≡ flat_map (λ x. text_of (row_lines (f x))) xs ++ codes "end\n"
    rest = text_append (flat_map row_lines (map f xs)) ((codes "end" ∷ []) ∷ []) ∙ ap (λ t. t ++ codes "end\n") (sym (flat f xs))
