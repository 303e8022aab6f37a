-- What a line of a listing that is written piece by piece comes to.
use Rattle.std.proofs.Common.{◌≡◌, ◌++◌, ℕ, List, [], ◌∷◌, ℤ, pos, length, map, flat_map, codes, decimal, refl, sym, ap, ap₂, ◌∙◌, append-nil}
use Rattle.std.proofs.lemmas.List.{append_assoc}
use Rattle.std.proofs.lemmas.Grind.{flat_map-append}
use Rattle.std.specs.List.{join_with_byte}
use Rattle.std.specs.Fmt.{signed_decimal}
use Rattle.cayley.specs.Files.{File}
use Rattle.cayley.specs.Cells.{Cell}
use Rattle.cayley.specs.declared.found.FoundCell.{FoundCell}
use Rattle.support_text.specs.Words.{Text, text_of}
use Rattle.support_text.specs.Writing.{problem_lines, problem_text}
use Rattle.support_text.proofs.Written.{text_append, text_each}
use Rattle.listing_text.specs.Writing.{position_words, cell_words, cells_lines, listing_text}

-- words that have a blank before each
abbrev pub spaced : List Text → List ℕ
spaced ws = flat_map (λ u. 32 ∷ u) ws

pub led : (w : Text) (ws : List Text) → join_with_byte 32 (w ∷ ws) ≡ w ++ spaced ws
led w [] = sym (append-nil w)
led w (u ∷ ws) = ap (λ t. w ++ (32 ∷ t)) (led u ws)

pub positions : (cell : Cell) → flat_map (λ x. (codes " " ++ decimal x.0) ++ (codes " " ++ decimal x.1)) cell ≡ spaced (position_words cell)
positions [] = refl
positions (x ∷ cell) =
    ap (λ t. ((codes " " ++ decimal x.0) ++ (codes " " ++ decimal x.1)) ++ t) (positions cell)
    ∙ append_assoc (codes " " ++ decimal x.0) (codes " " ++ decimal x.1) (spaced (position_words cell))

pub numbers : (v : List ℤ) → flat_map (λ z. codes " " ++ signed_decimal z) v ≡ spaced (map signed_decimal v)
numbers [] = refl
numbers (z ∷ v) = ap (λ t. (codes " " ++ signed_decimal z) ++ t) (numbers v)

-- seven pieces behind what stands there
pub seven : (o a b c d e f g : List ℕ) → ((((((o ++ a) ++ b) ++ c) ++ d) ++ e) ++ f) ++ g ≡ o ++ (a ++ (b ++ (c ++ (d ++ (e ++ (f ++ g))))))
seven o a b c d e f g =
    append_assoc (((((o ++ a) ++ b) ++ c) ++ d) ++ e) f g ∙ append_assoc ((((o ++ a) ++ b) ++ c) ++ d) e (f ++ g) ∙ append_assoc (((o ++ a) ++ b) ++ c) d (e ++ (f ++ g))
    ∙ append_assoc ((o ++ a) ++ b) c (d ++ (e ++ (f ++ g))) ∙ append_assoc (o ++ a) b (c ++ (d ++ (e ++ (f ++ g)))) ∙ append_assoc o a (b ++ (c ++ (d ++ (e ++ (f ++ g)))))

-- the line of a cell
pub cell_written : (o i j k l m n p : List ℕ) (x : FoundCell) → i ≡ o ++ codes "cell"
    → j ≡ i ++ flat_map (λ x. (codes " " ++ decimal x.0) ++ (codes " " ++ decimal x.1)) x.cell → k ≡ j ++ codes " :"
    → l ≡ k ++ flat_map (λ z. codes " " ++ signed_decimal z) x.normal.v → m ≡ l ++ codes " / " → n ≡ m ++ signed_decimal x.normal.den → p ≡ n ++ codes "\n"
    → p ≡ o ++ text_of (cell_words x ∷ [])
cell_written o i j k l m n p x a b c d e f g =
    let s = flat_map (λ x. (codes " " ++ decimal x.0) ++ (codes " " ++ decimal x.1)) x.cell in
    let t = flat_map (λ z. codes " " ++ signed_decimal z) x.normal.v in
    let h = signed_decimal x.normal.den in
    g ∙ ap (λ q. q ++ codes "\n") (f ∙ ap (λ q. q ++ h) (e ∙ ap (λ q. q ++ codes " / ") (d ∙ ap (λ q. q ++ t) (c ∙ ap (λ q. q ++ codes " :") (b ∙ ap (λ q. q ++ s) a)))))
    ∙ seven o (codes "cell") s (codes " :") t (codes " / ") h (codes "\n")
    ∙ ap (λ q. o ++ q) (ap₂ (λ u w. codes "cell" ++ (u ++ (codes " :" ++ (w ++ (codes " / " ++ (h ++ codes "\n")))))) (positions x.cell) (numbers x.normal.v)
    ∙ sym (append-nil (join_with_byte 32 (cell_words x) ++ 10 ∷ []) ∙ ap (λ q. q ++ 10 ∷ []) whole ∙ line (spaced (position_words x.cell)) (spaced (map signed_decimal x.normal.v)) h))
  where
    whole : join_with_byte 32 (cell_words x) ≡ codes "cell" ++ (spaced (position_words x.cell) ++ ((32 ∷ codes ":") ++ (spaced (map signed_decimal x.normal.v) ++ ((32 ∷ codes "/") ++ ((32 ∷ signed_decimal x.normal.den) ++ [])))))
    whole = led (codes "cell") (position_words x.cell ++ codes ":" ∷ (map signed_decimal x.normal.v ++ codes "/" ∷ signed_decimal x.normal.den ∷ []))
        ∙ ap (λ q. codes "cell" ++ q) (flat_map-append (λ u. 32 ∷ u) (position_words x.cell) (codes ":" ∷ (map signed_decimal x.normal.v ++ codes "/" ∷ signed_decimal x.normal.den ∷ []))
        ∙ ap (λ q. spaced (position_words x.cell) ++ ((32 ∷ codes ":") ++ q)) (flat_map-append (λ u. 32 ∷ u) (map signed_decimal x.normal.v) (codes "/" ∷ signed_decimal x.normal.den ∷ [])))

    line : (a b h : List ℕ) → (codes "cell" ++ (a ++ ((32 ∷ codes ":") ++ (b ++ ((32 ∷ codes "/") ++ ((32 ∷ h) ++ [])))))) ++ 10 ∷ []
        ≡ codes "cell" ++ (a ++ (codes " :" ++ (b ++ (codes " / " ++ (h ++ codes "\n")))))
    line a b h = ap (λ q. codes "cell" ++ q)
        (append_assoc a ((32 ∷ codes ":") ++ (b ++ ((32 ∷ codes "/") ++ ((32 ∷ h) ++ [])))) (10 ∷ [])
        ∙ ap (λ q. a ++ (codes " :" ++ q)) (append_assoc b ((32 ∷ codes "/") ++ ((32 ∷ h) ++ [])) (10 ∷ [])
        ∙ ap (λ q. b ++ (codes " / " ++ (q ++ 10 ∷ []))) (append-nil h)))

-- the lines behind the file
pub cells_written : (o i j k : List ℕ) (xs : List FoundCell) → i ≡ o ++ (codes "cells" ++ (codes " " ++ (signed_decimal (pos (length xs)) ++ codes "\n")))
    → j ≡ i ++ flat_map (λ x. text_of (cell_words x ∷ [])) xs → k ≡ j ++ codes "end\n"
    → k ≡ o ++ text_of (cells_lines xs)
cells_written o i j k xs a b c =
    let n = codes "cells" ++ (codes " " ++ (signed_decimal (pos (length xs)) ++ codes "\n")) in
    let s = flat_map (λ x. text_of (cell_words x ∷ [])) xs in
    c ∙ ap (λ q. q ++ codes "end\n") (b ∙ ap (λ q. q ++ s) a)
    ∙ append_assoc (o ++ n) s (codes "end\n") ∙ append_assoc o n (s ++ codes "end\n")
    ∙ ap (λ q. o ++ q) (sym rest)
  where
    rest : text_of (cells_lines xs) ≡ (codes "cells" ++ (codes " " ++ (signed_decimal (pos (length xs)) ++ codes "\n"))) ++ (flat_map (λ x. text_of (cell_words x ∷ [])) xs ++ codes "end\n")
    rest = ap (λ q. (codes "cells" ++ (codes " " ++ (signed_decimal (pos (length xs)) ++ codes "\n"))) ++ q)
        (text_append (map cell_words xs) ((codes "end" ∷ []) ∷ []) ∙ ap (λ q. q ++ codes "end\n") (sym (text_each cell_words xs)))

-- the file and the lines behind it
pub listing_written : (o i j : List ℕ) (file : File) (xs : List FoundCell) → i ≡ o ++ problem_text file → j ≡ i ++ text_of (cells_lines xs) → j ≡ o ++ listing_text file xs
listing_written o i j file xs a b =
    b ∙ ap (λ q. q ++ text_of (cells_lines xs)) a ∙ append_assoc o (problem_text file) (text_of (cells_lines xs))
    ∙ ap (λ q. o ++ q) (sym (text_append (problem_lines file) (cells_lines xs)))
