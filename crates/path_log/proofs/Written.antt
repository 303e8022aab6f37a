-- What a line of a log that is written piece by piece comes to.
use Rattle.std.proofs.Common.{◌≡◌, ℕ, List, [], ◌∷◌, ◌++◌, pos, length, map, sym, ap, ap₂, ◌∙◌, append-nil, append_assoc}
use Rattle.std.specs.Prelude.{codes, decimal, flat_map}
use Rattle.std.proofs.lemmas.Grind.{flat_map-append}
use Rattle.std.specs.List.{join_with_byte}
use Rattle.std.specs.Fmt.{signed_decimal}
use Rattle.cayley.specs.Files.{File}
use Rattle.cayley.specs.declared.found.FoundCell.{FoundCell}
use Rattle.support_text.specs.Words.{text_of}
use Rattle.support_text.specs.Writing.{problem_lines, problem_text}
use Rattle.support_text.proofs.Written.{text_append, text_each}
use Rattle.listing_text.specs.Writing.{position_words, cells_lines}
use Rattle.listing_text.proofs.Written.{spaced, led, positions, numbers, seven}
use Rattle.path_trace.specs.declared.trace.TraceNode.{TraceNode}
use Rattle.path_log.specs.Writing.{node_words, nodes_lines, log_text}

-- the line of a node
pub node_written : (o i j k l m n p : List ℕ) (x : TraceNode) → i ≡ o ++ codes "node"
    → j ≡ i ++ flat_map (λ x. (codes " " ++ decimal x.0) ++ (codes " " ++ decimal x.1)) x.cell → k ≡ j ++ codes " : " → l ≡ k ++ signed_decimal x.scale
    → m ≡ l ++ codes " :" → n ≡ m ++ flat_map (λ z. codes " " ++ signed_decimal z) x.inverse → p ≡ n ++ codes "\n"
    → p ≡ o ++ text_of (node_words x ∷ [])
node_written o i j k l m n p x a b c d e f g =
    let s = flat_map (λ x. (codes " " ++ decimal x.0) ++ (codes " " ++ decimal x.1)) x.cell in
    let t = flat_map (λ z. codes " " ++ signed_decimal z) x.inverse in
    let h = signed_decimal x.scale in
    g ∙ ap (λ q. q ++ codes "\n") (f ∙ ap (λ q. q ++ t) (e ∙ ap (λ q. q ++ codes " :") (d ∙ ap (λ q. q ++ h) (c ∙ ap (λ q. q ++ codes " : ") (b ∙ ap (λ q. q ++ s) a)))))
    ∙ seven o (codes "node") s (codes " : ") h (codes " :") t (codes "\n")
    ∙ ap (λ q. o ++ q) (ap₂ (λ u w. codes "node" ++ (u ++ (codes " : " ++ (h ++ (codes " :" ++ (w ++ codes "\n")))))) (positions x.cell) (numbers x.inverse)
    ∙ sym (append-nil (join_with_byte 32 (node_words x) ++ 10 ∷ []) ∙ ap (λ q. q ++ 10 ∷ []) whole ∙ line (spaced (position_words x.cell)) h (spaced (map signed_decimal x.inverse))))
  where
    whole : join_with_byte 32 (node_words x) ≡ codes "node" ++ (spaced (position_words x.cell) ++ ((32 ∷ codes ":") ++ ((32 ∷ signed_decimal x.scale) ++ ((32 ∷ codes ":") ++ spaced (map signed_decimal x.inverse)))))
    whole = led (codes "node") (position_words x.cell ++ codes ":" ∷ signed_decimal x.scale ∷ codes ":" ∷ map signed_decimal x.inverse)
        ∙ ap (λ q. codes "node" ++ q) (flat_map-append (λ u. 32 ∷ u) (position_words x.cell) (codes ":" ∷ signed_decimal x.scale ∷ codes ":" ∷ map signed_decimal x.inverse))

    line : (a h b : List ℕ) → (codes "node" ++ (a ++ ((32 ∷ codes ":") ++ ((32 ∷ h) ++ ((32 ∷ codes ":") ++ b))))) ++ 10 ∷ []
        ≡ codes "node" ++ (a ++ (codes " : " ++ (h ++ (codes " :" ++ (b ++ codes "\n")))))
    line a h b = ap (λ q. codes "node" ++ q)
        (append_assoc a ((32 ∷ codes ":") ++ ((32 ∷ h) ++ ((32 ∷ codes ":") ++ b))) (10 ∷ [])
        ∙ ap (λ q. a ++ (codes " : " ++ q)) (append_assoc h ((32 ∷ codes ":") ++ b) (10 ∷ [])))

-- the line `log T` and the node lines
pub nodes_written : (o i j : List ℕ) (xs : List TraceNode) → i ≡ o ++ (codes "log" ++ (codes " " ++ (signed_decimal (pos (length xs)) ++ codes "\n")))
    → j ≡ i ++ flat_map (λ x. text_of (node_words x ∷ [])) xs → j ≡ o ++ text_of (nodes_lines xs)
nodes_written o i j xs a b =
    let n = codes "log" ++ (codes " " ++ (signed_decimal (pos (length xs)) ++ codes "\n")) in
    let s = flat_map (λ x. text_of (node_words x ∷ [])) xs in
    b ∙ ap (λ q. q ++ s) a ∙ append_assoc o n s ∙ ap (λ q. o ++ (n ++ q)) (text_each node_words xs)

-- the file, the nodes and the cells
pub log_written : (o i j k : List ℕ) (file : File) (nodes : List TraceNode) (found : List FoundCell) → i ≡ o ++ problem_text file → j ≡ i ++ text_of (nodes_lines nodes)
    → k ≡ j ++ text_of (cells_lines found) → k ≡ o ++ log_text file nodes found
log_written o i j k file nodes found a b c =
    let first = problem_text file in
    let second = text_of (nodes_lines nodes) in
    let third = text_of (cells_lines found) in
    c ∙ ap (λ q. q ++ third) (b ∙ ap (λ q. q ++ second) a)
    ∙ append_assoc (o ++ first) second third ∙ append_assoc o first (second ++ third)
    ∙ ap (λ q. o ++ q) (sym (text_append (problem_lines file) (nodes_lines nodes ++ cells_lines found) ∙ ap (λ q. first ++ q) (text_append (nodes_lines nodes) (cells_lines found))))
