-- What a line that is written piece by piece comes to.
use Rattle.std.proofs.Common.{◌≡◌, ◌++◌, ℕ, List, [], ◌∷◌, ℤ, pos, length, map, flat_map, codes, refl, sym, ap, ap₂, ◌∙◌, Option, Some, append-nil}
use Rattle.std.proofs.lemmas.List.{append_assoc, length-map}
use Rattle.std.proofs.lemmas.Grind.{flat_map-append}
use Rattle.std.specs.List.{join_with_byte}
use Rattle.std.specs.Fmt.{signed_decimal}
use Rattle.cayley.specs.Files.{File, FilePoint}
use Rattle.support_text.specs.Words.{Text, text_of}
use Rattle.support_text.specs.Writing.{point_words, support_lines, start_words, start_lines, version_text, problem_lines, problem_text}

-- the text of two lists of lines, of a list of lists, and of a line for each element
pub text_append : (xs ys : List (List Text)) → text_of (xs ++ ys) ≡ text_of xs ++ text_of ys
text_append xs ys = flat_map-append (λ ws. join_with_byte 32 ws ++ 10 ∷ []) xs ys

pub text_each : {A : Type 0} (f : A → List Text) (xs : List A) → flat_map (λ x. text_of (f x ∷ [])) xs ≡ text_of (map f xs)
text_each f [] = refl
text_each f (x ∷ xs) = ap₂ (λ s t. s ++ t) (append-nil (join_with_byte 32 (f x) ++ 10 ∷ [])) (text_each f xs)

-- a piece, a blank and what follows
blank : (a r t : List ℕ) → a ++ (32 ∷ (r ++ t)) ≡ ((a ++ 32 ∷ []) ++ r) ++ t
blank [] r t = refl
blank (c ∷ a) r t = ap (λ l. c ∷ l) (blank a r t)

-- words that have a blank behind each, and two more
pub joined : (xs : List ℤ) (w v : Text) → join_with_byte 32 (map signed_decimal xs ++ (w ∷ v ∷ [])) ≡ flat_map (λ z. signed_decimal z ++ codes " ") xs ++ (w ++ (32 ∷ v))
joined [] w v = refl
joined (x ∷ []) w v = blank (signed_decimal x) [] (w ++ (32 ∷ v))
joined (x ∷ y ∷ xs) w v =
    ap (λ t. signed_decimal x ++ (32 ∷ t)) (joined (y ∷ xs) w v)
    ∙ blank (signed_decimal x) (flat_map (λ z. signed_decimal z ++ codes " ") (y ∷ xs)) (w ++ (32 ∷ v))

-- a word, and words that have a blank before each
pub led : (w : Text) (hs : List ℤ) → join_with_byte 32 (w ∷ map signed_decimal hs) ≡ w ++ flat_map (λ h. codes " " ++ signed_decimal h) hs
led w [] = sym (append-nil w)
led w (h ∷ hs) = ap (λ t. w ++ (32 ∷ t)) (led (signed_decimal h) hs)

-- the line of a point
pub point_written : (o i j k l : List ℕ) (x : FilePoint) → i ≡ o ++ flat_map (λ z. signed_decimal z ++ codes " ") x.coordinates → j ≡ i ++ codes ": " → k ≡ j ++ signed_decimal x.height
    → l ≡ k ++ codes "\n" → l ≡ o ++ text_of (point_words x ∷ [])
point_written o i j k l x a b c d =
    let s = flat_map (λ z. signed_decimal z ++ codes " ") x.coordinates in
    let h = signed_decimal x.height in
    d ∙ ap (λ t. t ++ codes "\n") (c ∙ ap (λ t. t ++ h) (b ∙ ap (λ t. t ++ codes ": ") a))
    ∙ four o s (codes ": ") h (codes "\n")
    ∙ ap (λ t. o ++ t) (sym (append-nil (join_with_byte 32 (point_words x) ++ 10 ∷ []) ∙ ap (λ t. t ++ 10 ∷ []) (joined x.coordinates (codes ":") h) ∙ pieces s (codes ":") h))
  where
    four : (o s t h e : List ℕ) → (((o ++ s) ++ t) ++ h) ++ e ≡ o ++ (s ++ (t ++ (h ++ e)))
    four o s t h e = append_assoc ((o ++ s) ++ t) h e ∙ append_assoc (o ++ s) t (h ++ e) ∙ append_assoc o s (t ++ (h ++ e))

    pieces : (s w h : List ℕ) → (s ++ (w ++ (32 ∷ h))) ++ 10 ∷ [] ≡ s ++ ((w ++ 32 ∷ []) ++ (h ++ 10 ∷ []))
    pieces s w h = append_assoc s (w ++ (32 ∷ h)) (10 ∷ []) ∙ ap (λ t. s ++ t) (inner w h)
      where
        inner : (w h : List ℕ) → (w ++ (32 ∷ h)) ++ 10 ∷ [] ≡ (w ++ 32 ∷ []) ++ (h ++ 10 ∷ [])
        inner [] h = refl
        inner (c ∷ w) h = ap (λ t. c ∷ t) (inner w h)

-- a start line
pub start_written : (o i j k : List ℕ) (hs : List ℤ) → i ≡ o ++ codes "start" → j ≡ i ++ flat_map (λ h. codes " " ++ signed_decimal h) hs → k ≡ j ++ codes "\n"
    → k ≡ o ++ text_of (start_words hs ∷ [])
start_written o i j k hs a b c =
    let s = flat_map (λ h. codes " " ++ signed_decimal h) hs in
    c ∙ ap (λ t. t ++ codes "\n") (b ∙ ap (λ t. t ++ s) a)
    ∙ append_assoc (o ++ codes "start") s (codes "\n") ∙ append_assoc o (codes "start") (s ++ codes "\n")
    ∙ ap (λ t. o ++ t) (sym (append-nil (join_with_byte 32 (start_words hs) ++ 10 ∷ []) ∙ ap (λ t. t ++ 10 ∷ []) (led (codes "start") hs) ∙ append_assoc (codes "start") s (10 ∷ [])))

-- the lines of a support
pub support_written : {A : Type 0} (f : A → FilePoint) (o i j : List ℕ) (xs : List A)
    → i ≡ o ++ (codes "support" ++ (codes " " ++ (signed_decimal (pos (length xs)) ++ codes "\n"))) → j ≡ i ++ flat_map (λ x. text_of (point_words (f x) ∷ [])) xs
    → j ≡ o ++ text_of (support_lines (map f xs))
support_written f o i j xs a b =
    b ∙ ap₂ (λ s t. s ++ t) a (text_each (λ x. point_words (f x)) xs ∙ ap text_of (sym (map_twice f xs)))
    ∙ append_assoc o (line (length xs)) (text_of (map point_words (map f xs)))
    ∙ ap (λ n. o ++ (line n ++ text_of (map point_words (map f xs)))) (sym (length-map xs f))
    ∙ ap (λ t. o ++ (t ++ text_of (map point_words (map f xs)))) (shape (length (map f xs)))
  where
    line : ℕ → List ℕ
    line n = codes "support" ++ (codes " " ++ (signed_decimal (pos n) ++ codes "\n"))

    map_twice : {A : Type 0} (f : A → FilePoint) (xs : List A) → map point_words (map f xs) ≡ map (λ x. point_words (f x)) xs
    map_twice f [] = refl
    map_twice f (x ∷ xs) = ap (λ t. point_words (f x) ∷ t) (map_twice f xs)

    shape : (n : ℕ) → line n ≡ join_with_byte 32 (codes "support" ∷ signed_decimal (pos n) ∷ []) ++ 10 ∷ []
    shape n = refl

-- the start lines that are given
pub starts_written : {A : Type 0} (f : A → List ℤ) (o i : List ℕ) (ss : List A) (starts : Option (List (List ℤ))) → Some (map f ss) ≡ starts
    → i ≡ o ++ flat_map (λ s. text_of (start_words (f s) ∷ [])) ss → i ≡ o ++ text_of (start_lines starts)
starts_written f o i ss starts b a =
    a ∙ ap (λ t. o ++ t) (text_each (λ s. start_words (f s)) ss ∙ ap text_of (sym (map_twice f ss)) ∙ ap (λ r. text_of (start_lines r)) b)
  where
    map_twice : {A : Type 0} (f : A → List ℤ) (xs : List A) → map start_words (map f xs) ≡ map (λ x. start_words (f x)) xs
    map_twice f [] = refl
    map_twice f (x ∷ xs) = ap (λ t. start_words (f x) ∷ t) (map_twice f xs)

-- the text of a file
pub problem_written : {A : Type 0} (f : A → List FilePoint) (o i j k l m : List ℕ) (ss : List A) (file : File) → map f ss ≡ file.supports
    → i ≡ o ++ (codes "mixedcells " ++ (version_text file.version ++ codes "\n")) → j ≡ i ++ (codes "dim" ++ (codes " " ++ (signed_decimal (pos file.dimension) ++ codes "\n")))
    → k ≡ j ++ flat_map (λ s. text_of (support_lines (f s))) ss → l ≡ k ++ text_of (start_lines file.starts) → m ≡ l ++ codes "end\n"
    → m ≡ o ++ problem_text file
unfolding problem_lines
problem_written f o i j k l m ss file e a b c d h =
    let head = codes "mixedcells " ++ (version_text file.version ++ codes "\n") in
    let dim = codes "dim" ++ (codes " " ++ (signed_decimal (pos file.dimension) ++ codes "\n")) in
    let supports = flat_map (λ s. text_of (support_lines (f s))) ss in
    let starts = text_of (start_lines file.starts) in
    h ∙ ap (λ t. t ++ codes "end\n") (d ∙ ap (λ t. t ++ starts) (c ∙ ap (λ t. t ++ supports) (b ∙ ap (λ t. t ++ dim) a)))
    ∙ five o head dim supports starts (codes "end\n")
    ∙ ap (λ t. o ++ (head ++ (dim ++ t))) (sym rest)
  where
    five : (o a b c d e : List ℕ) → ((((o ++ a) ++ b) ++ c) ++ d) ++ e ≡ o ++ (a ++ (b ++ (c ++ (d ++ e))))
    five o a b c d e = append_assoc (((o ++ a) ++ b) ++ c) d e ∙ append_assoc ((o ++ a) ++ b) c (d ++ e) ∙ append_assoc (o ++ a) b (c ++ (d ++ e)) ∙ append_assoc o a (b ++ (c ++ (d ++ e)))

    flat : {A : Type 0} (f : A → List FilePoint) (ss : List A) → flat_map (λ s. text_of (support_lines (f s))) ss ≡ text_of (flat_map support_lines (map f ss))
    flat f [] = refl
    flat f (s ∷ ss) = ap (λ t. text_of (support_lines (f s)) ++ t) (flat f ss) ∙ sym (text_append (support_lines (f s)) (flat_map support_lines (map f ss)))

    rest : text_of (flat_map support_lines file.supports ++ start_lines file.starts ++ (codes "end" ∷ []) ∷ []) ≡ flat_map (λ s. text_of (support_lines (f s))) ss ++ (text_of (start_lines file.starts) ++ codes "end\n")
    rest = text_append (flat_map support_lines file.supports ++ start_lines file.starts) ((codes "end" ∷ []) ∷ [])
        ∙ ap (λ t. t ++ codes "end\n") (text_append (flat_map support_lines file.supports) (start_lines file.starts))
        ∙ append_assoc (text_of (flat_map support_lines file.supports)) (text_of (start_lines file.starts)) (codes "end\n")
        ∙ ap (λ t. t ++ (text_of (start_lines file.starts) ++ codes "end\n")) (ap (λ r. text_of (flat_map support_lines r)) (sym e) ∙ sym (flat f ss))
