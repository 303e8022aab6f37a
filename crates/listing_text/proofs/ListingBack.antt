-- What is written as a listing is read as it.
use Rattle.std.proofs.Common.{◌≡◌, ℕ, zero, suc, ◌-◌, ◌^◌, ◌<◌, ◌≤◌, true, ℤ, pos, negsuc, neg_ℤ, ◌≤ℤ◌, List, [], ◌∷◌, ◌++◌, map, length, Ok, refl, sym, ap, subst, ◌∙◌, append_assoc, arith, lit<, length-append}
use Rattle.std.specs.Prelude.{decimal, codes, FitsSigned, nat_lt, slice_index_or}
use Rattle.std.specs.Int.{w128}
use Rattle.std.specs.Fmt.{signed_decimal}
use Rattle.std.proofs.lemmas.Bool.Decides.{Decides-ltb}
use Rattle.std.proofs.lemmas.Int.{ints}
use Rattle.int_vectors.specs.Vectors.{Each}
use Rattle.cayley.specs.Cells.{Cell}
use Rattle.cayley.specs.Files.{File, FilePoint}
use Rattle.cayley.specs.Valid.{IsValidFile}
use Rattle.cayley.specs.declared.found.FoundCell.{FoundCell}
use Rattle.line_text.specs.Lines.{Row, lines_of, end_line_of}
use Rattle.int_vectors.proofs.Each.{each_append, each_unmap}
use Rattle.support_text.specs.declared.fault.Kind.TheVariants.{Count, Number, Range}
use Rattle.support_text.specs.Faults.{series}
use Rattle.support_text.specs.Words.{Text, words, word, nothing_more, next_line}
use Rattle.support_text.specs.ProblemText.{end_line, problem_at, no_line}
use Rattle.support_text.specs.Writing.{problem_lines}
use Rattle.support_text.proofs.Series.{Chain, ReadsEach, series_again}
use Rattle.support_text.proofs.ReadBack.{AreLines, AreSmall, ReadsWords, lines_are, lines_split, next_again, number_again, numbers_again, end_again, file_again, natural_width}
use Rattle.support_text.proofs.WrittenWords.{IsWord, IsLine, plain_word, mark_word, number_word, lines_again, each-map}
use Rattle.support_text.proofs.FileTexts.{file_lines, valid_is_read, count_word}
use Rattle.listing_text.specs.declared.listing.ListedCell.{ListedCell}
use Rattle.listing_text.specs.ListingText.{cells_line, pair, pair_at, cell_line, cell_at, Part, next_number, part_at, cells_at, counts_of, listing_of}
use Rattle.listing_text.specs.Writing.{position_words, cell_words, cells_lines, listing_lines, listing_text}
use Rattle.listing_text.specs.Forms.{IsCellOf, IsEntry, IsFormed, found_of, MeansListing}
use Rattle.listing_text.proofs.Limits.{entry_width}

-- ---- pairs
pair_again : (m a b line : ℕ) (ws : List Text) → 1 ≤ a → a < b → b ≤ m → m < 2 ^ 127 → pair m line (decimal a ∷ decimal b ∷ ws) ≡ Ok ((a, b), ws)
unfolding pair
pair_again m a b line ws least rise most small =
    let first = number_again (pos 1) (pos m) Number Range line (pos a) (decimal b ∷ ws) (omega (arith, ints), omega (arith, ints)) (natural_width a m (omega arith) small) in
    let second = number_again (pos 1) (pos m) Number Range line (pos b) ws (omega (arith, ints), omega (arith, ints)) (natural_width b m most small) in
    let less : nat_lt a b ≡ true = (Decides-ltb a b).1 rise in
    rw (first, second, less) refl

abbrev TakesPair : ℕ × ℕ → List Text → List Text → Type 0
TakesPair x s t = s ≡ decimal x.0 ∷ decimal x.1 ∷ t

pub at_seam : (done : List ℕ) (m : ℕ) (ms : List ℕ) (k : ℕ) → k ≡ length done → slice_index_or (done ++ m ∷ ms) k 0 ≡ m
at_seam [] m ms zero e = refl
at_seam [] m ms (suc k) e = absurd (omega arith)
at_seam (d ∷ done) m ms zero e = absurd (omega arith)
at_seam (d ∷ done) m ms (suc k) e = at_seam done m ms k (omega arith)

pairs_each : (line : ℕ) (done ms : List ℕ) (before ps : Cell) → length before ≡ length done → IsCellOf ms ps → Each ms (λ m. m < 2 ^ 127) → ReadsEach TakesPair (pair_at (done ++ ms) line) before ps
pairs_each line done [] before [] size cell small = tt
pairs_each line done [] before (p ∷ ps) size cell small = absurd cell
pairs_each line done (m ∷ ms) before [] size cell small = absurd cell
pairs_each line done (m ∷ ms) before (p ∷ ps) size cell small =
    let here : slice_index_or (done ++ m ∷ ms) (length before) 0 ≡ m = at_seam done m ms (length before) size in
    let regrouped : (done ++ m ∷ []) ++ ms ≡ done ++ m ∷ ms = append_assoc done (m ∷ []) ms in
    let longer : length (before ++ p ∷ []) ≡ length (done ++ m ∷ []) = omega (arith, length-append before (p ∷ []), length-append done (m ∷ []), size) in (
      (λ s t takes. ap (λ (k : ℕ). pair k line s) here ∙ ap (pair m line) takes ∙ pair_again m p.0 p.1 line t cell.0 cell.1 cell.2 small.0),
      subst (λ (l : List ℕ). ReadsEach TakesPair (pair_at l line) (before ++ p ∷ []) ps) regrouped (pairs_each line (done ++ m ∷ []) ms (before ++ p ∷ []) ps longer cell.3 small.1),
    )

pairs_chain : (ps : Cell) (ws : List Text) → Chain TakesPair ps (position_words ps ++ ws) ws
pairs_chain [] ws = refl
pairs_chain (p ∷ ps) ws = (position_words ps ++ ws, refl, pairs_chain ps ws)

pub cell_size : (counts : List ℕ) (cell : Cell) → IsCellOf counts cell → length cell ≡ length counts
cell_size [] [] h = refl
cell_size [] (p ∷ cell) h = absurd h
cell_size (m ∷ counts) [] h = absurd h
cell_size (m ∷ counts) (p ∷ cell) h = ap suc (cell_size counts cell h.3)

pub pairs_again : (counts : List ℕ) (line : ℕ) (cell : Cell) (ws : List Text) → IsCellOf counts cell → Each counts (λ m. m < 2 ^ 127)
    → series (length counts) (pair_at counts line) [] (position_words cell ++ ws) ≡ Ok (cell, ws)
pairs_again counts line cell ws h small =
    subst (λ (k : ℕ). series k (pair_at counts line) [] (position_words cell ++ ws) ≡ Ok (cell, ws)) (cell_size counts cell h)
    (series_again TakesPair (pair_at counts line) [] cell (position_words cell ++ ws) ws (pairs_each line [] counts [] cell refl h small) (pairs_chain cell ws))

-- ---- cell lines

abbrev pub largest : ℤ
largest = pos (2 ^ 127 - 1)

pub entries_small : AreSmall (neg_ℤ largest) largest
entries_small z h = entry_width z h.0 h.1

pub over_width : (k : ℕ) (z : ℤ) → pos 1 ≤ℤ z → z ≤ℤ pos k → k < 2 ^ 127 → FitsSigned w128 z
over_width k (pos n) low high small = record { sfits = omega (arith, ints) }
over_width k (negsuc n) low high small = record { sfits = omega (arith, ints) }

abbrev listed_at : ℕ → FoundCell → ListedCell
listed_at line x = record { line = line; cell = x.cell; normal = x.normal }

cell_again : (counts : List ℕ) (x : FoundCell) → Each counts (λ m. m < 2 ^ 127) → IsFormed counts x → (line : ℕ) → cell_line counts line (cell_words x) ≡ Ok (listed_at line x)
unfolding cell_line word nothing_more
cell_again counts x small formed line =
    let last : List Text = signed_decimal x.normal.den ∷ [] in
    let behind : List Text = map signed_decimal x.normal.v ++ codes "/" ∷ last in
    let first = pairs_again counts line x.cell (codes ":" ∷ behind) formed.cell small in
    let second = numbers_again (neg_ℤ largest) largest Number Range line (length counts) x.normal.v (codes "/" ∷ last) entries_small formed.entries formed.size in
    let third = number_again (pos 1) largest Number Range line x.normal.den [] formed.den (over_width (2 ^ 127 - 1) x.normal.den formed.den.0 formed.den.1 (lit< tt)) in
    rw (first, second, third) refl

-- the line of a listed cell
abbrev TakesCell : ListedCell → List Row → List Row → Type 0
TakesCell y rows rest = (row : Row) × (rows ≡ row ∷ rest) × (words row ≡ cell_words (found_of y)) × (row.number ≡ y.line)

pub cells_chain : (found : List FoundCell) (rows rest : List Row) → AreLines (map cell_words found) rows rest → (listed : List ListedCell) × Chain TakesCell listed rows rest × (map found_of listed ≡ found)
cells_chain [] rows rest h = ([], h, refl)
cells_chain (x ∷ found) rows rest h =
    let r = cells_chain found h.1 rest h.4 in
    (listed_at h.0.number x ∷ r.0, (h.1, (h.0, h.2, h.3, refl), r.1), ap (λ (l : List FoundCell). x ∷ l) r.2)

row_again : (counts : List ℕ) (end : ℕ) (y : ListedCell) (row : Row) (rest : List Row) → Each counts (λ m. m < 2 ^ 127) → IsFormed counts (found_of y) → words row ≡ cell_words (found_of y) → row.number ≡ y.line
    → next_line (cell_line counts) end (row ∷ rest) ≡ Ok (y, rest)
unfolding next_line
row_again counts end y row rest small formed e at =
    let read : cell_line counts row.number (words row) ≡ Ok y = ap (cell_line counts row.number) e ∙ cell_again counts (found_of y) small formed row.number ∙ ap (λ (k : ℕ). Ok (listed_at k (found_of y))) at in
    rw read refl

cells_each : (counts : List ℕ) (end : ℕ) (before ys : List ListedCell) → Each counts (λ m. m < 2 ^ 127) → Each ys (λ y. IsFormed counts (found_of y)) → ReadsEach TakesCell (cell_at counts end) before ys
cells_each counts end before [] small h = tt
cells_each counts end before (y ∷ ys) small h = (
  (λ s t takes. ap (next_line (cell_line counts) end) takes.1 ∙ row_again counts end y takes.0 t small h.0 takes.2 takes.3),
  cells_each counts end (before ++ y ∷ []) ys small h.1,
)

count_again : (k : ℕ) → k ≤ 4294967295 → ReadsWords cells_line (codes "cells" ∷ decimal k ∷ []) k
unfolding cells_line word nothing_more
count_again k most line =
    let count = number_again (pos 0) (pos 4294967295) Count Count line (pos k) [] (omega (arith, ints), omega (arith, ints)) (natural_width k 4294967295 most (lit< tt)) in
    rw count refl

-- the lines behind the file
abbrev pub MeansPart : List ℕ → ℕ → List Row → List Row → List FoundCell → Type 0
MeansPart counts end rows rest found = (part : Part) × (part_at counts end rows ≡ Ok (part, rest)) × (map found_of part.cells ≡ found)

pub part_back : (counts : List ℕ) (end : ℕ) (found : List FoundCell) (rows rest : List Row) → Each counts (λ m. m < 2 ^ 127) → Each found (IsFormed counts) → length found ≤ 4294967295 → AreLines (cells_lines found) rows rest
    → MeansPart counts end rows rest found
unfolding part_at
part_back counts end found rows rest small formed few lines =
    let head = next_again cells_line (codes "cells" ∷ decimal (length found) ∷ []) (length found) end rows lines.1 (count_again (length found) few) (lines.0, lines.1, lines.2, lines.3, refl) in
    let parts = lines_split (map cell_words found) ((codes "end" ∷ []) ∷ []) lines.1 rest lines.4 in
    let r = cells_chain found lines.1 parts.0 parts.1 in
    let size : length r.0 ≡ length found = mapped_size r.0 ∙ ap length r.2 in
    let each = each_unmap found_of (IsFormed counts) r.0 (subst (λ (l : List FoundCell). Each l (IsFormed counts)) (sym r.2) formed) in
    let body = subst (λ (k : ℕ). series k (cell_at counts end) [] lines.1 ≡ Ok (r.0, parts.0)) size
    (series_again TakesCell (cell_at counts end) [] r.0 lines.1 parts.0 (cells_each counts end [] r.0 small each) r.1) in
    let last = next_again end_line (codes "end" ∷ []) tt end parts.0 rest end_again parts.2 in
    (record { cells_line = next_number end rows; cells = r.0; end_line = next_number end parts.0 }, rw (head, body, last) refl, r.2)
  where
    mapped_size : (ys : List ListedCell) → length ys ≡ length (map found_of ys)
    mapped_size [] = refl
    mapped_size (y ∷ ys) = ap suc (mapped_size ys)

-- ---- words

pub positions_are_words : (counts : List ℕ) (cell : Cell) → IsCellOf counts cell → Each counts (λ m. m < 2 ^ 127) → Each (position_words cell) IsWord
positions_are_words [] [] h small = tt
positions_are_words [] (p ∷ cell) h small = absurd h
positions_are_words (m ∷ counts) [] h small = absurd h
positions_are_words (m ∷ counts) (p ∷ cell) h small =
    (count_word p.0 m (omega (arith, h.1, h.2)) small.0, (count_word p.1 m h.2 small.0, positions_are_words counts cell h.3 small.1))

cell_is_line : (counts : List ℕ) (x : FoundCell) → Each counts (λ m. m < 2 ^ 127) → IsFormed counts x → IsLine (cell_words x)
cell_is_line counts x small formed =
    let head : IsWord (codes "cell") = plain_word 99 (101 ∷ 108 ∷ 108 ∷ []) refl refl in
    let colon : IsWord (codes ":") = mark_word 58 refl refl in
    let slash : IsWord (codes "/") = mark_word 47 refl refl in
    let den = number_word x.normal.den (over_width (2 ^ 127 - 1) x.normal.den formed.den.0 formed.den.1 (lit< tt)) in
    let entries = each-map IsWord IsEntry signed_decimal (λ z p. number_word z (entry_width z p.0 p.1)) x.normal.v formed.entries in
    let behind = each_append IsWord (map signed_decimal x.normal.v) (codes "/" ∷ signed_decimal x.normal.den ∷ []) entries (slash, (den, tt)) in
    let body = each_append IsWord (position_words x.cell) (codes ":" ∷ (map signed_decimal x.normal.v ++ codes "/" ∷ signed_decimal x.normal.den ∷ []))
    (positions_are_words counts x.cell formed.cell small) (colon, behind) in
    (omega arith, (head, body))

pub cells_are_lines : (counts : List ℕ) (found : List FoundCell) → Each counts (λ m. m < 2 ^ 127) → Each found (IsFormed counts) → length found ≤ 4294967295 → Each (cells_lines found) IsLine
cells_are_lines counts found small formed few =
    let head : IsWord (codes "cells") = plain_word 99 (101 ∷ 108 ∷ 108 ∷ 115 ∷ []) refl refl in
    let last : IsWord (codes "end") = plain_word 101 (110 ∷ 100 ∷ []) refl refl in
    let body = each_append IsLine (map cell_words found) ((codes "end" ∷ []) ∷ []) (each-map IsLine (IsFormed counts) cell_words (λ x p. cell_is_line counts x small p) found formed) ((omega arith, (last, tt)), tt) in
    ((omega arith, (head, (count_word (length found) 4294967295 few (lit< tt), tt))), body)

-- ---- the law

pub small_counts : (ss : List (List FilePoint)) → Each ss (λ s. (1 ≤ length s) × (length s ≤ 1000)) → Each (map length ss) (λ m. m < 2 ^ 127)
small_counts [] h = tt
small_counts (s ∷ ss) h = (below (length s) h.0.1, small_counts ss h.1)
  where
    below : (k : ℕ) → k ≤ 1000 → k < 2 ^ 127
    below k le = omega arith

pub listing_back : (file : File) (found : List FoundCell) → IsValidFile file → Each found (IsFormed (counts_of file)) → length found ≤ 4294967295 → MeansListing (listing_text file found) file found
unfolding listing_of cells_at no_line
listing_back file found valid formed few =
    let bytes = listing_text file found in
    let end = end_line_of bytes in
    let rows = lines_of bytes in
    let counts = counts_of file in
    let small = small_counts file.supports valid.shape.counts in
    let are = each_append IsLine (problem_lines file) (cells_lines found) (file_lines file valid) (cells_are_lines counts found small formed few) in
    let same : map words rows ≡ listing_lines file found = lines_again (listing_lines file found) are in
    let lines : AreLines (listing_lines file found) rows [] = subst (λ (wss : List (List Text)). AreLines wss rows []) same (lines_are rows) in
    let parts = lines_split (problem_lines file) (cells_lines found) rows [] lines in
    let read : problem_at end rows ≡ Ok (file, parts.0) = file_again end file rows parts.0 (valid_is_read file valid) parts.1 in
    let part = part_back counts end found parts.0 [] small formed few parts.2 in
    let part-read : part_at counts end parts.0 ≡ Ok (part.0, []) = part.1 in
    (part.0.cells, rw (read, part-read) refl, part.2)
