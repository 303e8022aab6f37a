-- What is written as a log is read as it.
use Rattle.std.proofs.Common.{◌≡◌, ℕ, suc, ◌+◌, ◌*◌, ◌-◌, ◌^◌, ◌<◌, ◌≤◌, pos, neg_ℤ, List, [], ◌∷◌, ◌++◌, map, length, Ok, refl, sym, ap, subst, ◌∙◌, arith, lit<, append-nil}
use Rattle.std.specs.Prelude.{decimal, codes}
use Rattle.std.specs.Fmt.{signed_decimal}
use Rattle.int_vectors.specs.Vectors.{Each}
use Rattle.cayley.specs.Files.{File, FilePoint}
use Rattle.cayley.specs.Valid.{IsValidFile}
use Rattle.cayley.specs.declared.found.FoundCell.{FoundCell}
use Rattle.line_text.specs.Lines.{Row, lines_of, end_line_of}
use Rattle.int_vectors.proofs.Each.{each_append, each_unmap}
use Rattle.support_text.specs.declared.fault.Kind.TheVariants.{Count, Number, Range}
use Rattle.support_text.specs.Faults.{series}
use Rattle.support_text.specs.Words.{Text, words, word, nothing_more, next_line}
use Rattle.support_text.specs.ProblemText.{problem_at, no_line}
use Rattle.support_text.specs.Writing.{problem_lines}
use Rattle.support_text.proofs.Series.{Chain, ReadsEach, series_again}
use Rattle.support_text.proofs.ReadBack.{AreLines, lines_are, lines_split, next_again, number_again, numbers_again, counting_again, file_again}
use Rattle.support_text.proofs.WrittenWords.{IsWord, IsLine, plain_word, mark_word, number_word, lines_again, each-map}
use Rattle.support_text.proofs.FileTexts.{file_lines, valid_is_read, count_word}
use Rattle.listing_text.specs.ListingText.{normal_entry, part_at, counts_of}
use Rattle.listing_text.specs.Writing.{position_words, cells_lines}
use Rattle.listing_text.specs.Forms.{IsEntry, IsFormed}
use Rattle.listing_text.proofs.Limits.{entry_width}
use Rattle.listing_text.proofs.ListingBack.{largest, entries_small, over_width, pairs_again, positions_are_words, cells_are_lines, small_counts, part_back}
use Rattle.path_trace.specs.declared.trace.TraceNode.{TraceNode}
use Rattle.path_log.specs.declared.log.LogNode.{LogNode}
use Rattle.path_log.specs.LogText.{spans_of, log_line, node_line, node_at, log_of}
use Rattle.path_log.specs.Forms.{IsFormedNode, MeansLog, node_of}
use Rattle.path_log.specs.Writing.{node_words, nodes_lines, log_lines, log_text}

-- ---- node lines

abbrev noted_at : ℕ → TraceNode → LogNode
noted_at line x = record { line = line; node = x }

node_again : (spans : List ℕ) (x : TraceNode) → Each spans (λ m. m < 2 ^ 127) → IsFormedNode spans x → (line : ℕ) → node_line spans line (node_words x) ≡ Ok (noted_at line x)
unfolding node_line word nothing_more
node_again spans x small formed line =
    let n = length spans in
    let inverse : List Text = map signed_decimal x.inverse in
    let first = pairs_again spans line x.cell (codes ":" ∷ signed_decimal x.scale ∷ codes ":" ∷ inverse) formed.cell small in
    let second = number_again (pos 1) largest Number Range line x.scale (codes ":" ∷ inverse) formed.scale (over_width (2 ^ 127 - 1) x.scale formed.scale.0 formed.scale.1 (lit< tt)) in
    let third : series (n * n) (normal_entry line) [] inverse ≡ Ok (x.inverse, []) =
    subst (λ (ws : List Text). series (n * n) (normal_entry line) [] ws ≡ Ok (x.inverse, [])) (append-nil inverse)
    (numbers_again (neg_ℤ largest) largest Number Range line (n * n) x.inverse [] entries_small formed.entries formed.size) in
    rw (first, second, third) refl

-- the line of a node
abbrev TakesNode : LogNode → List Row → List Row → Type 0
TakesNode y rows rest = (row : Row) × (rows ≡ row ∷ rest) × (words row ≡ node_words y.node) × (row.number ≡ y.line)

nodes_chain : (nodes : List TraceNode) (rows rest : List Row) → AreLines (map node_words nodes) rows rest → (noted : List LogNode) × Chain TakesNode noted rows rest × (map node_of noted ≡ nodes)
nodes_chain [] rows rest h = ([], h, refl)
nodes_chain (x ∷ nodes) rows rest h =
    let r = nodes_chain nodes h.1 rest h.4 in
    (noted_at h.0.number x ∷ r.0, (h.1, (h.0, h.2, h.3, refl), r.1), ap (λ (l : List TraceNode). x ∷ l) r.2)

row_again : (spans : List ℕ) (end : ℕ) (y : LogNode) (row : Row) (rest : List Row) → Each spans (λ m. m < 2 ^ 127) → IsFormedNode spans y.node → words row ≡ node_words y.node → row.number ≡ y.line
    → next_line (node_line spans) end (row ∷ rest) ≡ Ok (y, rest)
unfolding next_line
row_again spans end y row rest small formed e at =
    let read : node_line spans row.number (words row) ≡ Ok y = ap (node_line spans row.number) e ∙ node_again spans y.node small formed row.number ∙ ap (λ (k : ℕ). Ok (noted_at k y.node)) at in
    rw read refl

nodes_each : (spans : List ℕ) (end : ℕ) (before ys : List LogNode) → Each spans (λ m. m < 2 ^ 127) → Each ys (λ y. IsFormedNode spans y.node) → ReadsEach TakesNode (node_at spans end) before ys
nodes_each spans end before [] small h = tt
nodes_each spans end before (y ∷ ys) small h = (
  (λ s t takes. ap (next_line (node_line spans) end) takes.1 ∙ row_again spans end y takes.0 t small h.0 takes.2 takes.3),
  nodes_each spans end (before ++ y ∷ []) ys small h.1,
)

mapped_size : (ys : List LogNode) → length ys ≡ length (map node_of ys)
mapped_size [] = refl
mapped_size (y ∷ ys) = ap suc (mapped_size ys)

-- the node lines of a log
abbrev MeansNodes : List ℕ → ℕ → List Row → List Row → List TraceNode → Type 0
MeansNodes spans end rows rest nodes = (noted : List LogNode) × (series (length nodes) (node_at spans end) [] rows ≡ Ok (noted, rest)) × (map node_of noted ≡ nodes)

nodes_back : (spans : List ℕ) (end : ℕ) (nodes : List TraceNode) (rows rest : List Row) → Each spans (λ m. m < 2 ^ 127) → Each nodes (IsFormedNode spans) → AreLines (map node_words nodes) rows rest
    → MeansNodes spans end rows rest nodes
nodes_back spans end nodes rows rest small formed lines =
    let r = nodes_chain nodes rows rest lines in
    let size : length r.0 ≡ length nodes = mapped_size r.0 ∙ ap length r.2 in
    let each = each_unmap node_of (IsFormedNode spans) r.0 (subst (λ (l : List TraceNode). Each l (IsFormedNode spans)) (sym r.2) formed) in
    let body = subst (λ (k : ℕ). series k (node_at spans end) [] rows ≡ Ok (r.0, rest)) size
    (series_again TakesNode (node_at spans end) [] r.0 rows rest (nodes_each spans end [] r.0 small each) r.1) in
    (r.0, body, r.2)

-- ---- words

node_is_line : (spans : List ℕ) (x : TraceNode) → Each spans (λ m. m < 2 ^ 127) → IsFormedNode spans x → IsLine (node_words x)
node_is_line spans x small formed =
    let head : IsWord (codes "node") = plain_word 110 (111 ∷ 100 ∷ 101 ∷ []) refl refl in
    let colon : IsWord (codes ":") = mark_word 58 refl refl in
    let scale = number_word x.scale (over_width (2 ^ 127 - 1) x.scale formed.scale.0 formed.scale.1 (lit< tt)) in
    let entries = each-map IsWord IsEntry signed_decimal (λ z p. number_word z (entry_width z p.0 p.1)) x.inverse formed.entries in
    let body = each_append IsWord (position_words x.cell) (codes ":" ∷ signed_decimal x.scale ∷ codes ":" ∷ map signed_decimal x.inverse)
    (positions_are_words spans x.cell formed.cell small) (colon, (scale, (colon, entries))) in
    (omega arith, (head, body))

nodes_are_lines : (spans : List ℕ) (nodes : List TraceNode) → Each spans (λ m. m < 2 ^ 127) → Each nodes (IsFormedNode spans) → length nodes ≤ 4294967295 → Each (nodes_lines nodes) IsLine
nodes_are_lines spans nodes small formed few =
    let head : IsWord (codes "log") = plain_word 108 (111 ∷ 103 ∷ []) refl refl in
    let body = each-map IsLine (IsFormedNode spans) node_words (λ x p. node_is_line spans x small p) nodes formed in
    ((omega arith, (head, (count_word (length nodes) 4294967295 few (lit< tt), tt))), body)

-- ---- the law

small_spans : (more : ℕ) (ss : List (List FilePoint)) → more ≤ 17 → Each ss (λ s. (1 ≤ length s) × (length s ≤ 1000)) → Each (map (λ m. m + more) (map length ss)) (λ m. m < 2 ^ 127)
small_spans more [] few h = tt
small_spans more (s ∷ ss) few h = (below (length s) more h.0.1 few, small_spans more ss few h.1)
  where
    below : (k m : ℕ) → k ≤ 1000 → m ≤ 17 → k + m < 2 ^ 127
    below k m le few = omega arith

pub log_back : (file : File) (nodes : List TraceNode) (found : List FoundCell) → IsValidFile file → Each nodes (IsFormedNode (spans_of file)) → Each found (IsFormed (counts_of file))
    → 1 ≤ length nodes → length nodes ≤ 4294967295 → length found ≤ 4294967295 → MeansLog (log_text file nodes found) file nodes found
unfolding log_of no_line
log_back file nodes found valid noted formed some few less =
    let bytes = log_text file nodes found in
    let end = end_line_of bytes in
    let rows = lines_of bytes in
    let spans = spans_of file in
    let counts = counts_of file in
    let more : file.dimension + 1 ≤ 17 = omega (arith, valid.shape.dimension.1) in
    let wide : Each spans (λ m. m < 2 ^ 127) = small_spans (file.dimension + 1) file.supports more valid.shape.counts in
    let small = small_counts file.supports valid.shape.counts in
    let behind = each_append IsLine (nodes_lines nodes) (cells_lines found) (nodes_are_lines spans nodes wide noted few) (cells_are_lines counts found small formed less) in
    let are = each_append IsLine (problem_lines file) (nodes_lines nodes ++ cells_lines found) (file_lines file valid) behind in
    let same : map words rows ≡ log_lines file nodes found = lines_again (log_lines file nodes found) are in
    let lines : AreLines (log_lines file nodes found) rows [] = subst (λ (wss : List (List Text)). AreLines wss rows []) same (lines_are rows) in
    let parts = lines_split (problem_lines file) (nodes_lines nodes ++ cells_lines found) rows [] lines in
    let later = lines_split (nodes_lines nodes) (cells_lines found) parts.0 [] parts.2 in
    let read : problem_at end rows ≡ Ok (file, parts.0) = file_again end file rows parts.0 (valid_is_read file valid) parts.1 in
    let q = later.1 in
    let head : next_line log_line end parts.0 ≡ Ok (length nodes, q.1) =
    next_again log_line (codes "log" ∷ decimal (length nodes) ∷ []) (length nodes) end parts.0 q.1 (counting_again (codes "log") 4294967295 Count (length nodes) some few (lit< tt)) (q.0, q.1, q.2, q.3, refl) in
    let body = nodes_back spans end nodes q.1 later.0 wide noted q.4 in
    let body-read : series (length nodes) (node_at spans end) [] q.1 ≡ Ok (body.0, later.0) = body.1 in
    let part = part_back counts end found later.0 [] small formed less later.2 in
    let part-read : part_at counts end later.0 ≡ Ok (part.0, []) = part.1 in
    (record { file = file; nodes = body.0; part = part.0 }, rw (read, head, body-read, part-read) refl, refl, body.2, part.2)
