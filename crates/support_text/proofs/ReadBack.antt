-- What is written is read: words, lines, points, supports, files.
use Rattle.std.proofs.Common.{◌≡◌, ℕ, ◌-◌, ◌^◌, ◌<◌, ◌≤◌, ℤ, pos, negsuc, neg_ℤ, List, [], ◌∷◌, ◌++◌, map, length, Option, Some, None, Ok, refl, ap, subst, ◌∙◌, append_assoc, append-nil, arith, lit<}
use Rattle.std.specs.Prelude.{decimal, codes, FitsSigned, flat_map, unsigned_abs}
use Rattle.std.specs.Int.{w128}
use Rattle.std.specs.Fmt.{signed_decimal}
use Rattle.std.proofs.lemmas.Slice.Eq.{bytes_eq-Decides}
use Rattle.std.proofs.lemmas.Int.{ints}
use Rattle.int_vectors.specs.Vectors.{Each}
use Rattle.cayley.specs.Problems.{Version, version1, version2}
use Rattle.cayley.specs.Files.{File, FilePoint}
use Rattle.cayley.specs.Valid.{IsCoordinate, IsHeight}
use Rattle.line_text.specs.Lines.{Row}
use Rattle.support_text.specs.declared.fault.Kind.{Kind}
use Rattle.support_text.specs.declared.fault.Kind.TheVariants.{Dim, Count, Number, Range, Start}
use Rattle.support_text.specs.Faults.{Reading, series}
use Rattle.support_text.specs.Words.{Text, words, word, number, nothing_more, next_line}
use Rattle.support_text.specs.ProblemText.{version_word, header_line, counting_line, dim_line, count_line, coordinates, point_line, point_at, support, support_at, supports, start_height, start_heights, start_line, start_at, end_line, opening, starts_and_end, end_alone, ending_of, ending, problem_at}
use Rattle.support_text.specs.Writing.{point_words, support_lines, start_words, start_lines, version_text, problem_lines}
use Rattle.support_text.proofs.Numbers.{IsWithin, number_in_text}
use Rattle.support_text.proofs.Series.{Chain, ReadsEach, series_again}
use Rattle.support_text.proofs.Kept.{KeepsEach, IsNewPoint}
use Rattle.support_text.proofs.ValidFiles.{IsReadSupport, IsStartLine, AreStarts}

pub number_again : (low high : ℤ) (wrong outside : Kind) (line : ℕ) (z : ℤ) (ws : List Text) → IsWithin low high z → FitsSigned w128 z
    → number low high wrong outside line (signed_decimal z ∷ ws) ≡ Ok (z, ws)
unfolding number
number_again low high wrong outside line z ws within small = rw (number_in_text low high z within small) refl

-- the numbers of a line are read one after the other
abbrev TakesNumber : ℤ → List Text → List Text → Type 0
TakesNumber z s t = s ≡ signed_decimal z ∷ t

number_chain : (zs : List ℤ) (ws : List Text) → Chain TakesNumber zs (map signed_decimal zs ++ ws) ws
number_chain [] ws = refl
number_chain (z ∷ zs) ws = (map signed_decimal zs ++ ws, refl, number_chain zs ws)

-- limits within 128 bits
abbrev pub AreSmall : ℤ → ℤ → Type 0
AreSmall low high = (z : ℤ) → IsWithin low high z → FitsSigned w128 z

numbers_each : (low high : ℤ) (wrong outside : Kind) (line : ℕ) (before zs : List ℤ) → AreSmall low high → Each zs (IsWithin low high)
    → ReadsEach TakesNumber (λ b. number low high wrong outside line) before zs
numbers_each low high wrong outside line before [] small within = tt
numbers_each low high wrong outside line before (z ∷ zs) small within = (
  (λ s t e. ap (number low high wrong outside line) e ∙ number_again low high wrong outside line z t within.0 (small z within.0)),
  numbers_each low high wrong outside line (before ++ z ∷ []) zs small within.1,
)

pub numbers_again : (low high : ℤ) (wrong outside : Kind) (line n : ℕ) (zs : List ℤ) (ws : List Text) → AreSmall low high → Each zs (IsWithin low high) → length zs ≡ n
    → series n (λ (before : List ℤ). number low high wrong outside line) [] (map signed_decimal zs ++ ws) ≡ Ok (zs, ws)
numbers_again low high wrong outside line n zs ws small within size =
    subst (λ (k : ℕ). series k (λ (before : List ℤ). number low high wrong outside line) [] (map signed_decimal zs ++ ws) ≡ Ok (zs, ws)) size
    (series_again TakesNumber (λ b. number low high wrong outside line) [] zs (map signed_decimal zs ++ ws) ws
    (numbers_each low high wrong outside line [] zs small within) (number_chain zs ws))

-- ---- lines

-- the lines of these words, and then the rest
abbrev pub AreLines : List (List Text) → List Row → List Row → Type 0
AreLines [] rows rest = rows ≡ rest
AreLines (ws ∷ wss) rows rest = (row : Row) × (more : List Row) × (rows ≡ row ∷ more) × (words row ≡ ws) × AreLines wss more rest

pub lines_split : (a b : List (List Text)) (rows rest : List Row) → AreLines (a ++ b) rows rest → (between : List Row) × AreLines a rows between × AreLines b between rest
lines_split [] b rows rest h = (rows, refl, h)
lines_split (ws ∷ a) b rows rest h =
    let r = lines_split a b h.1 rest h.4 in
    (r.0, (h.0, h.1, h.2, h.3, r.1), r.2)

pub lines_are : (rows : List Row) → AreLines (map words rows) rows []
lines_are [] = refl
lines_are (row ∷ rows) = (row, rows, refl, refl, lines_are rows)

-- a reader of a line's words reads the next line that has these words
abbrev pub ReadsWords : {A : Type 0} → (ℕ → List Text → Reading A) → List Text → A → Type 0
ReadsWords read ws x = (line : ℕ) → read line ws ≡ Ok x

next_row_again : {A : Type 0} (read : ℕ → List Text → Reading A) (ws : List Text) (x : A) (end : ℕ) (row : Row) (rows : List Row) → ReadsWords read ws x → words row ≡ ws
    → next_line read end (row ∷ rows) ≡ Ok (x, rows)
unfolding next_line
next_row_again read ws x end row rows reads e =
    let one : read row.number (words row) ≡ Ok x = ap (read row.number) e ∙ reads row.number in
    rw one refl

pub next_again : {A : Type 0} (read : ℕ → List Text → Reading A) (ws : List Text) (x : A) (end : ℕ) (rows rest : List Row) → ReadsWords read ws x → AreLines (ws ∷ []) rows rest
    → next_line read end rows ≡ Ok (x, rest)
next_again read ws x end rows rest reads lines =
    let whole : rows ≡ lines.0 ∷ rest = lines.2 ∙ ap (λ (l : List Row). lines.0 ∷ l) lines.4 in
    ap (next_line read end) whole ∙ next_row_again read ws x end lines.0 rest reads lines.3

-- one line for each item
abbrev pub TakesLine : {A : Type 0} → (A → List Text) → A → List Row → List Row → Type 0
TakesLine write x rows rest = AreLines (write x ∷ []) rows rest

pub line_chain : {A : Type 0} (write : A → List Text) (xs : List A) (rows rest : List Row) → AreLines (map write xs) rows rest → Chain (TakesLine write) xs rows rest
line_chain write [] rows rest h = h
line_chain write (x ∷ xs) rows rest h = (h.1, (h.0, h.1, h.2, h.3, refl), line_chain write xs h.1 rest h.4)

-- ---- points

pub width : (z : ℤ) (n : ℕ) → unsigned_abs z ≤ n → n < 2 ^ 127 → FitsSigned w128 z
width (pos k) n h lt = record { sfits = omega (arith, ints) }
width (negsuc k) n h lt = record { sfits = omega (arith, ints) }

coordinate_within : (z : ℤ) → IsCoordinate z → IsWithin (neg_ℤ (pos 1000000)) (pos 1000000) z
coordinate_within z h = (omega (arith, ints), omega (arith, ints))

height_within : (z : ℤ) → IsHeight z → IsWithin (neg_ℤ (pos 1000000000)) (pos 1000000000) z
height_within z h = (omega (arith, ints), omega (arith, ints))

coordinates_small : AreSmall (neg_ℤ (pos 1000000)) (pos 1000000)
coordinates_small z h = width z 1000000 (omega (arith, ints)) (lit< tt)

starts_small : AreSmall (pos 1) (pos 1000000000)
starts_small z h = width z 1000000000 (omega (arith, ints)) (lit< tt)

each_within : (xs : List ℤ) → Each xs IsCoordinate → Each xs (IsWithin (neg_ℤ (pos 1000000)) (pos 1000000))
each_within [] h = tt
each_within (x ∷ xs) h = (coordinate_within x h.0, each_within xs h.1)

pub coordinates_again : (line n : ℕ) (xs : List ℤ) (ws : List Text) → length xs ≡ n → Each xs IsCoordinate → coordinates n line (map signed_decimal xs ++ ws) ≡ Ok (xs, ws)
coordinates_again line n xs ws size within =
    numbers_again (neg_ℤ (pos 1000000)) (pos 1000000) Number Range line n xs ws coordinates_small (each_within xs within) size

height_again : (line : ℕ) (h : ℤ) (ws : List Text) → IsHeight h → number (neg_ℤ (pos 1000000000)) (pos 1000000000) Number Range line (signed_decimal h ∷ ws) ≡ Ok (h, ws)
height_again line h ws within = number_again (neg_ℤ (pos 1000000000)) (pos 1000000000) Number Range line h ws (height_within h within) (width h 1000000000 within (lit< tt))

pub point_again : (n : ℕ) (earlier : List FilePoint) (x : FilePoint) → IsNewPoint n earlier x → ReadsWords (point_line n earlier) (point_words x) x
unfolding point_line word nothing_more
point_again n earlier x new line =
    let colon : List Text = codes ":" ∷ signed_decimal x.height ∷ [] in
    let first = coordinates_again line n x.coordinates colon new.0 new.1.0 in
    let second = height_again line x.height [] new.1.1 in
    rw (first, second, new.2) refl

abbrev TakesPoint : FilePoint → List Row → List Row → Type 0
TakesPoint = TakesLine point_words

points_each : (n end : ℕ) (before xs : List FilePoint) → KeepsEach (IsNewPoint n) before xs → ReadsEach TakesPoint (point_at n end) before xs
points_each n end before [] h = tt
points_each n end before (x ∷ xs) h = (
  (λ s t takes. next_again (point_line n before) (point_words x) x end s t (point_again n before x h.0) takes),
  points_each n end (before ++ x ∷ []) xs h.1,
)

-- ---- supports

pub natural_width : (k limit : ℕ) → k ≤ limit → limit < 2 ^ 127 → FitsSigned w128 (pos k)
natural_width k limit h lt = record { sfits = omega arith }

pub counting_again : (text : Text) (limit : ℕ) (kind : Kind) (k : ℕ) → 1 ≤ k → k ≤ limit → limit < 2 ^ 127 → ReadsWords (counting_line text (pos limit) kind) (text ∷ decimal k ∷ []) k
unfolding counting_line word nothing_more
counting_again text limit kind k least greatest small line =
    let same = (bytes_eq-Decides text text).1 refl in
    let count = number_again (pos 1) (pos limit) kind kind line (pos k) [] (omega (arith, ints), omega (arith, ints)) (natural_width k limit greatest small) in
    rw (same, count) refl

abbrev TakesSupport : List FilePoint → List Row → List Row → Type 0
TakesSupport s rows rest = AreLines (support_lines s) rows rest

support_again : (n end : ℕ) (s : List FilePoint) (rows rest : List Row) → IsReadSupport n s → AreLines (support_lines s) rows rest → support n end rows ≡ Ok (s, rest)
unfolding support
support_again n end s rows rest read lines =
    let head = next_again count_line (codes "support" ∷ decimal (length s) ∷ []) (length s) end rows lines.1 (counting_again (codes "support") 1000 Count (length s) read.0 read.1 (lit< tt)) (lines.0, lines.1, lines.2, lines.3, refl) in
    let points = series_again TakesPoint (point_at n end) [] s lines.1 rest (points_each n end [] s read.2) (line_chain point_words s lines.1 rest lines.4) in
    rw (head, points) refl

support_chain : (ss : List (List FilePoint)) (rows rest : List Row) → AreLines (flat_map support_lines ss) rows rest → Chain TakesSupport ss rows rest
support_chain [] rows rest h = h
support_chain (s ∷ ss) rows rest h =
    let r = lines_split (support_lines s) (flat_map support_lines ss) rows rest h in
    (r.0, r.1, support_chain ss r.0 rest r.2)

supports_each : (n end : ℕ) (before ss : List (List FilePoint)) → Each ss (IsReadSupport n) → ReadsEach TakesSupport (support_at n end) before ss
supports_each n end before [] h = tt
supports_each n end before (s ∷ ss) h = ((λ rows rest takes. support_again n end s rows rest h.0 takes), supports_each n end (before ++ s ∷ []) ss h.1)

pub supports_again : (n end : ℕ) (ss : List (List FilePoint)) (rows rest : List Row) → length ss ≡ n → Each ss (IsReadSupport n) → AreLines (flat_map support_lines ss) rows rest
    → supports n end rows ≡ Ok (ss, rest)
supports_again n end ss rows rest size read lines =
    subst (λ (k : ℕ). series k (support_at n end) [] rows ≡ Ok (ss, rest)) size
    (series_again TakesSupport (support_at n end) [] ss rows rest (supports_each n end [] ss read) (support_chain ss rows rest lines))

-- ---- start lines and `end`

pub heights_again : (n line : ℕ) (hs : List ℤ) → IsStartLine n hs → start_heights n line (map signed_decimal hs) ≡ Ok hs
unfolding start_heights nothing_more
heights_again n line hs h =
    let all = numbers_again (pos 1) (pos 1000000000) Start Start line (n - 1) hs [] starts_small h.1 h.0 in
    let plain : map signed_decimal hs ++ [] ≡ map signed_decimal hs = append-nil (map signed_decimal hs) in
    let read = subst (λ (l : List Text). series (n - 1) (start_height line) [] l ≡ Ok (hs, [])) plain all in
    rw read refl

pub start_again : (n : ℕ) (hs : List ℤ) → IsStartLine n hs → ReadsWords (start_line n) (start_words hs) hs
unfolding start_line word
start_again n hs h line = heights_again n line hs h

starts_each : (n end : ℕ) (before starts : List (List ℤ)) → Each starts (IsStartLine n) → ReadsEach (TakesLine start_words) (start_at n end) before starts
starts_each n end before [] h = tt
starts_each n end before (s ∷ starts) h =
    ((λ rows rest takes. next_again (start_line n) (start_words s) s end rows rest (start_again n s h.0) takes), starts_each n end (before ++ s ∷ []) starts h.1)

pub end_again : ReadsWords end_line (codes "end" ∷ []) tt
unfolding end_line word nothing_more
end_again line = refl

starts_and_end_again : (n end line : ℕ) (first : List ℤ) (starts : List (List ℤ)) (rows rest : List Row) → length (first ∷ starts) ≡ n → IsStartLine n first → Each starts (IsStartLine n)
    → AreLines (map start_words starts ++ (codes "end" ∷ []) ∷ []) rows rest → starts_and_end n end line (map signed_decimal first) rows ≡ Ok (Some (first ∷ starts), rest)
unfolding starts_and_end
starts_and_end_again n end line first starts rows rest size one others lines =
    let parts = lines_split (map start_words starts) ((codes "end" ∷ []) ∷ []) rows rest lines in
    let head = heights_again n line first one in
    let less : length starts ≡ n - 1 = omega (arith, size) in
    let body = subst (λ (k : ℕ). series k (start_at n end) (first ∷ []) rows ≡ Ok (first ∷ starts, parts.0)) less
    (series_again (TakesLine start_words) (start_at n end) (first ∷ []) starts rows parts.0 (starts_each n end (first ∷ []) starts others) (line_chain start_words starts rows parts.0 parts.1)) in
    let last = next_again end_line (codes "end" ∷ []) tt end parts.0 rest end_again parts.2 in
    rw (head, body, last) refl

ending_row : (n end : ℕ) (ws : List Text) (row : Row) (rows : List Row) (x : Reading (Option (List (List ℤ)) × List Row)) → words row ≡ ws → ((line : ℕ) → ending_of n end line (opening ws) rows ≡ x)
    → ending n end (row ∷ rows) ≡ x
unfolding ending
ending_row n end ws row rows x e h = ap (λ (l : List Text). ending_of n end row.number (opening l) rows) e ∙ h row.number

pub ending_again : (n end : ℕ) (starts : Option (List (List ℤ))) (rows rest : List Row) → 1 ≤ n → AreStarts n starts → AreLines (start_lines starts ++ (codes "end" ∷ []) ∷ []) rows rest
    → ending n end rows ≡ Ok (starts, rest)
unfolding ending_of end_alone nothing_more
ending_again n end None rows rest some h lines =
    let whole : rows ≡ lines.0 ∷ rest = lines.2 ∙ ap (λ (l : List Row). lines.0 ∷ l) lines.4 in
    ap (ending n end) whole ∙ ending_row n end (codes "end" ∷ []) lines.0 rest (Ok (None, rest)) lines.3 (λ line. refl)
ending_again n end (Some []) rows rest some h lines = absurd (omega (arith, h.0))
ending_again n end (Some (first ∷ starts)) rows rest some h lines =
    ap (ending n end) lines.2 ∙ ending_row n end (start_words first) lines.0 lines.1 (Ok (Some (first ∷ starts), rest)) lines.3
    (λ line. starts_and_end_again n end line first starts lines.1 rest h.0 h.1.0 h.1.1 lines.4)

-- ---- files

header_again : (v : Version) → ReadsWords header_line (codes "mixedcells" ∷ version_text v ∷ []) v
unfolding header_line version_word word nothing_more
header_again version1 line = refl
header_again version2 line = refl

-- a valid file's parts, as they are read
pub record IsReadFile (file : File) : Type 0 where
  pub dimension : (1 ≤ file.dimension) × (file.dimension ≤ 16)
  pub count : length file.supports ≡ file.dimension
  pub supports : Each file.supports (IsReadSupport file.dimension)
  pub starts : AreStarts file.dimension file.starts

pub file_again : (end : ℕ) (file : File) (rows rest : List Row) → IsReadFile file → AreLines (problem_lines file) rows rest → problem_at end rows ≡ Ok (file, rest)
unfolding problem_at problem_lines
file_again end file rows rest read lines =
    let n = file.dimension in
    let head = next_again header_line (codes "mixedcells" ∷ version_text file.version ∷ []) file.version end rows lines.1 (header_again file.version) (lines.0, lines.1, lines.2, lines.3, refl) in
    let second = lines.4 in
    let dim = next_again dim_line (codes "dim" ∷ decimal n ∷ []) n end lines.1 second.1 (counting_again (codes "dim") 16 Dim n read.dimension.0 read.dimension.1 (lit< tt)) (second.0, second.1, second.2, second.3, refl) in
    let regrouped = subst (λ (l : List (List Text)). AreLines l second.1 rest) (append_assoc (flat_map support_lines file.supports) (start_lines file.starts) ((codes "end" ∷ []) ∷ [])) second.4 in
    let parts = lines_split (flat_map support_lines file.supports) (start_lines file.starts ++ (codes "end" ∷ []) ∷ []) second.1 rest regrouped in
    let points = supports_again n end file.supports second.1 parts.0 read.count read.supports parts.1 in
    let last = ending_again n end file.starts parts.0 rest read.dimension.0 read.starts parts.2 in
    rw (head, dim, points, last) refl
