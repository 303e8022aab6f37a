-- What is read as a listing is in form.
use Rattle.std.proofs.Common.{◌≡◌, ℕ, ◌-◌, ◌^◌, ◌<◌, ◌≤◌, Bool, true, false, cond, ℤ, pos, neg_ℤ, List, [], ◌∷◌, ◌++◌, map, length, Ok, Err, refl, sym, ap, subst, ◌∙◌, append_assoc, arith, length-append}
use Rattle.std.specs.Prelude.{codes, nat_lt, slice_index_or, unsigned_abs}
use Rattle.std.proofs.lemmas.Bool.Decides.{Decides-ltb}
use Rattle.std.proofs.lemmas.Int.{ints}
use Rattle.std.proofs.lemmas.List.{length-map}
use Rattle.int_vectors.specs.Vectors.{Each}
use Rattle.cayley.specs.Problems.{unperturbed, HasSamePoints}
use Rattle.cayley.specs.Cells.{Cell, EachPair}
use Rattle.cayley.specs.Files.{File, FilePoint, resting, plain_problem}
use Rattle.cayley.specs.Valid.{IsValidFile}
use Rattle.cayley.proofs.Ranking.PlainProblems.{plain_of, plain_unperturbed}
use Rattle.cayley.proofs.Ranking.Unperturbed.{same_unperturbed, same_of}
use Rattle.int_vectors.proofs.Each.{each_weaker}
use Rattle.line_text.specs.Lines.{Row, lines_of, end_line_of}
use Rattle.support_text.specs.declared.fault.Kind.TheVariants.{Count, Number, Range}
use Rattle.support_text.specs.declared.fault.FormatFault.{FormatFault}
use Rattle.support_text.specs.Faults.{Reading, ◌>>=◌, fault, series}
use Rattle.support_text.specs.Words.{Text, word, number, nothing_more, next_line}
use Rattle.support_text.specs.ProblemText.{header_line, dim_line, supports, ending, end_line, problem_at, problem_of, no_line}
use Rattle.support_text.proofs.Series.{bind_ok, ok_is}
use Rattle.support_text.proofs.Kept.{KeepsEach, series_all, each_of, next_line_ok, number_within}
use Rattle.support_text.proofs.ValidFiles.{dim_within, supports_within, ending_within, file_within}
use Rattle.support_text.proofs.ReadProblem.{made as file_of}
use Rattle.listing_text.specs.declared.listing.ListedCell.{ListedCell}
use Rattle.listing_text.specs.ListingText.{Listed, cells_line, pair, pair_at, normal_entry, cell_line, cell_at, Part, next_number, part_at, cells_at, cells_through, counts_of, listing_of, listing_at}
use Rattle.listing_text.specs.Forms.{IsCellOf, IsEntry, IsFormed, found_of, IsOfFile}
use Rattle.listing_text.proofs.ListingBack.{at_seam}

-- ---- the file
pub problem_valid : (end : ℕ) (rows : List Row) (x : File × List Row) → problem_at end rows ≡ Ok x → IsValidFile x.0
unfolding problem_at
problem_valid end rows x e =
    let a = bind_ok (next_line header_line end rows) (λ version. next_line dim_line end version.1 >>= λ n. supports n.0 end n.1 >>= λ points. ending n.0 end points.1 >>= λ starts. Ok (file_of version.0 n.0 points.0 starts.0, starts.1)) x e in
    let b = bind_ok (next_line dim_line end a.0.1) (λ n. supports n.0 end n.1 >>= λ points. ending n.0 end points.1 >>= λ starts. Ok (file_of a.0.0 n.0 points.0 starts.0, starts.1)) x a.2 in
    let c = bind_ok (supports b.0.0 end b.0.1) (λ points. ending b.0.0 end points.1 >>= λ starts. Ok (file_of a.0.0 b.0.0 points.0 starts.0, starts.1)) x b.2 in
    let d = bind_ok (ending b.0.0 end c.0.1) (λ starts. Ok (file_of a.0.0 b.0.0 c.0.0 starts.0, starts.1)) x c.2 in
    let dim = dim_within end a.0.1 b.0 b.1 in
    let valid = file_within a.0.0 b.0.0 c.0.0 d.0.0 dim (supports_within b.0.0 end b.0.1 c.0 c.1) (ending_within b.0.0 end c.0.1 d.0 dim.0 d.1) in
    let made : File × List Row = (file_of a.0.0 b.0.0 c.0.0 d.0.0, d.0.1) in
    subst (λ (y : File × List Row). IsValidFile y.0) (ok_is made x d.2) valid

-- a file that some bytes mean is valid
pub meant_valid : (bytes : List ℕ) (file : File) → problem_of bytes ≡ Ok file → IsValidFile file
unfolding problem_of
meant_valid bytes file e =
    let a = bind_ok (problem_at (end_line_of bytes) (lines_of bytes)) (λ (x : File × List Row). no_line x.1 >>= λ ended. Ok x.0) file e in
    let b = bind_ok (no_line a.0.1) (λ ended. Ok a.0.0) file a.2 in
    subst IsValidFile (ok_is a.0.0 file b.2) (problem_valid (end_line_of bytes) (lines_of bytes) a.0 a.1)

-- ---- pairs

guarded : {A : Type 0} (b : Bool) (f : FormatFault) (x y : A) → cond b (Ok x) (Err f) ≡ Ok y → (b ≡ true) × (x ≡ y)
guarded true f x y e = (refl, cc)
guarded false f x y e = absurd cc

abbrev pub IsPairTo : ℕ → ℕ × ℕ → Type 0
IsPairTo m x = (1 ≤ x.0) × (x.0 < x.1) × (x.1 ≤ m)

pub pair_within : (m line : ℕ) (ws : List Text) (x : (ℕ × ℕ) × List Text) → pair m line ws ≡ Ok x → IsPairTo m x.0
unfolding pair
pair_within m line ws x e =
    let last : ℕ → ℕ → List Text → Reading ((ℕ × ℕ) × List Text) = λ i k rest. cond (nat_lt i k) (Ok ((i, k), rest)) (Err (fault line Range)) in
    let a = bind_ok (number (pos 1) (pos m) Number Range line ws) (λ first. number (pos 1) (pos m) Number Range line first.1 >>= λ second. last (unsigned_abs first.0) (unsigned_abs second.0) second.1) x e in
    let b = bind_ok (number (pos 1) (pos m) Number Range line a.0.1) (λ second. last (unsigned_abs a.0.0) (unsigned_abs second.0) second.1) x a.2 in
    let made : (ℕ × ℕ) × List Text = ((unsigned_abs a.0.0, unsigned_abs b.0.0), b.0.1) in
    let g = guarded (nat_lt (unsigned_abs a.0.0) (unsigned_abs b.0.0)) (fault line Range) made x b.2 in
    let first = number_within (pos 1) (pos m) Number Range line ws a.0 a.1 in
    let second = number_within (pos 1) (pos m) Number Range line a.0.1 b.0 b.1 in
    let less : unsigned_abs a.0.0 < unsigned_abs b.0.0 = (Decides-ltb (unsigned_abs a.0.0) (unsigned_abs b.0.0)).0 g.0 in
    subst (λ (y : (ℕ × ℕ) × List Text). IsPairTo m y.0) g.1 (omega (arith, ints), less, omega (arith, ints))

-- a pair of the next support
abbrev pub IsNextPair : List ℕ → Cell → ℕ × ℕ → Type 0
IsNextPair counts before x = IsPairTo (slice_index_or counts (length before) 0) x

pub cell_of_pairs : (done ms : List ℕ) (before ps : Cell) → length before ≡ length done → length ps ≡ length ms → KeepsEach (IsNextPair (done ++ ms)) before ps → IsCellOf ms ps
cell_of_pairs done [] before [] size same h = tt
cell_of_pairs done [] before (p ∷ ps) size same h = absurd (omega (arith, same))
cell_of_pairs done (m ∷ ms) before [] size same h = absurd (omega (arith, same))
cell_of_pairs done (m ∷ ms) before (p ∷ ps) size same h =
    let here = subst (λ (k : ℕ). IsPairTo k p) (at_seam done m ms (length before) size) h.0 in
    let regrouped : (done ++ m ∷ []) ++ ms ≡ done ++ m ∷ ms = append_assoc done (m ∷ []) ms in
    let longer : length (before ++ p ∷ []) ≡ length (done ++ m ∷ []) = omega (arith, length-append before (p ∷ []), length-append done (m ∷ []), size) in
    let others = cell_of_pairs (done ++ m ∷ []) ms (before ++ p ∷ []) ps longer (omega (arith, same)) (subst (λ (l : List ℕ). KeepsEach (IsNextPair l) (before ++ p ∷ []) ps) (sym regrouped) h.1) in
    (here.0, here.1, here.2, others)

-- ---- cell lines

abbrev largest : ℤ
largest = pos (2 ^ 127 - 1)

abbrev listed : ℕ → Cell → List ℤ → ℤ → ListedCell
listed line cell v den = record { line = line; cell = cell; normal = record { v = v; den = den } }

cell_line_formed : (counts : List ℕ) (line : ℕ) (ws : List Text) (x : ListedCell) → cell_line counts line ws ≡ Ok x → IsFormed counts (found_of x)
unfolding cell_line
cell_line_formed counts line ws x e =
    let n = length counts in
    let last : Cell → List ℤ → ℤ × List Text → Reading ListedCell = λ cell v over. nothing_more Number line over.1 >>= λ ended. Ok (listed line cell v over.0) in
    let numbers : Cell → List Text → Reading ListedCell = λ cell rest. series n (normal_entry line) [] rest >>= λ normal. word (codes "/") Number line normal.1 >>= λ slash. number (pos 1) largest Number Range line slash >>= λ over. last cell normal.0 over in
    let a = bind_ok (word (codes "cell") Count line ws) (λ first. series n (pair_at counts line) [] first >>= λ cell. word (codes ":") Number line cell.1 >>= λ colon. numbers cell.0 colon) x e in
    let b = bind_ok (series n (pair_at counts line) [] a.0) (λ cell. word (codes ":") Number line cell.1 >>= λ colon. numbers cell.0 colon) x a.2 in
    let c = bind_ok (word (codes ":") Number line b.0.1) (λ colon. numbers b.0.0 colon) x b.2 in
    let d = bind_ok (series n (normal_entry line) [] c.0) (λ normal. word (codes "/") Number line normal.1 >>= λ slash. number (pos 1) largest Number Range line slash >>= λ over. last b.0.0 normal.0 over) x c.2 in
    let f = bind_ok (word (codes "/") Number line d.0.1) (λ slash. number (pos 1) largest Number Range line slash >>= λ over. last b.0.0 d.0.0 over) x d.2 in
    let g = bind_ok (number (pos 1) largest Number Range line f.0) (λ over. last b.0.0 d.0.0 over) x f.2 in
    let h = bind_ok (nothing_more Number line g.0.1) (λ ended. Ok (listed line b.0.0 d.0.0 g.0.0)) x g.2 in
    let pairs = series_all (IsNextPair counts) (pair_at counts line) (λ before s y k. pair_within (slice_index_or counts (length before) 0) line s y k) n a.0 b.0 b.1 in
    let entries = series_all (λ before z. IsEntry z) (normal_entry line) (λ before s y k. number_within (neg_ℤ largest) largest Number Range line s y k) n c.0 d.0 d.1 in
    let formed : IsFormed counts (found_of (listed line b.0.0 d.0.0 g.0.0)) = record {
      cell = cell_of_pairs [] counts [] b.0.0 refl pairs.0 pairs.1;
      size = entries.0;
      entries = each_of IsEntry (λ before z. IsEntry z) (λ before z k. k) [] d.0.0 entries.1;
      den = number_within (pos 1) largest Number Range line f.0 g.0 g.1;
    } in
    subst (λ (y : ListedCell). IsFormed counts (found_of y)) (ok_is (listed line b.0.0 d.0.0 g.0.0) x h.2) formed

pub part_formed : (counts : List ℕ) (end : ℕ) (rows : List Row) (x : Part × List Row) → part_at counts end rows ≡ Ok x → Each x.0.cells (λ y. IsFormed counts (found_of y))
unfolding part_at
part_formed counts end rows x e =
    let whole : List ListedCell → List Row → Part = λ cells rest. record { cells_line = next_number end rows; cells = cells; end_line = next_number end rest } in
    let a = bind_ok (next_line cells_line end rows) (λ count. series count.0 (cell_at counts end) [] count.1 >>= λ cells. next_line end_line end cells.1 >>= λ last. Ok (whole cells.0 cells.1, last.1)) x e in
    let b = bind_ok (series a.0.0 (cell_at counts end) [] a.0.1) (λ cells. next_line end_line end cells.1 >>= λ last. Ok (whole cells.0 cells.1, last.1)) x a.2 in
    let c = bind_ok (next_line end_line end b.0.1) (λ last. Ok (whole b.0.0 b.0.1, last.1)) x b.2 in
    let made : Part × List Row = (whole b.0.0 b.0.1, c.0.1) in
    let r = series_all (λ before y. IsFormed counts (found_of y)) (cell_at counts end)
    (λ before s y h. let p = next_line_ok (cell_line counts) end s y h in cell_line_formed counts p.0 p.1 y.0 p.2) a.0.0 a.0.1 b.0 b.1 in
    subst (λ (y : Part × List Row). Each y.0.cells (λ z. IsFormed counts (found_of z))) (ok_is made x c.2)
    (each_of (λ y. IsFormed counts (found_of y)) (λ before y. IsFormed counts (found_of y)) (λ before y h. h) [] b.0.0 r.1)

cells_formed : (counts : List ℕ) (end : ℕ) (rows : List Row) (xs : List ListedCell) → cells_at counts end rows ≡ Ok xs → Each xs (λ y. IsFormed counts (found_of y))
unfolding cells_at
cells_formed counts end rows xs e =
    let a = bind_ok (part_at counts end rows) (λ part. no_line part.1 >>= λ ended. Ok part.0.cells) xs e in
    let b = bind_ok (no_line a.0.1) (λ ended. Ok a.0.0.cells) xs a.2 in
    subst (λ (ys : List ListedCell). Each ys (λ y. IsFormed counts (found_of y))) (ok_is a.0.0.cells xs b.2) (part_formed counts end rows a.0 a.1)

through_formed : (counts : List ℕ) (end : ℕ) (rows : List Row) (xs : List ListedCell × List Row) → cells_through counts end rows ≡ Ok xs → Each xs.0 (λ y. IsFormed counts (found_of y))
unfolding cells_through
through_formed counts end rows xs e =
    let a = bind_ok (part_at counts end rows) (λ part. Ok (part.0.cells, part.1)) xs e in
    let made : List ListedCell × List Row = (a.0.0.cells, a.0.1) in
    subst (λ (ys : List ListedCell × List Row). Each ys.0 (λ y. IsFormed counts (found_of y))) (ok_is made xs a.2) (part_formed counts end rows a.0 a.1)

-- ---- the listing

-- the file of a listing whose lines go on is valid, and its cells are in form
pub lines_formed : (end : ℕ) (rows rest : List Row) (listed : Listed) → listing_at end rows ≡ Ok (listed, rest)
    → IsValidFile listed.0 × Each listed.1 (λ x. IsFormed (counts_of listed.0) (found_of x))
unfolding listing_at
lines_formed end rows rest listed e =
    let whole : Listed × List Row = (listed, rest) in
    let a = bind_ok (problem_at end rows) (λ (x : File × List Row). cells_through (counts_of x.0) end x.1 >>= λ found. Ok ((x.0, found.0), found.1)) whole e in
    let b = bind_ok (cells_through (counts_of a.0.0) end a.0.1) (λ found. Ok ((a.0.0, found.0), found.1)) whole a.2 in
    let made : Listed × List Row = ((a.0.0, b.0.0), b.0.1) in
    subst (λ (y : Listed × List Row). IsValidFile y.0.0 × Each y.0.1 (λ x. IsFormed (counts_of y.0.0) (found_of x))) (ok_is made whole b.2)
    (problem_valid end rows a.0 a.1, through_formed (counts_of a.0.0) end a.0.1 b.0 b.1)

-- the file of a listing is valid, and its cells are in form
pub listing_formed : (bytes : List ℕ) (file : File) (cells : List ListedCell) → listing_of bytes ≡ Ok (file, cells) → IsValidFile file × Each cells (λ x. IsFormed (counts_of file) (found_of x))
unfolding listing_of
listing_formed bytes file cells e =
    let end = end_line_of bytes in
    let whole : Listed = (file, cells) in
    let a = bind_ok (problem_at end (lines_of bytes)) (λ (x : File × List Row). cells_at (counts_of x.0) end x.1 >>= λ found. Ok (x.0, found)) whole e in
    let b = bind_ok (cells_at (counts_of a.0.0) end a.0.1) (λ found. Ok (a.0.0, found)) whole a.2 in
    let made : Listed = (a.0.0, b.0) in
    subst (λ (y : Listed). IsValidFile y.0 × Each y.1 (λ x. IsFormed (counts_of y.0) (found_of x))) (ok_is made whole b.2)
    (problem_valid end (lines_of bytes) a.0 a.1, cells_formed (counts_of a.0.0) end a.0.1 b.0 b.1)

-- ---- the problem of the file's points

pairs_of_file : (supports : List (List FilePoint)) (cell : Cell) → IsCellOf (map length supports) cell → EachPair (map (map resting) supports) cell (λ s a b. (1 ≤ a) × (a < b) × (b ≤ length s))
pairs_of_file [] [] h = tt
pairs_of_file [] (p ∷ cell) h = absurd h
pairs_of_file (s ∷ supports) [] h = absurd h
pairs_of_file (s ∷ supports) (p ∷ cell) h =
    let size : length (map resting s) ≡ length s = length-map s resting in
    ((h.0, h.1, subst (λ (k : ℕ). p.1 ≤ k) (sym size) h.2), pairs_of_file supports cell h.3)

-- the points at rest, without ranks, are those of the problem
pub plain_same : (file : File) → HasSamePoints (plain_of file.dimension file.supports) (plain_problem file)
plain_same file = sym (same_unperturbed (plain_problem file) ∙ ap unperturbed (plain_unperturbed file))

formed_of : (file : File) → IsValidFile file → (x : ListedCell) → IsFormed (counts_of file) (found_of x) → IsOfFile file x
formed_of file valid x formed =
    let size : length (counts_of file) ≡ length file.supports = length-map file.supports length in
    let low = formed.den.0 in (
      same_of (plain_of file.dimension file.supports) (plain_problem file) x.cell (plain_same file) (pairs_of_file file.supports x.cell formed.cell),
      formed.size ∙ size ∙ valid.shape.supports,
      omega (arith, ints, low),
    )

-- a listing's cells are of its file
pub listing_of_file : (bytes : List ℕ) (file : File) (cells : List ListedCell) → listing_of bytes ≡ Ok (file, cells) → Each cells (IsOfFile file)
listing_of_file bytes file cells e =
    let f = listing_formed bytes file cells e in
    each_weaker (λ x. IsFormed (counts_of file) (found_of x)) (IsOfFile file) cells (λ x h. formed_of file f.0 x h) f.1

pub lines_of_file : (end : ℕ) (rows rest : List Row) (listed : Listed) → listing_at end rows ≡ Ok (listed, rest) → Each listed.1 (IsOfFile listed.0)
lines_of_file end rows rest listed e =
    let f = lines_formed end rows rest listed e in
    each_weaker (λ x. IsFormed (counts_of listed.0) (found_of x)) (IsOfFile listed.0) listed.1 (λ x h. formed_of listed.0 f.0 x h) f.1

pub part_of_file : (file : File) (end : ℕ) (rows rest : List Row) (part : Part) → IsValidFile file → part_at (counts_of file) end rows ≡ Ok (part, rest) → Each part.cells (IsOfFile file)
part_of_file file end rows rest part valid e =
    each_weaker (λ x. IsFormed (counts_of file) (found_of x)) (IsOfFile file) part.cells (λ x h. formed_of file valid x h) (part_formed (counts_of file) end rows (part, rest) e)
