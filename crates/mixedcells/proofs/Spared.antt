-- A listing as a lister wrote it is read back, and `check` spares it.
use Rattle.std.proofs.Common.{◌≡◌, ℕ, suc, ◌-◌, ◌^◌, ◌<◌, ◌≤◌, ◌∙◌, ℤ, pos, neg_ℤ, ◌≤ℤ◌, ◌<ℤ◌, List, [], ◌∷◌, ◌++◌, map, length, Ok, Err, refl, sym, ap, subst, arith, inl, inr, codes, length-append}
use Rattle.std.specs.Prelude.{Contains, unsigned_abs}
use Rattle.std.specs.List.{join_with_byte}
use Rattle.std.proofs.lemmas.Int.{ints}
use Rattle.std.proofs.lemmas.List.{length-map}
use Rattle.wide_int.specs.Whole.{FitsWhole}
use Rattle.int_vectors.specs.Vectors.{Each}
use Rattle.cayley.specs.Times.{time_zero}
use Rattle.cayley.specs.Problems.{Problem, IsProblem, point_at}
use Rattle.cayley.specs.Cells.{Cell, IsOf, EachPair, IsFurther, IsSorted}
use Rattle.cayley.specs.Normals.{IsNormal}
use Rattle.cayley.specs.Mixed.{IsAlive, IsMixedCell, IsLowestNormal}
use Rattle.cayley.specs.Files.{File, FilePoint, resting, plain_problem}
use Rattle.cayley.specs.Paths.{path}
use Rattle.cayley.specs.Valid.{IsValidFile}
use Rattle.cayley.specs.declared.found.FoundCell.{FoundCell}
use Rattle.int_vectors.proofs.Each.{map_map, each_unmap, each_weaker}
use Rattle.cayley.proofs.Ranking.PlainProblems.{plain_of, plain_valid}
use Rattle.cayley.proofs.Ranking.Unperturbed.{same_of}
use Rattle.searcher.specs.Workings.{FitsWorking}
use Rattle.support_text.specs.Words.{Text, text_of}
use Rattle.support_text.specs.ProblemText.{problem_of}
use Rattle.support_text.specs.Writing.{problem_lines}
use Rattle.listing_text.specs.Writing.{cell_words, cells_lines, listing_lines, listing_text}
use Rattle.listing_text.specs.declared.listing.Listing.{Listing}
use Rattle.listing_text.specs.declared.listing.ListedCell.{ListedCell}
use Rattle.listing_text.specs.ListingText.{Listed, counts_of, listing_of}
use Rattle.listing_text.specs.Forms.{IsCellOf, IsEntry, IsFormed, found_of}
use Rattle.listing_text.specs.Listings.{AreMixedCells}
use Rattle.listing_text.proofs.Formed.{meant_valid, plain_same, listing_formed}
use Rattle.listing_text.proofs.ListingBack.{listing_back}
use Rattle.reduced_rows.specs.Denominators.{shares}
use Rattle.cayley.proofs.OneCell.LowestTerms.{long_first}
use Rattle.cayley.proofs.Lists.Pairs.{pairs_map}
use Rattle.inner_normal.specs.Workings.{denominator}
use Rattle.inner_normal.proofs.Meaning.{reduced_of}
use Rattle.cone_walls.specs.Numbers.{FitsWall}
use Rattle.cone_walls.specs.Workings.{normal_of_rows, FitsWalls, FitsWallWorking}
use Rattle.plain_lister.specs.Lists.{AllFit}
use Rattle.cell_certificate.specs.Sums.{FitsAt, FitsFurther}
use Rattle.cell_certificate.specs.Tests.{IsLevelAt}
use Rattle.cell_certificate.specs.declared.verdict.Verdict.TheVariants.{Yes, No}
use Rattle.cell_certificate.specs.declared.verdict.CheckFault.TheVariants.{Overflow, OutOfMemory}
use Rattle.cell_certificate.specs.Answers.{Answer, HadMemory}
use Rattle.cell_certificate.specs.Written as written
use Rattle.cell_certificate.specs.Written.{IsWritten, SparesWritten}
use Rattle.cell_certificate.proofs.LowestLevel.{lowest_level}
use Rattle.cell_certificate.proofs.PlainPoints.{own_points}
use Rattle.cell_certificate.proofs.WorkedSums.{entries_fit}
use Rattle.cell_certificate.proofs.WrittenLines.{written_spared}
use Rattle.mixedcells.specs.declared.outcome.Outcome.{Outcome}
use Rattle.mixedcells.specs.declared.outcome.Outcome.TheVariants as variant
use Rattle.mixedcells.specs.Outcomes.{status_of}
use Rattle.mixedcells.specs.Walks.{AreReachedCells, IsReachedListing}
use Rattle.mixedcells.specs.Answers.{limit, IsPlainReply, IsListingText, IsCheckReply}
use Rattle.mixedcells.specs.Runs.{AreWrittenCells, IsWrittenListing, IsSpared}
use Rattle.mixedcells.proofs.Readings.{ok_once, not_both}
use Rattle.mixedcells.proofs.Judging.{outcome_of}
use Rattle.mixedcells.proofs.Checks.{verdict_answer, read_of, are_listed}
use Rattle.mixedcells.proofs.FileWorkings.{plain_fits}
use Rattle.mixedcells.proofs.Walking.{points_same}

-- ---- workings

-- the first number of each wall line, over the dimension
first_fits : (p : Problem) (cell : Cell) (made : List (List ℤ)) (n : ℕ) → length made ≡ n → FitsWalls p cell (normal_of_rows made) → FitsFurther p cell (shares n 0 (denominator made) made) (pos (denominator made))
first_fits p cell made n e h = subst (λ k. FitsFurther p cell (shares k 0 (denominator made) made) (pos (denominator made))) e (
    pairs_map p.supports cell (λ s a b. (c : ℕ) → IsFurther s a b c → FitsWall (normal_of_rows made) (point_at s a) (point_at s c)) (λ s a b. (c : ℕ) → FitsAt (pos (denominator made)) (shares (length made) 0 (denominator made) made) s a b c) (λ s a b f c u. (f c u).0) h
    )

fits_working : (p : Problem) (cell : Cell) → IsProblem p → IsOf p cell → FitsWallWorking p cell → written.FitsWritten p cell
fits_working p cell well of h = (
  h.0,
  λ made e. (first_fits p cell made p.dimension (reduced_of p cell well of made (h.0, e)).count (h.1 made e).1, (h.1 made e).2),
)

-- ---- what is written is in form

entry_within : (k : ℕ) (z : ℤ) → unsigned_abs z < suc k → (neg_ℤ (pos k) ≤ℤ z) × (z ≤ℤ pos k)
entry_within k z h = (omega (arith, ints, h), omega (arith, ints, h))

pub entry_of : (z : ℤ) → FitsWhole z → IsEntry z
entry_of z f = entry_within (2 ^ 127 - 1) z f

pub over_of : (z : ℤ) → FitsWhole z → pos 0 <ℤ z → (pos 1 ≤ℤ z) × (z ≤ℤ pos (2 ^ 127 - 1))
over_of z f h = (omega (arith, ints, h), (entry_of z f).1)

cell_of_file : (supports : List (List FilePoint)) (cell : Cell) → EachPair (map (map resting) supports) cell (λ s a b. (1 ≤ a) × (a < b) × (b ≤ length s)) → IsCellOf (map length supports) cell
cell_of_file [] [] h = tt
cell_of_file [] (p ∷ cell) h = absurd h
cell_of_file (s ∷ supports) [] h = absurd h
cell_of_file (s ∷ supports) (p ∷ cell) h = (h.0.0, h.0.1, subst (λ (k : ℕ). p.1 ≤ k) (length-map s resting) h.0.2, cell_of_file supports cell h.1)

each_contained : (P : Cell → Type 0) (cells : List Cell) → ((cell : Cell) → Contains cells cell → P cell) → Each cells P
each_contained P [] f = tt
each_contained P (x ∷ cells) f = (f x (0, omega arith, refl), each_contained P cells (λ cell c. f cell (suc c.0, omega (arith, c.1), c.2)))

each_mixed : (file : File) (found : List FoundCell) → AreMixedCells file found → Each found (λ (x : FoundCell). IsMixedCell (plain_problem file) x.cell)
each_mixed file found m =
    let P = IsMixedCell (plain_problem file) in
    each_unmap (λ (x : FoundCell). x.cell) P found (each_contained P (map (λ (x : FoundCell). x.cell) found) (λ cell c. (m.cells.1 cell).0 c))

module _ (file : File) (valid : IsValidFile file) where
  -- of a mixed cell and its normal in lowest terms
  module _ (cell : Cell) (v : List ℤ) (den : ℤ) (m : IsMixedCell (plain_problem file) cell) (n : IsLowestNormal (plain_problem file) cell v den) where
    pub well : IsProblem (plain_problem file)
    well = (plain_valid file valid).shape.problem

    pub alive : IsAlive (plain_problem file) cell time_zero
    alive = subst (λ q. IsAlive q cell time_zero) (own_points file valid) m

    normal : IsNormal (plain_problem file) cell time_zero n.2.0
    normal = subst (λ q. IsNormal q cell time_zero n.2.0) (own_points file valid) n.2.1

    pub long : length v ≡ (plain_problem file).dimension
    long = long_first n.2.0 v den n.2.2 ∙ normal.0

    pub level : IsLevelAt (plain_problem file) cell v den
    level = lowest_level (plain_problem file) cell alive.0 v den n.2.0 long n.0 normal n.2.2

  cell_formed : (x : FoundCell) → IsMixedCell (plain_problem file) x.cell → IsLowestNormal (plain_problem file) x.cell x.normal.v x.normal.den
      → FitsWallWorking (plain_problem file) x.cell → IsFormed (counts_of file) x
  cell_formed x m n w =
      let p = plain_problem file in
      let v = x.normal.v in
      let den = x.normal.den in
      let a = alive x.cell v den m n in
      let l = long x.cell v den m n in
      let fit = entries_fit p x.cell (well x.cell v den m n) a.0 a.1 den v l n.0 n.1 (level x.cell v den m n) (λ made e. let r = (w.1 made e).0 in (r.0, r.1)) in
      record {
        cell = cell_of_file file.supports x.cell (same_of (plain_problem file) (plain_of file.dimension file.supports) x.cell (sym (plain_same file)) a.0);
        size = l ∙ sym valid.shape.supports ∙ sym (length-map file.supports length);
        entries = each_weaker FitsWhole IsEntry v entry_of fit.1;
        den = over_of den fit.0 n.0;
      }

  pub each_formed : (found : List FoundCell) → Each found (λ (x : FoundCell). IsMixedCell (plain_problem file) x.cell)
      → Each found (λ (x : FoundCell). IsLowestNormal (plain_problem file) x.cell x.normal.v x.normal.den) → Each found (λ (x : FoundCell). FitsWallWorking (plain_problem file) x.cell)
      → Each found (IsFormed (counts_of file))
  each_formed [] m n fit = tt
  each_formed (x ∷ found) m n fit = (cell_formed x m.0 n.0 fit.0, each_formed found m.1 n.1 fit.1)

  each_working : (lines : List ListedCell) → Each lines (λ x. IsMixedCell (plain_problem file) x.cell) → Each lines (λ x. FitsWallWorking (plain_problem file) x.cell)
      → Each lines (λ x. written.FitsWritten (plain_problem file) x.cell)
  each_working [] m fit = tt
  each_working (x ∷ lines) m fit =
      let of = (subst (λ q. IsAlive q x.cell time_zero) (own_points file valid) m.0).0 in
      (fits_working (plain_problem file) x.cell (plain_valid file valid).shape.problem of fit.0, each_working lines m.1 fit.1)

-- ---- what a lister wrote

-- the cells that `plain` found
plain_cells : (file : File) → IsValidFile file → (found : List FoundCell) → AreMixedCells file found → AllFit (plain_problem file) → AreWrittenCells file found
plain_cells file valid found m fit =
    let mixed = each_mixed file found m in
    record {
      sorted = m.cells.0;
      cells = mixed;
      normals = m.normals;
      workings = each_weaker (λ (x : FoundCell). IsMixedCell (plain_problem file) x.cell) (λ (x : FoundCell). FitsWallWorking (plain_problem file) x.cell) found
          (λ x a. fit x.cell (subst (λ q. IsAlive q x.cell time_zero) (own_points file valid) a).0) mixed;
    }

pub plain_written : (input bytes : List ℕ) → IsPlainReply input variant.Ok bytes → (file : File) × (problem_of input ≡ Ok file) × IsWrittenListing file bytes
plain_written input bytes (inl h) =
    let file = h.0 in
    let found = h.2.2.0 in
    (file, h.1, (input, found, h.1, plain_cells file (meant_valid input file h.1) found h.2.2.1 h.2.1, h.2.2.2))
plain_written input bytes (inr h) = absurd (let e = ap status_of h.2.0 in omega (arith, e))

-- the cells that `list` found
module _ (file : File) (valid : IsValidFile file) where
  all_plain_fit : (found : List FoundCell) → Each found (λ (x : FoundCell). IsMixedCell (path file) x.cell) → Each found (λ (x : FoundCell). FitsWorking (path file) x.cell)
      → Each found (λ (x : FoundCell). FitsWallWorking (plain_problem file) x.cell)
  all_plain_fit [] m w = tt
  all_plain_fit (x ∷ found) m w = (plain_fits file valid x.cell m.0.0 w.0, all_plain_fit found m.1 w.1)

  pub reached_cells : (found : List FoundCell) → AreReachedCells file found → AreWrittenCells file found
  reached_cells found r =
      let P = IsMixedCell (path file) in
      let mixed = each_unmap (λ (x : FoundCell). x.cell) P found (each_contained P (map (λ (x : FoundCell). x.cell) found) (λ cell c. ((r.cells.1 cell).0 c).1)) in
      record {
        sorted = r.cells.0;
        cells = each_weaker (λ (x : FoundCell). IsMixedCell (path file) x.cell) (λ (x : FoundCell). IsMixedCell (plain_problem file) x.cell) found
            (λ x a. subst (λ q. IsAlive q x.cell time_zero) (points_same file valid) a) mixed;
        normals = r.normals;
        workings = all_plain_fit found mixed r.workings;
      }

pub reached_written : (input bytes : List ℕ) (file : File) → problem_of input ≡ Ok file → IsReachedListing file bytes → IsWrittenListing file bytes
reached_written input bytes file e l = (input, l.0, e, reached_cells file (meant_valid input file e) l.0 l.1, l.2)

-- ---- the listing that is read back

is_written : (listing : Listing) → IsValidFile listing.file → AreWrittenCells listing.file (map found_of listing.cells.items) → IsWritten listing
is_written listing valid w =
    let p = plain_problem listing.file in
    let lines = listing.cells.items in
    let mixed = each_unmap found_of (λ (x : FoundCell). IsMixedCell p x.cell) lines w.cells in
    record {
      mixed = record {
        sorted = subst IsSorted (map_map (λ (x : FoundCell). x.cell) found_of lines) w.sorted;
        cells = mixed;
        normals = each_unmap found_of (λ (x : FoundCell). IsLowestNormal p x.cell x.normal.v x.normal.den) lines w.normals;
      };
      workings = each_working listing.file valid lines mixed (each_unmap found_of (λ (x : FoundCell). FitsWallWorking p x.cell) lines w.workings);
    }

spared_answer : (bytes : List ℕ) (listing : Listing) → IsListingText bytes listing → (r : Answer) → HadMemory r → SparesWritten listing r → (o : Outcome) → o ≡ outcome_of r → IsSpared bytes o
spared_answer bytes listing text (Ok Yes) m s o e = inl e
spared_answer bytes listing text (Ok (No line reason)) m s o e = absurd s
spared_answer bytes listing text (Err (Overflow line)) m s o e = inr (inl (listing, line, text, s, e))
spared_answer bytes listing text (Err OutOfMemory) m s o e = absurd m

-- each line takes a byte
pub lines_long : (lines : List (List Text)) → length lines ≤ length (text_of lines)
lines_long [] = omega arith
lines_long (ws ∷ lines) =
    let a = lines_long lines in
    let b = length-append (join_with_byte 32 ws ++ 10 ∷ []) (text_of lines) in
    let c = length-append (join_with_byte 32 ws) (10 ∷ []) in
    omega (arith, a, b, c)

found_few : (file : File) (found : List FoundCell) → length found ≤ length (listing_text file found)
found_few file found =
    let a = lines_long (listing_lines file found) in
    let b = length-append (problem_lines file) (cells_lines found) in
    let c = length-append (map cell_words found) ((codes "end" ∷ []) ∷ []) in
    let d = length-map found cell_words in
    omega (arith, a, b, c, d)

module _ (bytes : List ℕ) (file : File) (w : IsWrittenListing file bytes) (short : length bytes ≤ limit) where
  abbrev found : List FoundCell
  found = w.1

  valid : IsValidFile file
  valid = meant_valid w.0 file w.2

  formed : Each found (IsFormed (counts_of file))
  formed = each_formed file valid found w.3.cells w.3.normals w.3.workings

  few : length found ≤ 4294967295
  few = let a = found_few file found in let e = ap length w.4 in omega (arith, short, a, e)

  -- the bytes mean the file and these cells
  back : (listed : List ListedCell) × (listing_of bytes ≡ Ok (file, listed)) × (map found_of listed ≡ found)
  back = let b = listing_back file found valid formed few in (b.0, ap listing_of w.4 ∙ b.1, b.2)

  pub same_file : (listing : Listing) → IsListingText bytes listing → file ≡ listing.file
  same_file listing e =
      let b = back in
      let same : (file, b.0) ≡ read_of listing = ok_once (listing_of bytes) (file, b.0) (read_of listing) b.1 e in
      ap (λ (x : Listed). x.0) same

  pub spared_listing : (listing : Listing) → IsListingText bytes listing → IsWritten listing
  spared_listing listing e =
      let b = back in
      let same : (file, b.0) ≡ read_of listing = ok_once (listing_of bytes) (file, b.0) (read_of listing) b.1 e in
      is_written listing (listing_formed bytes listing.file listing.cells.items e).0
      (subst (λ (x : Listed). AreWrittenCells x.0 (map found_of x.1)) same (subst (AreWrittenCells file) (sym b.2) w.3))

  pub spared : (o : Outcome) (t : List ℕ) → IsCheckReply bytes o t → IsSpared bytes o
  spared o t (inl h) =
      let a = verdict_answer h.0 o t h.2 in
      let valid = (listing_formed bytes h.0.file h.0.cells.items h.1).0 in
      spared_answer bytes h.0 h.1 a.0 a.1 (written_spared h.0 a.0 valid (are_listed bytes h.0 h.1) a.2 (spared_listing h.0 h.1)) o a.3
  spared o t (inr h) = let b = back in absurd (not_both (listing_of bytes) (file, b.0) h.0 b.1 h.1)
