-- what is read as a move file is in form
use Rattle.std.proofs.Common.{◌≡◌, ℕ, ℤ, pos, neg_ℤ, List, [], ◌∷◌, ◌++◌, map, length, Ok, Err, refl, sym, ap, ap₂, subst, ◌∙◌, append_assoc, arith, length-append}
use Rattle.std.specs.Prelude.{codes, bytes_eq, slice_index_or}
use Rattle.wide_int.proofs.Bools.{by_test}
use Rattle.int_vectors.specs.Vectors.{Each}
use Rattle.cayley.specs.Problems.{Version, version1}
use Rattle.cayley.specs.Files.{File}
use Rattle.cayley.specs.Shapes.{AreSecondHeights}
use Rattle.cayley.specs.Valid.{IsHeight, IsValidFile}
use Rattle.cayley.specs.declared.limits.TheConstants.{HEIGHT}
use Rattle.line_text.specs.Lines.{Row, lines_of, end_line_of}
use Rattle.support_text.specs.declared.fault.Kind.TheVariants.{Header, Count, Number, Range}
use Rattle.support_text.specs.Faults.{◌>>=◌, fault, series}
use Rattle.support_text.specs.Words.{Text, words, word, number, nothing_more, next_line}
use Rattle.support_text.specs.ProblemText.{version_word, header_line, dim_line, supports, ending, end_line, problem_at, no_line}
use Rattle.support_text.proofs.Series.{bind_ok, ok_is}
use Rattle.support_text.proofs.Kept.{KeepsEach, series_all, each_of, next_line_ok, number_within}
use Rattle.listing_text.specs.ListingText.{Listed, cells_through, counts_of, listing_at}
use Rattle.listing_text.specs.Forms.{IsOfFile}
use Rattle.listing_text.proofs.Formed.{lines_formed, lines_of_file}
use Rattle.listing_text.proofs.ListingBack.{at_seam}
use Rattle.lift_move.specs.MoveText.{first_header, second_height, heights_line, heights_at, second_at, Move, move_of}
use Rattle.lift_move.proofs.Widths.{height_within}

-- ---- the second heights
heights_line_ok : (m line : ℕ) (ws : List Text) (hs : List ℤ) → heights_line m line ws ≡ Ok hs → (length hs ≡ m) × Each hs IsHeight
unfolding heights_line
heights_line_ok m line ws hs e =
    let a = bind_ok (word (codes "heights") Count line ws) (λ rest. series m (second_height line) [] rest >>= λ heights. nothing_more Number line heights.1 >>= λ ended. Ok heights.0) hs e in
    let b = bind_ok (series m (second_height line) [] a.0) (λ heights. nothing_more Number line heights.1 >>= λ ended. Ok heights.0) hs a.2 in
    let c = bind_ok (nothing_more Number line b.0.1) (λ ended. Ok b.0.0) hs b.2 in
    let r = series_all (λ before z. IsHeight z) (second_height line)
    (λ before s x h. let w = number_within (neg_ℤ (pos HEIGHT)) (pos HEIGHT) Number Range line s x h in height_within x.0 w.0 w.1) m a.0 b.0 b.1 in
    subst (λ l. (length l ≡ m) × Each l IsHeight) (ok_is b.0.0 hs c.2) (r.0, each_of IsHeight (λ before z. IsHeight z) (λ before z k. k) [] b.0.0 r.1)

-- as many heights as the next support has points, all within their limits
abbrev AreNext : List ℕ → List (List ℤ) → List ℤ → Type 0
AreNext counts before hs = (length hs ≡ slice_index_or counts (length before) 0) × Each hs IsHeight

counts_kept : (done ms : List ℕ) (before ps : List (List ℤ)) → length before ≡ length done → length ps ≡ length ms → KeepsEach (AreNext (done ++ ms)) before ps → map length ps ≡ ms
counts_kept done [] before [] size same h = refl
counts_kept done [] before (p ∷ ps) size same h = absurd (omega (arith, same))
counts_kept done (m ∷ ms) before [] size same h = absurd (omega (arith, same))
counts_kept done (m ∷ ms) before (p ∷ ps) size same h =
    let regrouped : (done ++ m ∷ []) ++ ms ≡ done ++ m ∷ ms = append_assoc done (m ∷ []) ms in
    let longer : length (before ++ p ∷ []) ≡ length (done ++ m ∷ []) = omega (arith, length-append before (p ∷ []), length-append done (m ∷ []), size) in
    ap₂ (λ n ns. n ∷ ns) (h.0.0 ∙ at_seam done m ms (length before) size)
    (counts_kept (done ++ m ∷ []) ms (before ++ p ∷ []) ps longer (omega (arith, same)) (subst (λ (l : List ℕ). KeepsEach (AreNext l) (before ++ p ∷ []) ps) (sym regrouped) h.1))

second_ok : (counts : List ℕ) (end : ℕ) (rows : List Row) (second : List (List ℤ)) → second_at counts end rows ≡ Ok second → (map length second ≡ counts) × Each second (λ hs. Each hs IsHeight)
unfolding second_at
second_ok counts end rows second e =
    let a = bind_ok (series (length counts) (heights_at counts end) [] rows) (λ found. next_line end_line end found.1 >>= λ last. no_line last.1 >>= λ ended. Ok found.0) second e in
    let b = bind_ok (next_line end_line end a.0.1) (λ last. no_line last.1 >>= λ ended. Ok a.0.0) second a.2 in
    let c = bind_ok (no_line b.0.1) (λ ended. Ok a.0.0) second b.2 in
    let r = series_all (AreNext counts) (heights_at counts end)
    (λ before s x h. let q = next_line_ok (heights_line (slice_index_or counts (length before) 0)) end s x h in heights_line_ok (slice_index_or counts (length before) 0) q.0 q.1 x.0 q.2)
    (length counts) rows a.0 a.1 in
    subst (λ l. (map length l ≡ counts) × Each l (λ hs. Each hs IsHeight)) (ok_is a.0.0 second c.2)
    (counts_kept [] counts [] a.0.0 refl r.0 r.1, each_of (λ hs. Each hs IsHeight) (AreNext counts) (λ before hs k. k.1) [] a.0.0 r.1)

-- ---- the version
version_of_word : (line : ℕ) (xs r : List Text) (v : Version × List Text) → word (codes "1") Header line xs ≡ Ok r → version_word line xs ≡ Ok v → v.0 ≡ version1
unfolding word version_word
version_of_word line [] r v e f = absurd cc
version_of_word line (w ∷ ws) r v e f =
    by_test (bytes_eq w (codes "1"))
    (λ t. sym (ap (λ (p : Version × List Text). p.0) (ok_is (version1, ws) v (rw t at f))))
    (λ t. absurd (never (rw t at e)))
  where
    never : Err (fault line Header) ≡ Ok r → ⊥
    never h = cc

header_version : (line : ℕ) (ws : List Text) (u : Unit {0}) (v : Version) → first_header line ws ≡ Ok u → header_line line ws ≡ Ok v → v ≡ version1
unfolding first_header header_line
header_version line ws u v e f =
    let a = bind_ok (word (codes "mixedcells") Header line ws) (λ name. word (codes "1") Header line name >>= λ version. nothing_more Header line version) u e in
    let b = bind_ok (word (codes "1") Header line a.0) (λ version. nothing_more Header line version) u a.2 in
    let c = bind_ok (word (codes "mixedcells") Header line ws) (λ rest. version_word line rest >>= λ version. nothing_more Header line version.1 >>= λ ended. Ok version.0) v f in
    let d = bind_ok (version_word line c.0) (λ version. nothing_more Header line version.1 >>= λ ended. Ok version.0) v c.2 in
    let g = bind_ok (nothing_more Header line d.0.1) (λ ended. Ok d.0.0) v d.2 in
    let same : a.0 ≡ c.0 = ok_is a.0 c.0 (sym a.1 ∙ c.1) in
    sym (ok_is d.0.0 v g.2) ∙ version_of_word line c.0 b.0 d.0 (subst (λ xs. word (codes "1") Header line xs ≡ Ok b.0) same b.1) d.1

row_version : (end : ℕ) (rows : List Row) (u : Unit {0} × List Row) (v : Version × List Row) → next_line first_header end rows ≡ Ok u → next_line header_line end rows ≡ Ok v → v.0 ≡ version1
unfolding next_line
row_version end [] u v e f = absurd cc
row_version end (row ∷ rows) u v e f =
    let a = bind_ok (first_header row.number (words row)) (λ x. Ok (x, rows)) u e in
    let b = bind_ok (header_line row.number (words row)) (λ x. Ok (x, rows)) v f in
    sym (ap (λ (p : Version × List Row). p.0) (ok_is (b.0, rows) v b.2)) ∙ header_version row.number (words row) a.0 b.0 a.1 b.1

file_version : (end : ℕ) (rows : List Row) (u : Unit {0} × List Row) (x : File × List Row) → next_line first_header end rows ≡ Ok u → problem_at end rows ≡ Ok x → x.0.version ≡ version1
unfolding problem_at
file_version end rows u x h e =
    let a = bind_ok (next_line header_line end rows) (λ version. next_line dim_line end version.1 >>= λ n. supports n.0 end n.1 >>= λ points. ending n.0 end points.1 >>= λ starts. Ok (record { version = version.0; dimension = n.0; supports = points.0; starts = starts.0 }, starts.1)) x e in
    let b = bind_ok (next_line dim_line end a.0.1) (λ n. supports n.0 end n.1 >>= λ points. ending n.0 end points.1 >>= λ starts. Ok (record { version = a.0.0; dimension = n.0; supports = points.0; starts = starts.0 }, starts.1)) x a.2 in
    let c = bind_ok (supports b.0.0 end b.0.1) (λ points. ending b.0.0 end points.1 >>= λ starts. Ok (record { version = a.0.0; dimension = b.0.0; supports = points.0; starts = starts.0 }, starts.1)) x b.2 in
    let d = bind_ok (ending b.0.0 end c.0.1) (λ starts. Ok (record { version = a.0.0; dimension = b.0.0; supports = c.0.0; starts = starts.0 }, starts.1)) x c.2 in
    let made : File × List Row = (record { version = a.0.0; dimension = b.0.0; supports = c.0.0; starts = d.0.0 }, d.0.1) in
    ap (λ (y : File × List Row). y.0.version) (sym (ok_is made x d.2)) ∙ row_version end rows u a.0 h a.1

listing_version : (end : ℕ) (rows : List Row) (u : Unit {0} × List Row) (x : Listed × List Row) → next_line first_header end rows ≡ Ok u → listing_at end rows ≡ Ok x → x.0.0.version ≡ version1
unfolding listing_at
listing_version end rows u x h e =
    let a = bind_ok (problem_at end rows) (λ file. cells_through (counts_of file.0) end file.1 >>= λ cells. Ok ((file.0, cells.0), cells.1)) x e in
    let b = bind_ok (cells_through (counts_of a.0.0) end a.0.1) (λ cells. Ok ((a.0.0, cells.0), cells.1)) x a.2 in
    let made : Listed × List Row = ((a.0.0, b.0.0), b.0.1) in
    ap (λ (y : Listed × List Row). y.0.0.version) (sym (ok_is made x b.2)) ∙ file_version end rows u a.0 h a.1

-- ---- the whole file
pub record IsMoveFormed (m : Move) : Type 0 where
  pub valid : IsValidFile m.0.0
  pub version : m.0.0.version ≡ version1
  pub of_file : Each m.0.1 (IsOfFile m.0.0)
  pub heights : AreSecondHeights m.0.0 m.1

pub move_formed : (bytes : List ℕ) (m : Move) → move_of bytes ≡ Ok m → IsMoveFormed m
unfolding move_of
move_formed bytes m e =
    let end = end_line_of bytes in
    let rows = lines_of bytes in
    let a = bind_ok (next_line first_header end rows) (λ header. listing_at end rows >>= λ listing. second_at (counts_of listing.0.0) end listing.1 >>= λ second. Ok (listing.0, second)) m e in
    let b = bind_ok (listing_at end rows) (λ listing. second_at (counts_of listing.0.0) end listing.1 >>= λ second. Ok (listing.0, second)) m a.2 in
    let c = bind_ok (second_at (counts_of b.0.0.0) end b.0.1) (λ second. Ok (b.0.0, second)) m b.2 in
    let made : Move = (b.0.0, c.0) in
    let s = second_ok (counts_of b.0.0.0) end b.0.1 c.0 c.1 in
    subst IsMoveFormed (ok_is made m c.2) (record {
      valid = (lines_formed end rows b.0.1 b.0.0 b.1).0;
      version = listing_version end rows a.0 b.0 a.1 b.1;
      of_file = lines_of_file end rows b.0.1 b.0.0 b.1;
      heights = s;
    })
