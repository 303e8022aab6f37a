-- What is read as a log is in form.
use Rattle.std.proofs.Common.{◌≡◌, ℕ, ◌*◌, ◌≤◌, ℤ, pos, neg_ℤ, List, [], length, Ok, refl, sym, subst}
use Rattle.std.specs.Prelude.{codes, slice_index_or}
use Rattle.cayley.specs.Cells.{Cell}
use Rattle.cayley.specs.Files.{File}
use Rattle.line_text.specs.Lines.{Row, lines_of, end_line_of}
use Rattle.support_text.specs.declared.fault.Kind.TheVariants.{Count, Number, Range}
use Rattle.support_text.specs.Faults.{Reading, ◌>>=◌, series}
use Rattle.support_text.specs.Words.{Text, word, number, nothing_more, next_line}
use Rattle.support_text.specs.ProblemText.{problem_at, no_line}
use Rattle.support_text.proofs.Series.{bind_ok, ok_is}
use Rattle.support_text.proofs.Kept.{series_all, each_of, next_line_ok, number_within, counting_within}
use Rattle.listing_text.specs.ListingText.{Part, pair_at, normal_entry, part_at, counts_of}
use Rattle.listing_text.specs.Forms.{IsEntry}
use Rattle.listing_text.proofs.ListingBack.{largest}
use Rattle.listing_text.proofs.Formed.{problem_valid, pair_within, IsNextPair, cell_of_pairs, part_formed}
use Rattle.path_log.specs.declared.log.LogNode.{LogNode}
use Rattle.path_log.specs.LogText.{Log, spans_of, log_line, node_line, node_at, log_of}
use Rattle.path_log.specs.Forms.{IsFormedNode, IsFormedLog, node_of}

abbrev noted : ℕ → Cell → ℤ → List ℤ → LogNode
noted line cell scale inverse = record { line = line; node = record { cell = cell; scale = scale; inverse = inverse } }

node_line_formed : (spans : List ℕ) (line : ℕ) (ws : List Text) (x : LogNode) → node_line spans line ws ≡ Ok x → IsFormedNode spans (node_of x)
unfolding node_line
node_line_formed spans line ws x e =
    let n = length spans in
    let last : Cell → ℤ → List ℤ × List Text → Reading LogNode = λ cell scale inverse. nothing_more Number line inverse.1 >>= λ ended. Ok (noted line cell scale inverse.0) in
    let matrix : Cell → ℤ → List Text → Reading LogNode = λ cell scale rest. series (n * n) (normal_entry line) [] rest >>= λ inverse. last cell scale inverse in
    let scaled : Cell → List Text → Reading LogNode = λ cell rest. number (pos 1) largest Number Range line rest >>= λ scale. word (codes ":") Number line scale.1 >>= λ behind. matrix cell scale.0 behind in
    let a = bind_ok (word (codes "node") Count line ws) (λ first. series n (pair_at spans line) [] first >>= λ cell. word (codes ":") Number line cell.1 >>= λ before. scaled cell.0 before) x e in
    let b = bind_ok (series n (pair_at spans line) [] a.0) (λ cell. word (codes ":") Number line cell.1 >>= λ before. scaled cell.0 before) x a.2 in
    let c = bind_ok (word (codes ":") Number line b.0.1) (λ before. scaled b.0.0 before) x b.2 in
    let d = bind_ok (number (pos 1) largest Number Range line c.0) (λ scale. word (codes ":") Number line scale.1 >>= λ behind. matrix b.0.0 scale.0 behind) x c.2 in
    let f = bind_ok (word (codes ":") Number line d.0.1) (λ behind. matrix b.0.0 d.0.0 behind) x d.2 in
    let g = bind_ok (series (n * n) (normal_entry line) [] f.0) (λ inverse. last b.0.0 d.0.0 inverse) x f.2 in
    let h = bind_ok (nothing_more Number line g.0.1) (λ ended. Ok (noted line b.0.0 d.0.0 g.0.0)) x g.2 in
    let pairs = series_all (IsNextPair spans) (pair_at spans line) (λ before s y k. pair_within (slice_index_or spans (length before) 0) line s y k) n a.0 b.0 b.1 in
    let entries = series_all (λ before z. IsEntry z) (normal_entry line) (λ before s y k. number_within (neg_ℤ largest) largest Number Range line s y k) (n * n) f.0 g.0 g.1 in
    let formed : IsFormedNode spans (node_of (noted line b.0.0 d.0.0 g.0.0)) = record {
      cell = cell_of_pairs [] spans [] b.0.0 refl pairs.0 pairs.1;
      scale = number_within (pos 1) largest Number Range line c.0 d.0 d.1;
      size = entries.0;
      entries = each_of IsEntry (λ before z. IsEntry z) (λ before z k. k) [] g.0.0 entries.1;
    } in
    subst (λ (y : LogNode). IsFormedNode spans (node_of y)) (ok_is (noted line b.0.0 d.0.0 g.0.0) x h.2) formed

-- a log is in form
pub log_formed : (bytes : List ℕ) (log : Log) → log_of bytes ≡ Ok log → IsFormedLog log
unfolding log_of
log_formed bytes log e =
    let end = end_line_of bytes in
    let whole : File → List LogNode → Part → Log = λ file nodes part. record { file = file; nodes = nodes; part = part } in
    let ended : File → List LogNode → Part × List Row → Reading Log = λ file nodes part. no_line part.1 >>= λ ended. Ok (whole file nodes part.0) in
    let a = bind_ok (problem_at end (lines_of bytes)) (λ file. next_line log_line end file.1 >>= λ count. series count.0 (node_at (spans_of file.0) end) [] count.1 >>= λ nodes. part_at (counts_of file.0) end nodes.1 >>= λ part. ended file.0 nodes.0 part) log e in
    let file = a.0.0 in
    let b = bind_ok (next_line log_line end a.0.1) (λ count. series count.0 (node_at (spans_of file) end) [] count.1 >>= λ nodes. part_at (counts_of file) end nodes.1 >>= λ part. ended file nodes.0 part) log a.2 in
    let c = bind_ok (series b.0.0 (node_at (spans_of file) end) [] b.0.1) (λ nodes. part_at (counts_of file) end nodes.1 >>= λ part. ended file nodes.0 part) log b.2 in
    let d = bind_ok (part_at (counts_of file) end c.0.1) (λ part. ended file c.0.0 part) log c.2 in
    let f = bind_ok (no_line d.0.1) (λ ended. Ok (whole file c.0.0 d.0.0)) log d.2 in
    let line = next_line_ok log_line end a.0.1 b.0 b.1 in
    let count = counting_within (codes "log") 4294967295 Count line.0 line.1 b.0.0 line.2 in
    let nodes = series_all (λ before y. IsFormedNode (spans_of file) (node_of y)) (node_at (spans_of file) end)
    (λ before s y h. let p = next_line_ok (node_line (spans_of file)) end s y h in node_line_formed (spans_of file) p.0 p.1 y.0 p.2) b.0.0 b.0.1 c.0 c.1 in
    let formed : IsFormedLog (whole file c.0.0 d.0.0) = record {
      file = problem_valid end (lines_of bytes) a.0 a.1;
      some = subst (λ (k : ℕ). 1 ≤ k) (sym nodes.0) count.0;
      nodes = each_of (λ y. IsFormedNode (spans_of file) (node_of y)) (λ before y. IsFormedNode (spans_of file) (node_of y)) (λ before y h. h) [] c.0.0 nodes.1;
      cells = part_formed (counts_of file) end c.0.1 d.0 d.1;
    } in
    subst IsFormedLog (ok_is (whole file c.0.0 d.0.0) log f.2) formed
