use Rattle.std.proofs.Common.{◌≡◌, ℕ, ◌∙◌, ap, sym, subst, List, map, Ok}
use Rattle.cayley.specs.declared.points.FilePoint.{FilePoint as StoredFilePoint}
use Rattle.std.specs.Global.{Vec}
use Rattle.cayley.specs.Files.{File, FilePoint}
use Rattle.cayley.specs.Stored.{file_point, version_of}
use Rattle.cayley.specs.Valid.{IsValidFile}
use Rattle.int_vectors.proofs.Each.{map_map}
use Rattle.support_text.specs.Words.{next_line}
use Rattle.support_text.specs.ProblemText.{dim_line, supports, ending}
use Rattle.support_text.specs.Stored.{support_view, starts_view}
use Rattle.support_text.proofs.ValidFiles.{dim_within, supports_within, ending_within, file_within}
use Rattle.support_text.proofs.ReadProblem.{made, problem_read}
use Rattle.support_text.proofs.reading.read_problem_lines.Goals as goal

-- the supports as the file sees them
as_points : (ss : List (Vec StoredFilePoint)) → map (map file_point) (map (λ s. s.items) ss) ≡ map support_view ss
as_points ss = map_map (map file_point) (λ s. s.items) ss

pub from_parts-requires : goal.from_parts-requires
from_parts-requires c =
    let v = version_of c.in_ok-version.version in
    let n = c.in_ok-n.n in
    let ss = c.in_ok-supports.supports.items in
    let starts = starts_view c.in_ok-starts.starts in
    let dim = dim_within c.header.new.lines.end_line c.header.new.lines.rows (n, c.dim.new.lines.rows) c.in_ok-n.ensures.reading in
    let points = supports_within n c.dim.new.lines.end_line c.dim.new.lines.rows (map support_view ss, c.supports.new.lines.rows) c.in_ok-supports.ensures.reading in
    let last = ending_within n c.supports.new.lines.end_line c.supports.new.lines.rows (starts, c.ending.new.lines.rows) dim.0 c.in_ok-starts.ensures.reading in
    subst (λ (l : List (List FilePoint)). IsValidFile (made v n l starts)) (sym (as_points ss)) (file_within v n (map support_view ss) starts dim points last)

pub returns-clause-reading : goal.returns-clause-reading
returns-clause-reading c =
    let v = version_of c.in_ok-version.version in
    let n = c.in_ok-n.n in
    let ss = c.in_ok-supports.supports.items in
    let starts = starts_view c.in_ok-starts.starts in
    let first = c.header.ensures.end_line in
    let second = c.dim.ensures.end_line ∙ first in
    let third = c.supports.ensures.end_line ∙ second in
    let dim = subst (λ (e : ℕ). next_line dim_line e c.header.new.lines.rows ≡ Ok (n, c.dim.new.lines.rows)) first c.in_ok-n.ensures.reading in
    let points = subst (λ (e : ℕ). supports n e c.dim.new.lines.rows ≡ Ok (map support_view ss, c.supports.new.lines.rows)) second c.in_ok-supports.ensures.reading in
    let last = subst (λ (e : ℕ). ending n e c.supports.new.lines.rows ≡ Ok (starts, c.ending.new.lines.rows)) third c.in_ok-starts.ensures.reading in
    let read = problem_read c.args.lines.now.end_line c.args.lines.now.rows c.header.new.lines.rows c.dim.new.lines.rows c.supports.new.lines.rows c.ending.new.lines.rows
    v n (map support_view ss) starts c.in_ok-version.ensures.reading dim points last in
    let same = c.from_parts.ensures ∙ ap (λ (l : List (List FilePoint)). made v n l starts) (as_points ss) in
    read ∙ ap (λ (f : File). Ok (f, c.ending.new.lines.rows)) (sym same)
