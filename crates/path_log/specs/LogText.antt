-- The log of a path tree: what its lines mean, or the first faulty line and the kind of its fault.
use Rattle.std.specs.Prelude.{◌+◌, ◌*◌, ◌-◌, ◌^◌, ℕ, List, [], length, map, pos, codes, Ok}
use Rattle.line_text.specs.Lines.{Row, lines_of, end_line_of}
use Rattle.cayley.specs.Files.{File}
use Rattle.support_text.specs.declared.fault.Kind.TheVariants.{Count, Number, Range}
use Rattle.support_text.specs.Faults.{Reading, ◌>>=◌, series}
use Rattle.support_text.specs.Words.{Text, word, number, nothing_more, next_line}
use Rattle.support_text.specs.ProblemText.{counting_line, problem_at, no_line}
use Rattle.listing_text.specs.ListingText.{Part, pair_at, normal_entry, part_at, part_of, counts_of}
use Rattle.path_log.specs.declared.log.LogNode.{LogNode}
use Rattle.path_log.specs.declared.log.PathLog.{PathLog}

-- how many points each support has on the path of the file: its file points and n + 1 corners
abbrev pub spans_of : File → List ℕ
spans_of file = map (λ m. m + (file.dimension + 1)) (counts_of file)

-- `log T`
abbrev pub log_line : ℕ → List Text → Reading ℕ
log_line = counting_line (codes "log") (pos 4294967295) Count

-- `node`, a pair for each of n supports, `:`, a scale, `:` and n times n numbers
unfoldable pub node_line : List ℕ → ℕ → List Text → Reading LogNode
node_line spans line ws = do
  first ← word (codes "node") Count line ws
  cell ← series (length spans) (pair_at spans line) [] first
  before ← word (codes ":") Number line cell.1
  scale ← number (pos 1) (pos (2 ^ 127 - 1)) Number Range line before
  behind ← word (codes ":") Number line scale.1
  inverse ← series (length spans * length spans) (normal_entry line) [] behind
  ended ← nothing_more Number line inverse.1
  Ok (record { line = line; node = record { cell = cell.0; scale = scale.0; inverse = inverse.0 } })

-- the next line is a node line
abbrev pub node_at : List ℕ → ℕ → List LogNode → List Row → Reading (LogNode × List Row)
node_at spans end before = next_line (node_line spans) end

-- a file, the nodes of its path tree and its cells, with the numbers of their lines
pub record Log : Type 0 where
  pub file : File
  pub nodes : List LogNode
  pub part : Part

-- the log that the bytes mean
unfoldable pub log_of : List ℕ → Reading Log
log_of bytes = do
  file ← problem_at (end_line_of bytes) (lines_of bytes)
  count ← next_line log_line (end_line_of bytes) file.1
  nodes ← series count.0 (node_at (spans_of file.0) (end_line_of bytes)) [] count.1
  part ← part_at (counts_of file.0) (end_line_of bytes) nodes.1
  ended ← no_line part.1
  Ok (record { file = file.0; nodes = nodes.0; part = part.0 })

-- the log that an answer holds
abbrev pub log_in : PathLog → Log
log_in x = record { file = x.file; nodes = x.nodes.items; part = part_of x.part }
