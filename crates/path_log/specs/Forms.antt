-- Which nodes a log can hold, and what it means.
use Rattle.std.specs.Prelude.{◌≡◌, ◌-◌, ◌*◌, ◌^◌, ◌≤◌, ℕ, List, length, map, pos, ◌≤ℤ◌, Ok}
use Rattle.int_vectors.specs.Vectors.{Each}
use Rattle.cayley.specs.Files.{File}
use Rattle.cayley.specs.Valid.{IsValidFile}
use Rattle.cayley.specs.declared.found.FoundCell.{FoundCell}
use Rattle.listing_text.specs.ListingText.{counts_of}
use Rattle.listing_text.specs.Forms.{IsCellOf, IsEntry, IsFormed, found_of}
use Rattle.path_trace.specs.declared.trace.TraceNode.{TraceNode}
use Rattle.path_log.specs.declared.log.LogNode.{LogNode}
use Rattle.path_log.specs.LogText.{Log, spans_of, log_of}

-- a pair for each of n supports, and n times n numbers over a scale of at least 1
pub record IsFormedNode (spans : List ℕ) (x : TraceNode) : Type 0 where
  pub cell : IsCellOf spans x.cell
  pub scale : (pos 1 ≤ℤ x.scale) × (x.scale ≤ℤ pos (2 ^ 127 - 1))
  pub size : length x.inverse ≡ length spans * length spans
  pub entries : Each x.inverse IsEntry

-- a node of a log without the number of its line
abbrev pub node_of : LogNode → TraceNode
node_of y = y.node

-- a file that keeps its limits, and nodes and cells of its points
pub record IsFormedLog (log : Log) : Type 0 where
  pub file : IsValidFile log.file
  pub some : 1 ≤ length log.nodes
  pub nodes : Each log.nodes (λ x. IsFormedNode (spans_of log.file) (node_of x))
  pub cells : Each log.part.cells (λ x. IsFormed (counts_of log.file) (found_of x))

-- the bytes are a log of the file, these nodes and these cells, each with the number of some line
abbrev pub MeansLog : List ℕ → File → List TraceNode → List FoundCell → Type 0
MeansLog bytes file nodes found = (log : Log) × (log_of bytes ≡ Ok log) × (log.file ≡ file) × (map node_of log.nodes ≡ nodes) × (map found_of log.part.cells ≡ found)
