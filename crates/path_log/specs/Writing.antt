-- The text of a log.
use Rattle.std.specs.Prelude.{ℕ, List, [], ◌∷◌, ◌++◌, length, map, codes, decimal}
use Rattle.std.specs.Fmt.{signed_decimal}
use Rattle.cayley.specs.Files.{File}
use Rattle.cayley.specs.declared.found.FoundCell.{FoundCell}
use Rattle.support_text.specs.Words.{Text, text_of}
use Rattle.support_text.specs.Writing.{problem_lines}
use Rattle.listing_text.specs.Writing.{position_words, cells_lines}
use Rattle.path_trace.specs.declared.trace.TraceNode.{TraceNode}

-- `node`, the positions, `:`, the scale, `:` and the numbers of the inverse, row by row
abbrev pub node_words : TraceNode → List Text
node_words x = codes "node" ∷ (position_words x.cell ++ codes ":" ∷ signed_decimal x.scale ∷ codes ":" ∷ map signed_decimal x.inverse)

-- `log T` and the node lines
abbrev pub nodes_lines : List TraceNode → List (List Text)
nodes_lines nodes = (codes "log" ∷ decimal (length nodes) ∷ []) ∷ map node_words nodes

-- the words of each line of the log: the file, the nodes and the cells
abbrev pub log_lines : File → List TraceNode → List FoundCell → List (List Text)
log_lines file nodes found = problem_lines file ++ (nodes_lines nodes ++ cells_lines found)

abbrev pub log_text : File → List TraceNode → List FoundCell → List ℕ
log_text file nodes found = text_of (log_lines file nodes found)
