-- a log in form has the numbers that its checker asks for
use Rattle.std.proofs.Common.{◌≡◌, ◌+◌, ◌*◌, ap₂, ◌∙◌, arith}
use Rattle.std.proofs.lemmas.Int.{ints}
use Rattle.std.proofs.lemmas.List.{length-map}
use Rattle.std.specs.Prelude.{length}
use Rattle.int_vectors.proofs.Each.{each_map, each_weaker}
use Rattle.listing_text.specs.ListingText.{counts_of}
use Rattle.path_log.specs.declared.log.LogNode.{LogNode}
use Rattle.path_log.specs.declared.log.PathLog.{PathLog}
use Rattle.path_log.specs.Forms.{IsFormedNode, IsFormedLog, node_of}
use Rattle.path_log.specs.LogText.{log_in, spans_of}
use Rattle.log_check.specs.Nodes.{HasShape}
use Rattle.log_check.specs.Verdicts.{path_in, HasShapes}

pub formed_shapes : (log : PathLog) → IsFormedLog (log_in log) → HasShapes log
formed_shapes log formed =
    each_map node_of (HasShape (path_in log)) log.nodes.items
    (each_weaker (λ (x : LogNode). IsFormedNode (spans_of log.file) (node_of x)) (λ (x : LogNode). HasShape (path_in log) (node_of x)) log.nodes.items (λ x n. record {
      positive = let l = n.scale.0 in omega (arith, ints, l);
      long = n.size ∙ ap₂ (λ a b. a * b) count count;
    }) formed.nodes)
  where
    count : length (spans_of log.file) ≡ log.file.dimension
    count = length-map (counts_of log.file) (λ m. m + (log.file.dimension + 1)) ∙ length-map log.file.supports length ∙ formed.file.shape.supports
