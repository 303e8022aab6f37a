use Rattle.std.proofs.Common.{◌≡◌, ◌++◌, [], ◌∷◌, take, flat_map}
use Rattle.support_text.specs.Words.{text_of}
use Rattle.path_log.specs.Writing.{node_words}
use Rattle.path_log.proofs.writing.write_nodes.Given as goal

abbrev pub invariant-loop-node : goal.invariant-loop-node
invariant-loop-node l = l.out.items ≡ l.fn.out.items ++ flat_map (λ x. text_of (node_words x ∷ [])) (take l.node-index l.nodes)
