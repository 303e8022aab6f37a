use Rattle.std.proofs.Common.{◌≡◌, ◌++◌, [], ◌∷◌, take, flat_map}
use Rattle.support_text.specs.Words.{text_of}
use Rattle.support_text.specs.Writing.{start_words}
use Rattle.support_text.proofs.writing.write_starts.Given as goal

abbrev pub invariant-loop-heights : goal.invariant-loop-heights
invariant-loop-heights l = l.out.items ≡ l.fn.out.items ++ flat_map (λ s. text_of (start_words s.items ∷ [])) (take l.heights-index l.starts)
