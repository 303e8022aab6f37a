use Rattle.std.proofs.Common.{◌≡◌, ◌++◌, [], ◌∷◌, take, flat_map}
use Rattle.support_text.specs.Words.{text_of}
use Rattle.listing_text.specs.Writing.{cell_words}
use Rattle.listing_text.proofs.writing.write_cells.Given as goal

abbrev pub invariant-loop-cell : goal.invariant-loop-cell
invariant-loop-cell l = l.out.items ≡ l.fn.out.items ++ flat_map (λ x. text_of (cell_words x ∷ [])) (take l.cell-index l.cells)
