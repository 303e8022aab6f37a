use Rattle.std.proofs.Common.{◌≡◌, ◌++◌, [], ◌∷◌, take, flat_map}
use Rattle.support_text.specs.Words.{text_of}
use Rattle.homotopy_rows.specs.Writing.{power_words}
use Rattle.homotopy_rows.proofs.writing.write_supports.Given as goal

abbrev pub invariant-loop-own : goal.invariant-loop-own
invariant-loop-own l = l.out.items ≡ l.fn.out.items ++ flat_map (λ ws. text_of (power_words ws ∷ [])) (take l.own-index l.powers)
