use Rattle.std.proofs.Common.{◌≡◌, length}
use Rattle.poly_text.specs.Symbols.{symbols_of_word}
use Rattle.poly_text.proofs.SymbolWords.{prefixed}
use Rattle.poly_text.proofs.symbols.add_word.Given as goal

abbrev pub invariant-loop-rest : goal.invariant-loop-rest
invariant-loop-rest l = prefixed l.symbols.items (symbols_of_word l.rest) ≡ prefixed l.fn.symbols.items (symbols_of_word l.fn.word)

abbrev pub decreases-loop-rest : goal.decreases-loop-rest
decreases-loop-rest l = length l.rest
