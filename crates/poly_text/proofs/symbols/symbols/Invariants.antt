use Rattle.std.proofs.Common.{◌≡◌, [], length}
use Rattle.support_text.specs.Words.{words}
use Rattle.poly_text.specs.Symbols.{symbols_of}
use Rattle.poly_text.proofs.SymbolWords.{prefixed}
use Rattle.poly_text.proofs.symbols.symbols.Given as goal

abbrev pub invariant-loop-token : goal.invariant-loop-token
invariant-loop-token l = record {
  so_far : prefixed l.symbols.items (symbols_of (words l.line)) ≡ prefixed [] (symbols_of (words l.fn.line));
  number : l.line.number ≡ l.fn.line.number;
}

abbrev pub decreases-loop-token : goal.decreases-loop-token
decreases-loop-token l = length l.line.tokens
