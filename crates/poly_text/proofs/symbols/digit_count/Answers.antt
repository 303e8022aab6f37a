use Rattle.std.proofs.Common.{arith, sym}
use Rattle.poly_text.proofs.SymbolWords.{first_at, none_at}
use Rattle.poly_text.proofs.symbols.digit_count.Goals as goal

pub returns-else-not-ends_digits-clause-count : goal.returns-else-not-ends_digits-clause-count
returns-else-not-ends_digits-clause-count c = first_at c.args.bytes.now c.loop-count.count c.loop-count.invariant.0 c.loop-count.invariant.1 (sym c.if-not-ends_digits.ensures)

pub returns-after-loop-count-clause-count : goal.returns-after-loop-count-clause-count
returns-after-loop-count-clause-count c = none_at c.args.bytes.now c.loop-count.count c.loop-count.invariant.0 c.loop-count.invariant.1 (omega arith)
