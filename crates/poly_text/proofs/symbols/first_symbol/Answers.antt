use Rattle.std.proofs.Common.{rules, ◌≡◌, ◌==◌, ◌∙◌, ◌<◌, length, false, get_or, arith}
use Rattle.poly_text.specs.Symbols.{digit_count}
use Rattle.poly_text.proofs.SymbolWords.{digits_are, mark_is}
use Rattle.poly_text.proofs.symbols.first_symbol.Goals as goal

pub returns-then-count-gt0-clause-symbol : goal.returns-then-count-gt0-clause-symbol
returns-then-count-gt0-clause-symbol c =
    digits_are c.args.bytes.now c.split_at.result.0.now c.digit_count-count.result c.value.result c.if-count-gt0.true c.digit_count-count.ensures.count c.split_at.ensures.front c.value.ensures

pub returns-then-bytes-ne120-clause-symbol : goal.returns-then-bytes-ne120-clause-symbol
returns-then-bytes-ne120-clause-symbol c =
    let some : 0 < length c.args.bytes.now = search rules in
    let none : digit_count c.args.bytes.now ≡ 0 = let h = c.if-count-gt0.false in let e = c.digit_count-count.ensures.count in omega (arith, e) in
    let other : (get_or c.args.bytes.now 0 0 == 120) ≡ false = search rules in
    c.marked.ensures.symbol ∙ mark_is c.args.bytes.now some none other
