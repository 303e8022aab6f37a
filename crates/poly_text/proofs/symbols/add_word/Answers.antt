use Rattle.std.proofs.Common.{rules, ◌≡◌, ◌∙◌, ap, ap₂, sym, ◌<◌, ℕ, List, [], ◌∷◌, ◌++◌, length, Some, None}
use Rattle.poly_text.specs.declared.symbols.Symbol.{Symbol}
use Rattle.poly_text.specs.Symbols.{first_symbol, symbols_of_word}
use Rattle.poly_text.proofs.SymbolWords.{prefixed, word_more, word_fails, word_ends, word_read, word_not}
use Rattle.poly_text.proofs.symbols.add_word.Goals as goal

pub returns-in_default-clause-reading : goal.returns-in_default-clause-reading
returns-in_default-clause-reading c =
    let some : 0 < length c.loop-rest.rest.now = search rules in
    let none : first_symbol c.loop-rest.rest.now ≡ None = sym c.first_symbol.ensures.symbol ∙ c.in_default.is in
    word_not c.args.symbols.now.items _ (symbols_of_word c.args.word.now) (word_fails c.loop-rest.symbols.items c.loop-rest.rest.now _ some none c.loop-rest.invariant)

pub loop-rest-preserved : goal.loop-rest-preserved
loop-rest-preserved c =
    let some : 0 < length c.loop-rest.rest.now = search rules in
    let first : first_symbol c.loop-rest.rest.now ≡ Some (c.in-Some.symbol, c.in-Some.count) = search (rules, c.in-Some.is, c.first_symbol.ensures.symbol) in
    let items : c.push_reserved.new.self.items ≡ c.loop-rest.symbols.items ++ c.in-Some.symbol ∷ [] = c.push_reserved.ensures.items ∙ ap (λ (l : List Symbol). l ++ c.in-Some.symbol ∷ []) c.reserve.ensures.items in
    ap₂ (λ (l : List Symbol) (r : List ℕ). prefixed l (symbols_of_word r)) items c.split_at.ensures.back
    ∙ word_more c.loop-rest.symbols.items c.loop-rest.rest.now (c.in-Some.symbol, c.in-Some.count) _ some first c.loop-rest.invariant

pub returns-clause-reading : goal.returns-clause-reading
returns-clause-reading c =
    let none : length c.loop-rest.rest.now ≡ 0 = search rules in
    word_read c.args.symbols.now.items c.loop-rest.symbols.items (symbols_of_word c.args.word.now) (word_ends c.loop-rest.symbols.items c.loop-rest.rest.now _ none c.loop-rest.invariant)
