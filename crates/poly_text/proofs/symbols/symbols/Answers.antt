use Rattle.std.proofs.Common.{rules, ◌≡◌, ◌∙◌, ap, sym, subst, ℕ, Bool, true, false, List, [], map}
use Rattle.line_text.specs.Tokens.{Word}
use Rattle.support_text.specs.Words.{words}
use Rattle.support_text.specs.Faults.{Fails}
use Rattle.support_text.specs.declared.fault.TextFault.{TextFault}
use Rattle.poly_text.specs.Symbols.{Appends, symbols_of, symbols_of_word, symbols_in}
use Rattle.poly_text.proofs.SymbolWords.{prefixed, bad_line, line_more, line_fails, line_bad, line_done}
use Rattle.poly_text.proofs.symbols.symbols.Goals as goal

pub loop-token-preserved : goal.loop-token-preserved
loop-token-preserved c =
    let first = ap (map (λ (t : Word). t.text)) c.in-Some.ensures.next in
    let yes : c.in-Ok-true.field-0 ≡ true = search rules in
    let a = subst (λ (b : Bool). Appends b c.loop-token.symbols.items c.add_word.new.symbols.items (symbols_of_word c.in-Some.token.text.now)) yes c.in-Ok-true.ensures.reading in
    record {
      so_far = line_more c.loop-token.symbols.items c.add_word.new.symbols.items c.in-Some.token.text.now (words c.next_token.new.self) _ a
          (ap (λ (ws : List (List ℕ)). prefixed c.loop-token.symbols.items (symbols_of ws)) (sym first) ∙ c.loop-token.invariant.so_far);
      number = c.next_token.ensures.number ∙ c.loop-token.invariant.number;
    }

pub returns-in-Ok-false : goal.returns-in-Ok-false
returns-in-Ok-false c =
    let first = ap (map (λ (t : Word). t.text)) c.in-Some.ensures.next in
    let no : c.in-Ok-false.field-0 ≡ false = search rules in
    let a = subst (λ (b : Bool). Appends b c.loop-token.symbols.items c.add_word.new.symbols.items (symbols_of_word c.in-Some.token.text.now)) no c.in-Ok-false.ensures.reading in
    let bad = line_fails c.loop-token.symbols.items c.add_word.new.symbols.items c.in-Some.token.text.now (words c.next_token.new.self) (prefixed [] (symbols_of (words c.args.line.now))) a
    (ap (λ (ws : List (List ℕ)). prefixed c.loop-token.symbols.items (symbols_of ws)) (sym first) ∙ c.loop-token.invariant.so_far) in
    let number = c.number.ensures ∙ c.next_token.ensures.number ∙ c.loop-token.invariant.number in
    subst (λ (f : TextFault). Fails f (symbols_in c.args.line.now.number (symbols_of (words c.args.line.now)))) (sym c.fault_at.ensures)
    (subst (λ (n : ℕ). symbols_in c.args.line.now.number (symbols_of (words c.args.line.now)) ≡ bad_line n) (sym number) (line_bad (symbols_of (words c.args.line.now)) c.args.line.now.number bad))

pub returns : goal.returns
returns c =
    let none : words c.loop-token.line ≡ [] = ap (map (λ (t : Word). t.text)) c.in_default.ensures.next in
    line_done (symbols_of (words c.args.line.now)) c.args.line.now.number c.loop-token.symbols.items
    (ap (λ (ws : List (List ℕ)). prefixed c.loop-token.symbols.items (symbols_of ws)) (sym none) ∙ c.loop-token.invariant.so_far)
