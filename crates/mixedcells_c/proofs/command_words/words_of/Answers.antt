use Rattle.std.proofs.Common.{rules, ◌≡◌, ◌∙◌, ◌==◌, ℕ, List, IfOk, map, string_bytes, ap, sym, subst}
use Rattle.std.specs.List.{slice_split}
use Rattle.mixedcells_c.proofs.CommandWords.{text_words, no_words}
use Rattle.mixedcells_c.proofs.command_words.words_of.Goals as goal

pub returns-in-Ok : goal.returns-in-Ok
returns-in-Ok c = subst (λ (xs : List (List ℕ)). IfOk c.split_words.result (λ ws. map string_bytes ws.items ≡ xs))
    (ap (λ (text : List ℕ). slice_split (λ b. b == 32) text) c.in-Ok.ensures.cases.0 ∙ sym (text_words _ c.in-Ok.ensures.cases.1)) c.split_words.ensures

pub returns-in-Err : goal.returns-in-Err
returns-in-Err c = let none = no_words _ c.in-Err.ensures.cases.0 in rw none (search rules)
