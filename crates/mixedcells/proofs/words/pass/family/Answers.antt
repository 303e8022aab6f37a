use Rattle.std.proofs.Common.{◌≡◌, ◌≢◌, ◌++◌, ◌∙◌, ◌+◌, ap₂, length, length-append, map, rules, string_bytes, sym}
use Rattle.std.proofs.lemmas.List.{length-map}
use Rattle.mixedcells.proofs.CommandLine.Words.{other_words}
use Rattle.mixedcells.proofs.words.pass.family.Goals as goal

pub returns-in_default : goal.returns-in_default
returns-in_default c =
    let front = map string_bytes c.args.front.now in
    let rest = map string_bytes c.args.rest.now in
    let count : length (front ++ rest) ≡ length c.args.front.now + length c.args.rest.now =
    length-append front rest ∙ ap₂ (λ a b. a + b) (length-map c.args.front.now string_bytes) (length-map c.args.rest.now string_bytes) in
    let two : length c.args.front.now + length c.args.rest.now ≢ 2 = search rules in
    let four : length c.args.front.now + length c.args.rest.now ≢ 4 = search rules in
    other_words (front ++ rest) (λ e. two (sym count ∙ e)) (λ e. four (sym count ∙ e))
