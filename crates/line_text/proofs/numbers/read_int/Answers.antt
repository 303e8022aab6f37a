use Rattle.std.proofs.Common.{◌≡◌, ◌∙◌, ap₂}
use Rattle.std.proofs.Math.Facts.{to_z-of_z}
use Rattle.line_text.specs.Numbers.{number_in}
use Rattle.line_text.proofs.NumberLemmas.{reads_spelling, reads_outside, reads_value}
use Rattle.line_text.proofs.numbers.read_int.Goals as goal

pub returns-clause-spelling : goal.returns-clause-spelling
returns-clause-spelling c =
    let text = c.args.token.now.text.now in
    let is : c.number_within.result ≡ number_in c.args.min c.args.max text =
    c.number_within.ensures ∙ ap₂ (λ a b. number_in a b text) (to_z-of_z c.ranges.min) (to_z-of_z c.ranges.max) in
    rw is (reads_spelling c.args.min c.args.max text)

pub returns-clause-outside : goal.returns-clause-outside
returns-clause-outside c =
    let text = c.args.token.now.text.now in
    let is : c.number_within.result ≡ number_in c.args.min c.args.max text =
    c.number_within.ensures ∙ ap₂ (λ a b. number_in a b text) (to_z-of_z c.ranges.min) (to_z-of_z c.ranges.max) in
    rw is (reads_outside c.args.min c.args.max text)

pub returns-clause-value : goal.returns-clause-value
returns-clause-value c =
    let text = c.args.token.now.text.now in
    let is : c.number_within.result ≡ number_in c.args.min c.args.max text =
    c.number_within.ensures ∙ ap₂ (λ a b. number_in a b text) (to_z-of_z c.ranges.min) (to_z-of_z c.ranges.max) in
    rw is (reads_value c.args.min c.args.max text)
