use Rattle.std.proofs.Common.{ℕ, drop}
use Rattle.std.specs.Option.{option_map}
use Rattle.cayley.specs.Files.{plain_problem}
use Rattle.cell_certificate.specs.Answers.{IsRight, IsWrong, IsTooLarge, WrongAt, TooLargeAt}
use Rattle.cell_certificate.specs.Judgements.{AllPass, FirstRefused}
use Rattle.cell_certificate.proofs.checker.answer.Given as goal

abbrev pub invariant-loop-listed : goal.invariant-loop-listed
invariant-loop-listed l =
    let p = plain_problem l.listing.file in
    let left = drop l.listed-index l.listing.cells.items in
    let before = option_map (λ b. b.now) l.before in
    record {
      right : AllPass p before left → IsRight l.listing;
      wrong : (number reason : ℕ) → FirstRefused p before left (WrongAt p number reason) → IsWrong l.listing number reason;
      large : (number : ℕ) → FirstRefused p before left (TooLargeAt p number) → IsTooLarge l.listing number;
    }
