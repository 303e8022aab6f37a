use Rattle.start_system.proofs.Making.Parts.{if_ok_weaker}
use Rattle.cell_certificate.specs.Answers.{IsRight, IsWrong, IsTooLarge}
use Rattle.mixedcells.specs.Judging.{TellsAnswer}
use Rattle.mixedcells.specs.Answers.{IsVerdictReply}
use Rattle.mixedcells.proofs.Judging.{told_answer}
use Rattle.mixedcells.proofs.replies.verdict.Goals as goal

pub returns : goal.returns
returns c =
    let listing = c.args.listing.now in
    if_ok_weaker c.answered.result (λ r. TellsAnswer c.check.result r.outcome r.text.items) (λ r. IsVerdictReply listing r.outcome r.text.items)
    (λ r told. told_answer (IsRight listing) (IsWrong listing) (IsTooLarge listing) c.check.result c.check.ensures.yes c.check.ensures.no c.check.ensures.overflow r.outcome r.text.items told) c.answered.ensures
