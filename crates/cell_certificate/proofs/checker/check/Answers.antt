use Rattle.std.proofs.Common.{subst}
use Rattle.cell_certificate.specs.Answers.{IsAnswer}
use Rattle.cell_certificate.proofs.MixedLines.{right_mixed}
use Rattle.cell_certificate.proofs.WrittenLines.{written_spared}
use Rattle.cell_certificate.proofs.OneAnswer.{yes_exactly, no_exactly, overflow_exactly}
use Rattle.cell_certificate.proofs.checker.check.Goals as goal

pub returns-clause-yes : goal.returns-clause-yes
returns-clause-yes c = yes_exactly c.args.listing.now c.answer.result c.answer.ensures

pub returns-clause-no : goal.returns-clause-no
returns-clause-no c = no_exactly c.args.listing.now c.answer.result c.answer.ensures

pub returns-clause-overflow : goal.returns-clause-overflow
returns-clause-overflow c = overflow_exactly c.args.listing.now c.answer.result c.answer.ensures

pub returns-clause-mixed : goal.returns-clause-mixed
returns-clause-mixed c = λ e. right_mixed c.args.listing.now c.dim-dim.ensures.valid c.requires.listed (subst (IsAnswer c.args.listing.now) e c.answer.ensures)

pub returns-clause-written : goal.returns-clause-written
returns-clause-written c = written_spared c.args.listing.now c.answer.result c.dim-dim.ensures.valid c.requires.listed c.answer.ensures
