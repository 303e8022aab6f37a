use Rattle.plain_lister.proofs.Growing.{nothing_done}
use Rattle.plain_lister.proofs.Numbering.{none_many}
use Rattle.plain_lister.proofs.lists.no_choices.Goals as goal

pub returns-clause-few : goal.returns-clause-few
returns-clause-few c = none_many c.args.problem.now c.args.counts.now c.requires.counts c.requires.pairs

pub returns-clause-done : goal.returns-clause-done
returns-clause-done c =
    nothing_done c.args.problem.now c.requires.valid c.requires.alone c.args.counts.now c.requires.counts c.requires.pairs c.new.result.items c.new.ensures.items
