use Rattle.std.proofs.Common.{rules}
use Rattle.plain_lister.specs.Choices.{HavePairs}
use Rattle.plain_lister.proofs.Growing.{counted_answer, small_counts}
use Rattle.plain_lister.proofs.Numbering.{too_many, few_enough}
use Rattle.plain_lister.proofs.lists.list_counted.Goals as goal

pub excess-requires : goal.excess-requires
excess-requires g c = small_counts c.args.problem.now c.requires.valid c.args.counts.now c.requires.counts

pub returns-in-Some : goal.returns-in-Some
returns-in-Some g c =
    let h : HavePairs c.args.counts.now = search rules in
    too_many c.args.problem.now c.args.counts.now c.in-Some.choices c.requires.counts h c.in-Some.ensures

pub returns-in-None : goal.returns-in-None
returns-in-None g c =
    counted_answer c.args.problem.now c.list_choices.result (few_enough c.args.problem.now c.args.counts.now c.requires.counts c.in-None.ensures) c.list_choices.ensures
