use Rattle.std.proofs.Common.{rules}
use Rattle.std.specs.Prelude.{IsTrue}
use Rattle.plain_lister.specs.Choices.{HavePairs}
use Rattle.plain_lister.proofs.Growing.{small_counts}
use Rattle.plain_lister.proofs.Numbering.{none_many, too_many, few_enough}
use Rattle.plain_lister.proofs.TieSearch.{no_choice_tie, counted_tie}
use Rattle.plain_lister.proofs.ties.tie_counted.Goals as goal

pub returns-then-not-have_pairs : goal.returns-then-not-have_pairs
returns-then-not-have_pairs g c =
    let h : ¬ (HavePairs c.args.counts.now) = search rules in
    (none_many c.args.problem.now c.args.counts.now c.requires.counts h, no_choice_tie c.args.problem.now c.args.counts.now c.requires.counts h)

pub excess-requires : goal.excess-requires
excess-requires g c = small_counts c.args.problem.now c.requires.valid c.args.counts.now c.requires.counts

pub returns-in-Some : goal.returns-in-Some
returns-in-Some g c =
    let h : HavePairs c.args.counts.now = search rules in
    too_many c.args.problem.now c.args.counts.now c.in-Some.choices c.requires.counts h c.in-Some.ensures

pub returns-in-None : goal.returns-in-None
returns-in-None g c =
    counted_tie c.args.problem.now c.search_choices.result (few_enough c.args.problem.now c.args.counts.now c.requires.counts c.in-None.ensures) c.search_choices.ensures
