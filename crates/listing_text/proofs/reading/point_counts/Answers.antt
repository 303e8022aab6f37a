use Rattle.listing_text.proofs.Counts.{counts_are, counts_within}
use Rattle.listing_text.proofs.reading.point_counts.Goals as goal

pub returns-clause-value : goal.returns-clause-value
returns-clause-value c = counts_are c.lengths.result c.supports.result.now c.args.file.now.supports c.supports.ensures.value c.lengths.ensures

pub returns-clause-within : goal.returns-clause-within
returns-clause-within c =
    counts_within c.lengths.result c.args.file.now.supports c.supports.ensures.valid.shape.counts
    (counts_are c.lengths.result c.supports.result.now c.args.file.now.supports c.supports.ensures.value c.lengths.ensures)
