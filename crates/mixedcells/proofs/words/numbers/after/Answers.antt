use Rattle.mixedcells.proofs.CommandLine.Numbers.{after_cases}
use Rattle.mixedcells.proofs.words.numbers.after.Goals as goal

pub returns : goal.returns
returns c = after_cases c.args.prefix.now c.args.word.now c.strip_prefix.result c.strip_prefix.ensures.cases
