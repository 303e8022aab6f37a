use Rattle.mixedcells.proofs.CommandLine.Numbers.{parsed}
use Rattle.mixedcells.proofs.words.numbers.value_of.Goals as goal

pub returns : goal.returns
returns c = rw c.ok.ensures.value (parsed c.args.word.now c.parse.result c.requires c.parse.ensures.value.0)
