use Rattle.std.proofs.Common.{◌≡◌, take}
use Rattle.plain_lister.specs.Order.{firsts}
use Rattle.plain_lister.proofs.lists.first_choice.Given as goal

abbrev pub invariant-loop-count : goal.invariant-loop-count
invariant-loop-count l = l.pairs.items ≡ firsts (take l._count-index l.counts)
