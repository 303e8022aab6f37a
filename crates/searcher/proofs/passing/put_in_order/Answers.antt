use Rattle.std.proofs.Common.{rules, ◌≡◌, ◌↔◌}
use Rattle.std.specs.declared.cmp.Ordering.TheVariants.{Less}
use Rattle.std.proofs.lemmas.List.Sorted.{answers_always}
use Rattle.cayley.specs.Cells.{IsLess}
use Rattle.searcher.proofs.CellOrders.{is_less, less_ranks, told_less, cells_never_fall}
use Rattle.searcher.proofs.passing.put_in_order.Goals as goal

pub returns-clause-order : goal.returns-clause-order
returns-clause-order c =
    cells_never_fall c.sort_unstable_by.new.self.items
    (c.sort_unstable_by.ensures.sorted is_less less_ranks
    (answers_always _ _ _ (λ f a r f' called. let told : r ≡ Less ↔ IsLess a.0.now a.1.0.now = search rules in told_less r a.0.now a.1.0.now told)))
