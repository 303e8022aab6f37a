use Rattle.std.proofs.Common.{rules, ◌≡◌, ◌↔◌}
use Rattle.std.specs.declared.cmp.Ordering.TheVariants.{Less}
use Rattle.std.proofs.lemmas.List.Sorted.{answers_always}
use Rattle.cayley.specs.Cells.{IsLess}
use Rattle.searcher.proofs.Orders.{is_before, before_ranks, same_test, never_falls}
use Rattle.log_check.proofs.dues.put_in_order.Goals as goal

pub returns-clause-order : goal.returns-clause-order
returns-clause-order c =
    never_falls c.sort_unstable_by.new.self.items
    (c.sort_unstable_by.ensures.sorted is_before before_ranks
    (answers_always _ _ _ (λ f a r f' called. let told : r ≡ Less ↔ IsLess a.0.now.cell a.1.0.now.cell = search rules in same_test r a.0.now a.1.0.now told)))
