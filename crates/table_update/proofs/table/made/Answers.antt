use Rattle.std.proofs.Common.{◌≡◌, ◌∙◌, ◌++◌, ◌∷◌, [], subst, sym, ap, rules}
use Rattle.table_update.specs.States.{start, AreStates}
use Rattle.table_update.proofs.Listed.{are_first}
use Rattle.table_update.proofs.Reached.{steps_start}
use Rattle.table_update.proofs.table.made.Goals as goal

pub finish-requires-clause-steps : goal.finish-requires-clause-steps
finish-requires-clause-steps c = steps_start c.args.rows.items

pub finish-requires-clause-states : goal.finish-requires-clause-states
finish-requires-clause-states c =
    subst (AreStates 0 c.args.rows.items) (sym (c.in_ok-push.ensures.items ∙ ap (λ l. l ++ c.in_ok-first.first ∷ []) c.new-states.ensures.items))
    (are_first c.args.rows.items c.in_ok-first.first (c.in_ok-first.ensures ∙ ap start c.deref.ensures.value))
