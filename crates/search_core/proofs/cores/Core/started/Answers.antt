use Rattle.std.proofs.Common.{[], ◌∷◌, ◌++◌, arith, ap₂, ◌∙◌}
use Rattle.search_core.specs.States.{Searcher, State}
use Rattle.search_core.proofs.Starting.{start_more}
use Rattle.search_core.proofs.cores.Core.started.Goals as goal

pub loop-turn-preserved : goal.loop-turn-preserved
loop-turn-preserved c =
    let pushed = c.push_reserved-in-loop-turn.ensures in
    let turn = c.loop-turn.auto._turn in (
      pushed.items ∙ ap₂ (λ (xs : State) (x : Searcher). xs ++ x ∷ []) c.loop-turn.invariant.0 c.idle.ensures ∙ start_more c.loop-turn._turn c.args.branch (omega (arith, turn)),
      pushed.capacity ∙ c.loop-turn.invariant.1,
    )
