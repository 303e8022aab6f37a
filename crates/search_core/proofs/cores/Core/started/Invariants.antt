use Rattle.std.proofs.Common.{◌≡◌, vec_capacity}
use Rattle.search_core.specs.States.{start_state}
use Rattle.search_core.proofs.cores.Core.started.Given as goal

-- the searchers made so far, and room for all
abbrev pub invariant-loop-turn : goal.invariant-loop-turn
invariant-loop-turn l = (l.all.items ≡ start_state l._turn l.fn.branch) × (vec_capacity l.all ≡ l.searchers)
