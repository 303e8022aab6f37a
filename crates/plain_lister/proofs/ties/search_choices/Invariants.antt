use Rattle.std.specs.Prelude.{◌≡◌, IsTrue, List, map, length}
use Rattle.cayley.specs.Problems.{Point}
use Rattle.plain_lister.specs.Order.{IsChoice}
use Rattle.plain_lister.specs.Progress.{Tried, steps_left}
use Rattle.plain_lister.specs.TieProgress.{AreClear}
use Rattle.plain_lister.specs.Wheels.{Show}
use Rattle.plain_lister.proofs.ties.search_choices.Given as goal

abbrev pub invariant-loop-going : goal.invariant-loop-going
invariant-loop-going g l = record {
  choice : IsTrue l.going → IsChoice l.counts l.pairs.items × Show l.counts l.wheels.items l.pairs.items;
  clear : AreClear l.problem (Tried l.going l.pairs.items);
}

abbrev pub decreases-loop-going : goal.decreases-loop-going
decreases-loop-going g l = steps_left l.going l.counts l.pairs.items

abbrev pub ghost-take_turn : goal.ghost-take_turn
ghost-take_turn g a = map (λ (s : List Point). length s) a.problem.now.supports
