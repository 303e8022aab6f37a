use Rattle.std.proofs.Common.{sym, true≢false, ◌∙◌}
use Rattle.crossing.proofs.TieRule.{sunk_none, crossed_none, flat_tie}
use Rattle.crossing.proofs.TieSteps.{none_sunk}
use Rattle.crossing.proofs.ties.tie_of.Goals as goal
use Rattle.crossing.proofs.ties.tie_of.Goals.{then-has_sunk-via-then-has_sunk, then-has_sunk-via-else-has_sunk+then-are_crossed}

pub returns-then-has_sunk : goal.returns-then-has_sunk
returns-then-has_sunk c =
    let l = c.args.lines.now in
    let e = c.of-ends.result in
    let h = c.of-ends.ensures in
    elim c.then-has_sunk.branch [
      | then-has_sunk-via-then-has_sunk w ↦ sunk_none l e.lower e.upper h.rise h.fall (c.has_sunk.ensures.0 w.if-has_sunk.true)
      | then-has_sunk-via-else-has_sunk+then-are_crossed w ↦ crossed_none l e.lower e.upper h.rise h.fall (w.are_crossed.ensures.0 w.if-are_crossed.true)
    ]

pub returns-in-Some : goal.returns-in-Some
returns-in-Some c =
    let l = c.args.lines.now in
    let e = c.of-ends.result in
    let h = c.of-ends.ensures in
    let f = c.in-Some.ensures in
    flat_tie l e.lower e.upper h.rise h.fall (none_sunk l c.has_sunk.result c.has_sunk.ensures.1 c.if-has_sunk.false) (λ x. true≢false (sym (c.are_crossed.ensures.1 x) ∙ c.if-are_crossed.false))
    c.in-Some.index f.0 f.1 f.2 c.time-time.result c.time-time.ensures

pub tie_of_ends-requires-clause-floating : goal.tie_of_ends-requires-clause-floating
tie_of_ends-requires-clause-floating c = none_sunk c.args.lines.now c.has_sunk.result c.has_sunk.ensures.1 c.if-has_sunk.false
