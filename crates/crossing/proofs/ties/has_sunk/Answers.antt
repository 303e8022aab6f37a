use Rattle.std.proofs.Common.{rules, subst}
use Rattle.std.specs.Prelude.{IsTrue}
use Rattle.std.proofs.lemmas.List.{get_or_default}
use Rattle.crossing.specs.declared.line.WallLine.{WallLine}
use Rattle.crossing.specs.Places.{origin}
use Rattle.crossing.specs.Ends.{IsSunk}
use Rattle.crossing.proofs.Leading.{taken}
use Rattle.crossing.proofs.ties.has_sunk.Goals as goal

pub returns-then-is_sunk : goal.returns-then-is_sunk
returns-then-is_sunk c =
    let t : IsTrue c.is_sunk.result = search rules in
    let lt = c.loop-line-test.true in
    let k = c.loop-line.line-index in
    let h = subst (λ (l : WallLine). IsSunk l) (taken c.args.lines.now k c.line-item.result c.line-item.is lt) (c.is_sunk.ensures.0 t) in (
      λ u. (k, lt, λ d. subst (λ (l : WallLine). IsSunk l) (get_or_default c.args.lines.now k origin d lt) h),
      λ h. search rules,
    )

pub returns : goal.returns
returns c = (λ t. absurd (search rules), λ h. absurd (c.loop-line.invariant h.0 (search rules) (h.2 origin)))
