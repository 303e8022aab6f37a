use Rattle.std.proofs.Common.{rules, ◌≡◌, ◌++◌, [], None, refl, sym, ap, ◌∙◌, append-nil}
use Rattle.search_team.specs.declared.stopping.Part.{Part}
use Rattle.search_team.specs.Teams.{all_left, all_found}
use Rattle.search_team.proofs.Summed.{left_snoc, found_snoc}
use Rattle.search_team.proofs.Stopped.{stopped_with, handed_back}
use Rattle.search_team.proofs.team.alone.Goals as goal

pub returns-in_default-clause-answer : goal.returns-in_default-clause-answer
returns-in_default-clause-answer c =
    let u = c.unbegun.ensures in
    handed_back c.args.problem.now c.args.branches.items c.unbegun.result (ap (λ v. v.items) u.0) u.1 u.2 u.3

pub returns-in-Err-clause-answer : goal.returns-in-Err-clause-answer
returns-in-Err-clause-answer c =
    let before = c.in-Ok.parts.items in
    let after = c.push_reserved.new.self.items in
    let stopped = c.in-Err.stopped in
    let part : Part = record { left = stopped.left; found = stopped.found.cells } in
    let h = c.in-Err.ensures.answer in
    let empty : before ≡ [] = c.in-Ok.ensures.items in
    stopped_with c.args.problem.now c.args.branches.items _ stopped.left.items stopped.found.cells.items refl c.new.ensures.items
    (left_snoc after before part c.push_reserved.ensures.items ∙ ap (λ l. all_left l ++ stopped.left.items) empty)
    (found_snoc after before part c.push_reserved.ensures.items ∙ ap (λ l. all_found l ++ stopped.found.cells.items) empty)
    h.cells h.normals h.left h.cause c.in-Err.ensures.tie c.in-Err.ensures.untied
