use Rattle.std.proofs.Common.{rules, ◌≡◌, ◌+◌, ◌++◌, [], None, min, refl, sym, ap, ◌∙◌, subst}
use Rattle.std.specs.Prelude.{IsPermutation}
use Rattle.std.proofs.lemmas.List.Sorted.{IsPermutation-trans, IsPermutation-refl}
use Rattle.searcher.specs.declared.expansions.HaltCause.TheVariants.{OutOfMemory}
use Rattle.searcher.specs.Searches.{top}
use Rattle.search_team.specs.Teams.{all_left, all_found}
use Rattle.search_team.proofs.Summed.{left_snoc, found_snoc}
use Rattle.search_team.proofs.Stopped.{stopped_then, found_then, ungathered}
use Rattle.search_team.proofs.ending.finished.Goals as goal

pub returns-in-Err-clause-answer : goal.returns-in-Err-clause-answer
returns-in-Err-clause-answer c =
    let parts = c.args.parts.items in
    let after = c.push_reserved.new.self.items in
    let stopped = c.in-Err.stopped in
    let left : all_left after ≡ stopped.left.items = left_snoc after parts (record { left = stopped.left; found = stopped.found.cells }) c.push_reserved.ensures.items ∙ ap (λ l. l ++ stopped.left.items) c.requires.none in
    let found : all_found after ≡ all_found parts ++ stopped.found.cells.items = found_snoc after parts (record { left = stopped.left; found = stopped.found.cells }) c.push_reserved.ensures.items in
    stopped_then c.args.problem.now c.args.given.now.value.items c.args.left.items (all_found parts) c.args.solves c.requires.divided stopped c.in-Err.ensures.answer c.in-Err.ensures.tie c.in-Err.ensures.untied
    _ refl c.new.ensures.items left found refl

pub returns-in-Ok-gathered-clause-answer : goal.returns-in-Ok-gathered-clause-answer
returns-in-Ok-gathered-clause-answer c =
    let parts = c.args.parts.items in
    let after = c.push_reserved-2.new.self.items in
    let cells = c.in-Ok.found.cells in
    let found : all_found after ≡ all_found parts ++ cells.items = found_snoc after parts (record { left = c.new-2.result; found = cells }) c.push_reserved-2.ensures.items in
    found_then c.args.problem.now c.args.given.now.value.items c.args.left.items (all_found parts) c.args.solves c.requires.divided c.in-Ok.found c.in-Ok.ensures.answer c.in-Ok.ensures.fit
    _ (subst (λ l. IsPermutation l c.in-Ok-gathered.cells.items) found c.in-Ok-gathered.ensures.all) c.in-Ok-gathered.ensures.order (search rules)

pub returns-in-Err-gathered-clause-answer : goal.returns-in-Err-gathered-clause-answer
returns-in-Err-gathered-clause-answer c =
    let parts = c.args.parts.items in
    let after = c.push_reserved-2.new.self.items in
    let cells = c.in-Ok.found.cells in
    let found : all_found after ≡ all_found parts ++ cells.items = found_snoc after parts (record { left = c.new-2.result; found = cells }) c.push_reserved-2.ensures.items in
    let kept = c.in-Err-gathered.ensures.kept in
    ungathered c.args.problem.now c.args.given.now.value.items c.args.left.items (all_found parts) c.args.solves c.requires.divided c.in-Ok.found c.in-Ok.ensures.answer
    _ refl c.new-in-Err-gathered.ensures.items kept.1 (subst (λ l. IsPermutation l (all_found c.in-Err-gathered.parts.items)) found kept.0) refl
