use Rattle.std.proofs.Common.{◌∙◌, ℕ, List, IfOk, map, string_bytes, ap, subst}
use Rattle.mixedcells_c.specs.Runs.{IsRun}
use Rattle.mixedcells_c.proofs.runs.run_command.Goals as goal

pub returns : goal.returns
returns c = subst (λ (words : List (List ℕ)). IfOk c.run_words.result (λ a. IsRun words c.args.input.now a.outcome a.text.items))
    (ap (map string_bytes) c.deref.ensures.value ∙ c.in_ok-words.ensures) c.run_words.ensures
