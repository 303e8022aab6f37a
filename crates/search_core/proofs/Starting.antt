-- one more searcher that has nothing
use Rattle.std.proofs.Common.{◌≡◌, ℕ, ◌+◌, ◌-◌, ◌≤◌, [], ◌∷◌, ◌++◌, arith, ap, ◌∙◌}
use Rattle.std.specs.Prelude.{replicate}
use Rattle.std.proofs.lemmas.List.{replicate_more}
use Rattle.search_core.specs.declared.branches.CoreBranch.{CoreBranch}
use Rattle.search_core.specs.States.{Searcher, idle, start_state}

pub start_more : (n : ℕ) (b : CoreBranch) → 1 ≤ n → start_state n b ++ idle ∷ [] ≡ start_state (n + 1) b
start_more n b l =
    let first : Searcher = record idle { deque = b ∷ [] } in
    let e : (n - 1) + 1 ≡ n + 1 - 1 = omega (arith, l) in
    ap (λ xs. first ∷ xs) (replicate_more (n - 1) idle ∙ ap (λ k. replicate k idle) e)
