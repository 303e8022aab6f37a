use Rattle.std.proofs.Common.{ℕ, ◌<◌, ◌≤◌, ◌↔◌, rules}
use Rattle.std.specs.Prelude.{IsTrue}
use Rattle.std.specs.List.{All}
use Rattle.int_vectors.proofs.Each.{each_all, all_each}
use Rattle.cayley.proofs.cells.all_rise.Goals as goal

pub returns : goal.returns
returns c =
    let h : IsTrue c.all.result ↔ All (λ (x : ℕ × ℕ). (1 ≤ x.0) × (x.0 < x.1)) c.args.pairs.now = search rules in
    (λ t. each_all _ _ (h.0 t), λ e. h.1 (all_each _ _ e))
