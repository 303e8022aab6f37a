use Rattle.std.proofs.Common.{◌≤◌, ◌↔◌, rules}
use Rattle.std.specs.Prelude.{IsTrue, ℤ, unsigned_abs}
use Rattle.std.specs.List.{All}
use Rattle.int_vectors.proofs.Each.{each_all, all_each}
use Rattle.cayley.proofs.limits.are_within.Goals as goal

pub returns : goal.returns
returns c =
    let h : IsTrue c.all.result ↔ All (λ (z : ℤ). unsigned_abs z ≤ c.args.most) c.args.coords.now = search rules in
    (λ t. each_all _ _ (h.0 t), λ e. h.1 (all_each _ _ e))
