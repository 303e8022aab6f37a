use Rattle.std.proofs.Common.{◌<◌, ◌-◌, ◌∙◌, ◌<ℤ◌, pos, length, ap, sym, subst, arith, rules, FitsSigned, to_z-of_z}
use Rattle.std.specs.Int.{w128}
use Rattle.int_vectors.specs.Vectors.{at}
use Rattle.reduced_rows.specs.Spans.{HaveForm}
use Rattle.reduced_rows.proofs.Multiples.{first_pivot}
use Rattle.reduced_rows.proofs.reduced.Reduced.pivot.Goals as goal

pub get-requires : goal.get-requires
unfolding HaveForm
get-requires c =
    let v = ap length c.self.view_is in
    let lt : c.args.k - 1 < length c.self.inside.rows.items = omega (arith, v) in
    let p = first_pivot c.self.inside.rows.items (c.args.k - 1) c.index.result.now lt c.self.invariant.0 in
    rw c.index.ensures p.0

pub returns-clause-positive : goal.returns-clause-positive
unfolding HaveForm
returns-clause-positive c =
    let fr : FitsSigned w128 c.get.result = search rules in
    let v = ap length c.self.view_is in
    let lt : c.args.k - 1 < length c.self.inside.rows.items = omega (arith, v) in
    let p = first_pivot c.self.inside.rows.items (c.args.k - 1) c.index.result.now lt c.self.invariant.0 in
    simp to_z-of_z (subst (λ z. pos 0 <ℤ z) (sym (c.get.ensures.value ∙ ap (λ r. at r (c.args.k - 1)) c.index.ensures)) p.1)
