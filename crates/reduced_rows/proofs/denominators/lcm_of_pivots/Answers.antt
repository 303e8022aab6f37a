use Rattle.std.proofs.Common.{◌<ℤ◌, ◌∙◌, pos, ap, sym, subst, rules, FitsSigned, to_z, to_z-of_z, arith}
use Rattle.std.specs.Int.{w128}
use Rattle.int_vectors.specs.Vectors.{at}
use Rattle.reduced_rows.proofs.Multiples.{first_pivot, lcm_stop, lcm_go, lcm_end, lcm_result_positive}
use Rattle.reduced_rows.proofs.denominators.lcm_of_pivots.Goals as goal

pub get-requires : goal.get-requires
get-requires c =
    let p = first_pivot c.args.done.now c.loop-j.j c.index-done-j.result c.loop-j-test.true c.requires in
    rw c.index-done-j.is (omega (arith, p.0))

pub lcm-requires-clause-b_positive : goal.lcm-requires-clause-b_positive
lcm-requires-clause-b_positive c =
    let fr : FitsSigned w128 c.get.result = search rules in
    let p = first_pivot c.args.done.now c.loop-j.j c.index-done-j.result c.loop-j-test.true c.requires in
    let v = c.get.ensures.value ∙ ap (λ r. at r c.loop-j.j) c.index-done-j.is in
    simp to_z-of_z (subst (λ z. pos 0 <ℤ z) (sym v) p.1)

pub returns-in_err-l-clause-value : goal.returns-in_err-l-clause-value
returns-in_err-l-clause-value c =
    let fr : FitsSigned w128 c.get.result = search rules in
    let v = c.get.ensures.value ∙ ap (λ r. at r c.loop-j.j) c.index-done-j.is in
    let n = simp to_z-of_z at c.in_err-l.ensures.value in
    rw c.from_residual.ensures (lcm_stop c.args.done.now c.loop-j.j (to_z w128 c.loop-j.l-bits) c.index-done-j.result c.get.result c.loop-j-test.true v c.loop-j.invariant.rest.0 n)

pub loop-j-preserved : goal.loop-j-preserved
loop-j-preserved c =
    let fr : FitsSigned w128 c.get.result = search rules in
    let fl : FitsSigned w128 c.in_ok-l.l = search rules in
    let p = first_pivot c.args.done.now c.loop-j.j c.index-done-j.result c.loop-j-test.true c.requires in
    let v = c.get.ensures.value ∙ ap (λ r. at r c.loop-j.j) c.index-done-j.is in
    let h = simp to_z-of_z at c.in_ok-l.ensures.value in
    let g = lcm_go c.args.done.now c.loop-j.j (to_z w128 c.loop-j.l-bits) c.index-done-j.result c.get.result c.loop-j-test.true v c.in_ok-l.l c.loop-j.invariant.value c.loop-j.invariant.rest h.0 h.1 in
    simp to_z-of_z (record {
      fits = rw h.1 h.0;
      positive = rw h.1 (lcm_result_positive (to_z w128 c.loop-j.l-bits) c.get.result c.loop-j.invariant.positive (subst (λ z. pos 0 <ℤ z) (sym v) p.1));
      value = g.0;
      rest = g.1;
    })

pub returns-clause-value : goal.returns-clause-value
returns-clause-value c = lcm_end c.args.done.now c.loop-j.j (to_z w128 c.loop-j.l-bits) (omega arith) c.loop-j.invariant.positive c.loop-j.invariant.value c.loop-j.invariant.rest.1
