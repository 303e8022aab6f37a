use Rattle.std.proofs.Common.{rules, subst, sym, ◌-ℤ◌, ◌*ℤ◌, FitsSigned, to_z-of_z}
use Rattle.std.specs.Int.{w128}
use Rattle.int_vectors.specs.Bounds.{IsNarrow}
use Rattle.int_vectors.specs.Vectors.{Each, sub}
use Rattle.cayley.proofs.Lists.Reaching.{plain_narrow}
use Rattle.cell_certificate.proofs.Rising.{no_start, rise_answer}
use Rattle.cell_certificate.proofs.sides.rise.Goals as goal

pub returns-in_err-start : goal.returns-in_err-start
returns-in_err-start c =
    let fd : FitsSigned w128 c.args.normal.now.den = search rules in
    let fh : FitsSigned w128 c.height_above.result = search rules in
    let h = rw c.height_above.ensures at (simp to_z-of_z at c.in_err-start.ensures) in
    rw c.from_residual.ensures (no_start (c.args.normal.now.den *ℤ (c.args.x.now.height -ℤ c.args.a.now.height)) (sub c.args.x.now.coords c.args.a.now.coords) c.args.normal.now.v h)

pub returns : goal.returns
returns c =
    let fd : FitsSigned w128 c.args.normal.now.den = search rules in
    let fh : FitsSigned w128 c.height_above.result = search rules in
    let h = rw c.height_above.ensures at (simp to_z-of_z at c.in_ok-start.ensures) in
    let fs : FitsSigned w128 c.in_ok-start.start = search rules in
    let k = rw (c.as_slice.ensures.value, c.as_slice-2.ensures.value, c.as_slice-3.ensures.value) at (simp to_z-of_z at c.dot_between.ensures.value) in
    rise_answer c.dot_between.result _ (c.args.normal.now.den *ℤ (c.args.x.now.height -ℤ c.args.a.now.height)) (sub c.args.x.now.coords c.args.a.now.coords) c.args.normal.now.v h.0 h.1 k

pub dot_between-requires-clause-a_small : goal.dot_between-requires-clause-a_small
dot_between-requires-clause-a_small c = subst (λ xs. Each xs IsNarrow) (sym c.as_slice.ensures.value) (plain_narrow c.args.a.now.coords c.requires.a_near.1.0)

pub dot_between-requires-clause-c_small : goal.dot_between-requires-clause-c_small
dot_between-requires-clause-c_small c = subst (λ xs. Each xs IsNarrow) (sym c.as_slice-2.ensures.value) (plain_narrow c.args.x.now.coords c.requires.x_near.1.0)
