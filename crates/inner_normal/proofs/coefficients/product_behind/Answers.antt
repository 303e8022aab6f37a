use Rattle.std.proofs.Common.{rules, ◌≡◌, sym, subst, ◌∙◌, FitsSigned, to_z-of_z, arith}
use Rattle.std.specs.Int.{w128}
use Rattle.std.proofs.Math.IntN.{+ℤ_idl}
use Rattle.wide_int.specs.Whole.{FitsWhole}
use Rattle.int_vectors.specs.Vectors.{sub, dot}
use Rattle.cayley.proofs.Lists.Reaching.{near_narrow}
use Rattle.inner_normal.proofs.Bounded.{within_sub, bounded_fits}
use Rattle.inner_normal.proofs.CoefficientSteps.{dot_fits}
use Rattle.inner_normal.proofs.coefficients.product_behind.Goals as goal

pub dot_between_unchecked-requires-clause-a_small : goal.dot_between_unchecked-requires-clause-a_small
dot_between_unchecked-requires-clause-a_small c = near_narrow c.args.a.now c.requires.a_near

pub dot_between_unchecked-requires-clause-c_small : goal.dot_between_unchecked-requires-clause-c_small
dot_between_unchecked-requires-clause-c_small c = near_narrow c.args.c.now c.requires.c_near

pub dot_between_unchecked-requires-clause-fits : goal.dot_between_unchecked-requires-clause-fits
dot_between_unchecked-requires-clause-fits c =
    let w = within_sub c.args.c.now c.args.a.now (omega arith) c.requires.c_near c.requires.a_near in
    bounded_fits (sub c.args.c.now c.args.a.now) c.args.column.now w (c.requires.bound c.if-bounded.true)

pub dot_between-requires-clause-a_small : goal.dot_between-requires-clause-a_small
dot_between-requires-clause-a_small c = near_narrow c.args.a.now c.requires.a_near

pub dot_between-requires-clause-c_small : goal.dot_between-requires-clause-c_small
dot_between-requires-clause-c_small c = near_narrow c.args.c.now c.requires.c_near

pub returns-then-bounded-clause-value : goal.returns-then-bounded-clause-value
returns-then-bounded-clause-value c =
    let fr : FitsSigned w128 c.dot_between_unchecked.result = search rules in
    let v = sub c.args.c.now c.args.a.now in
    let w = within_sub c.args.c.now c.args.a.now (omega arith) c.requires.c_near c.requires.a_near in
    let e = c.dot_between_unchecked.ensures in
    simp to_z-of_z (bounded_fits v c.args.column.now w (c.requires.bound c.if-bounded.true), e ∙ +ℤ_idl (dot v c.args.column.now))

pub returns-then-bounded-clause-fits : goal.returns-then-bounded-clause-fits
returns-then-bounded-clause-fits c =
    let fr : FitsSigned w128 c.dot_between_unchecked.result = search rules in
    let v = sub c.args.c.now c.args.a.now in
    let w = within_sub c.args.c.now c.args.a.now (omega arith) c.requires.c_near c.requires.a_near in
    let e = c.dot_between_unchecked.ensures in
    simp to_z-of_z (subst FitsWhole (sym (e ∙ +ℤ_idl (dot v c.args.column.now))) (dot_fits v c.args.column.now (bounded_fits v c.args.column.now w (c.requires.bound c.if-bounded.true))))

pub returns-else-bounded-clause-value : goal.returns-else-bounded-clause-value
returns-else-bounded-clause-value c =
    let e = +ℤ_idl (dot (sub c.args.c.now c.args.a.now) c.args.column.now) in
    rw e at c.dot_between.ensures.value
