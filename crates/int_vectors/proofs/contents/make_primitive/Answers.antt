use Rattle.std.proofs.Common.{◌<◌, ◌≤◌, ◌∙◌, pos, sym, unsigned_abs, ap, subst, arith, rules, FitsSigned, to_z-of_z}
use Rattle.std.specs.Int.{w128}
use Rattle.std.proofs.lemmas.Int.{ints}
use Rattle.int_vectors.specs.Vectors.{scale}
use Rattle.int_vectors.specs.Fits.{AllFit}
use Rattle.int_vectors.specs.Contents.{content, DividesEach}
use Rattle.int_vectors.proofs.EntryDivisors.{content_is, divided_is, primitive_small, scale-primitive}
use Rattle.int_vectors.proofs.Fitting.{fits-primitive}
use Rattle.int_vectors.proofs.contents.make_primitive.Goals as goal

pub divide_all-requires-clause-exact : goal.divide_all-requires-clause-exact
divide_all-requires-clause-exact c =
    let fg : FitsSigned w128 c.content-g.result = search rules in
    simp to_z-of_z (subst (λ g. DividesEach (unsigned_abs g) c.args.entries.now) (sym c.content-g.ensures.value) (content_is c.args.entries.now).0)

pub returns-then-g-gt1-clause-value : goal.returns-then-g-gt1-clause-value
returns-then-g-gt1-clause-value c =
    let fg : FitsSigned w128 c.content-g.result = search rules in
    let t = simp to_z-of_z at c.if-g-gt1.true in
    let p : 0 < content c.args.entries.now = omega (arith, ints, t, c.content-g.ensures.value) in
    divided_is c.args.entries.now c.divide_all.new.entries p ((simp to_z-of_z at c.divide_all.ensures) ∙ ap (λ g. scale g c.divide_all.new.entries) c.content-g.ensures.value)

pub returns-then-g-gt1-clause-fits : goal.returns-then-g-gt1-clause-fits
returns-then-g-gt1-clause-fits c = subst AllFit (sym (returns-then-g-gt1-clause-value c)) (fits-primitive c.args.entries.now c.requires)

pub returns-else-g-gt1-clause-value : goal.returns-else-g-gt1-clause-value
returns-else-g-gt1-clause-value c =
    let fg : FitsSigned w128 c.content-g.result = search rules in
    let t = simp to_z-of_z at c.if-g-gt1.false in
    let p : content c.args.entries.now ≤ 1 = omega (arith, ints, t, c.content-g.ensures.value) in
    sym (primitive_small c.args.entries.now p)

pub returns-then-g-gt1-clause-divided : goal.returns-then-g-gt1-clause-divided
returns-then-g-gt1-clause-divided c = sym (ap (scale (pos (content c.args.entries.now))) (returns-then-g-gt1-clause-value c) ∙ scale-primitive c.args.entries.now)

pub returns-else-g-gt1-clause-divided : goal.returns-else-g-gt1-clause-divided
returns-else-g-gt1-clause-divided c = sym (ap (scale (pos (content c.args.entries.now))) (returns-else-g-gt1-clause-value c) ∙ scale-primitive c.args.entries.now)
