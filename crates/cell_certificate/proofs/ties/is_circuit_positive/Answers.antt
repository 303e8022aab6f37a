use Rattle.std.proofs.Common.{rules, ◌-◌, ◌*◌, ◌+◌, ◌≡◌, ◌≢◌, ◌<◌, ◌∙◌, length, get_or, arith, refl, sym, ap, subst, FitsSigned, to_z-of_z, pos}
use Rattle.std.specs.Int.{w128}
use Rattle.int_vectors.specs.Vectors.{IsPositive, at}
use Rattle.cayley.specs.Cells.{Cell}
use Rattle.inner_normal.specs.Coefficients.{numbers_of}
use Rattle.inner_normal.specs.Orders.{ordered}
use Rattle.cell_certificate.proofs.Circuits.{went_by, decided, ended}
use Rattle.cell_certificate.proofs.Rising.{tested}
use Rattle.cell_certificate.proofs.ties.is_circuit_positive.Goals as goal

pub loop-k-preserved : goal.loop-k-preserved
loop-k-preserved c =
    let fs : FitsSigned w128 c.leading_at-first.result = search rules in
    let fa : FitsSigned w128 c.get.result = search rules in
    let fb : FitsSigned w128 c.get-in-loop-k.result = search rules in
    let fl : FitsSigned w128 c.get-last.result = search rules in
    let e : c.leading_at-first.result ≡ pos 0 = search (rules, c.if-first-ne0.false) in
    let same = c.pairs-pairs.ensures.same in
    let n = ap length same in
    let h = simp to_z-of_z at c.leading_at-first.ensures in
    let l : c.loop-k.k < length c.args.cell.now = omega (arith, c.loop-k-test.true, n) in
    went_by c.args.coefficients.now c.args.cell.now (c.args.support - 1) c.args.position c.loop-k.k c.requires.count l
    (get_or c.pairs-pairs.result.now c.loop-k.k (0, 0)) (c.get.result, c.get-in-loop-k.result) (ap (λ (y : Cell). get_or y c.loop-k.k (0, 0)) same)
    c.get.ensures.value c.get-in-loop-k.ensures.value c.get-last.result (c.get-last.ensures.value ∙ ap (λ m. at c.args.coefficients.now (2 * m)) n)
    (IsPositive (ordered c.args.cell.now (c.args.support - 1) c.args.position (numbers_of c.args.coefficients.now)))
    c.leading_at-first.result h e c.loop-k.invariant

pub returns-then-first-ne0 : goal.returns-then-first-ne0
returns-then-first-ne0 c =
    let fs : FitsSigned w128 c.leading_at-first.result = search rules in
    let fa : FitsSigned w128 c.get.result = search rules in
    let fb : FitsSigned w128 c.get-in-loop-k.result = search rules in
    let fl : FitsSigned w128 c.get-last.result = search rules in
    let e : c.leading_at-first.result ≢ pos 0 = search (rules, c.if-first-ne0.true) in
    let same = c.pairs-pairs.ensures.same in
    let n = ap length same in
    let h = simp to_z-of_z at c.leading_at-first.ensures in
    let l : c.loop-k.k < length c.args.cell.now = omega (arith, c.loop-k-test.true, n) in
    let d = decided c.args.coefficients.now c.args.cell.now (c.args.support - 1) c.args.position c.loop-k.k c.requires.count l
    (get_or c.pairs-pairs.result.now c.loop-k.k (0, 0)) (c.get.result, c.get-in-loop-k.result) (ap (λ (y : Cell). get_or y c.loop-k.k (0, 0)) same)
    c.get.ensures.value c.get-in-loop-k.ensures.value c.get-last.result (c.get-last.ensures.value ∙ ap (λ m. at c.args.coefficients.now (2 * m)) n)
    (IsPositive (ordered c.args.cell.now (c.args.support - 1) c.args.position (numbers_of c.args.coefficients.now)))
    c.leading_at-first.result h e c.loop-k.invariant in
    simp to_z-of_z (tested c.leading_at-first.result c.leading_at-first.result _ refl (d.1, d.0))

pub returns : goal.returns
returns c =
    let l = ap length c.pairs-pairs.ensures.same in
    ((λ t. absurd (search rules)), λ p. absurd (ended c.args.coefficients.now c.args.cell.now (c.args.support - 1) c.args.position c.loop-k.k (omega (arith, c.loop-k-test.false, l)) (c.loop-k.invariant.0 p)))
