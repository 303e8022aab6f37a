use Rattle.std.proofs.Common.{◌≡◌, ◌↔◌, ◌-◌, sym, ap, ap₂, subst, ◌∙◌, length, arith, List, ℕ, ℤ}
use Rattle.std.specs.Prelude.{IsTrue}
use Rattle.int_vectors.specs.Vectors.{Each, sub}
use Rattle.cayley.specs.Valid.{IsCornerCoordinate}
use Rattle.cayley.specs.Problems.{point_at}
use Rattle.cayley.specs.Dependencies.{nth_support}
use Rattle.inner_normal.specs.Coefficients.{difference, FitsCoefficients}
use Rattle.inner_normal.proofs.Meaning.{inverse_shape}
use Rattle.inner_normal.proofs.further.coefficients_fit_at.Goals as goal

pub coefficients_fit-requires-clause-place : goal.coefficients_fit-requires-clause-place
coefficients_fit-requires-clause-place c =
    let e = (inverse_shape c.args.problem.now c.args.cell.now c.point_of-a.ensures.valid.shape.problem c.requires.cell c.args.inverse.now c.requires.inverse).0 in
    let a = c.requires.point.0 in
    let b = c.requires.point.1 in
    omega (arith, e, a, b)

pub coefficients_fit-requires-clause-columns : goal.coefficients_fit-requires-clause-columns
coefficients_fit-requires-clause-columns c =
    subst (λ (n : ℕ). Each c.args.inverse.now.columns (λ column. length column ≡ n)) (sym (ap length c.as_slice.ensures.value ∙ c.point_of-c.ensures.long))
    (inverse_shape c.args.problem.now c.args.cell.now c.point_of-a.ensures.valid.shape.problem c.requires.cell c.args.inverse.now c.requires.inverse).1

pub coefficients_fit-requires-clause-points : goal.coefficients_fit-requires-clause-points
coefficients_fit-requires-clause-points c = ap length c.as_slice-2.ensures.value ∙ c.point_of-a.ensures.long ∙ sym (ap length c.as_slice.ensures.value ∙ c.point_of-c.ensures.long)

pub coefficients_fit-requires-clause-c_near : goal.coefficients_fit-requires-clause-c_near
coefficients_fit-requires-clause-c_near c = subst (λ (xs : List ℤ). Each xs IsCornerCoordinate) (sym c.as_slice.ensures.value) c.point_of-c.ensures.near

pub coefficients_fit-requires-clause-a_near : goal.coefficients_fit-requires-clause-a_near
coefficients_fit-requires-clause-a_near c = subst (λ (xs : List ℤ). Each xs IsCornerCoordinate) (sym c.as_slice-2.ensures.value) c.point_of-a.ensures.near

pub returns : goal.returns
returns c =
    let j = c.args.support - 1 in
    let s = nth_support c.args.problem.now.supports (c.args.support - 1) in
    let v : sub c.as_slice.result.now c.as_slice-2.result.now ≡ difference c.args.problem.now c.args.cell.now (c.args.support - 1) c.args.position =
    ap₂ sub (c.as_slice.ensures.value ∙ c.point_of-c.ensures.same) (c.as_slice-2.ensures.value ∙ c.point_of-a.ensures.same ∙ ap (λ a. (point_at s a).coordinates) c.first_of.ensures.same) in
    subst (λ (v : List ℤ). IsTrue c.coefficients_fit.result ↔ FitsCoefficients j c.args.inverse.now v) v c.coefficients_fit.ensures
