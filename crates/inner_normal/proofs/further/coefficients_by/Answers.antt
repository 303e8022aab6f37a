use Rattle.std.proofs.Common.{◌≡◌, ◌-◌, sym, ap, ap₂, subst, ◌∙◌, length, arith, List, ℕ, ℤ}
use Rattle.int_vectors.specs.Vectors.{Each, sub}
use Rattle.cayley.specs.Valid.{IsCornerCoordinate}
use Rattle.std.specs.Prelude.{MatchResult}
use Rattle.reduced_rows.specs.Refusals.{IsFromFault}
use Rattle.cayley.specs.Problems.{point_at}
use Rattle.cayley.specs.Dependencies.{nth_support}
use Rattle.inner_normal.specs.Coefficients.{difference, coefficients_of, FitsCoefficients}
use Rattle.inner_normal.proofs.further.coefficients_by.Goals as goal

pub coefficients-requires-clause-place : goal.coefficients-requires-clause-place
coefficients-requires-clause-place c =
    let e = c.requires.count in
    let a = c.requires.point.0 in
    let b = c.requires.point.1 in
    omega (arith, e, a, b)

pub coefficients-requires-clause-columns : goal.coefficients-requires-clause-columns
coefficients-requires-clause-columns c =
    subst (λ (n : ℕ). Each c.args.inverse.now.columns (λ column. length column ≡ n)) (sym (ap length c.as_slice.ensures.value ∙ c.point_of-c.ensures.long)) c.requires.columns

pub coefficients-requires-clause-points : goal.coefficients-requires-clause-points
coefficients-requires-clause-points c = ap length c.as_slice-2.ensures.value ∙ c.point_of-a.ensures.long ∙ sym (ap length c.as_slice.ensures.value ∙ c.point_of-c.ensures.long)

pub coefficients-requires-clause-c_near : goal.coefficients-requires-clause-c_near
coefficients-requires-clause-c_near c = subst (λ (xs : List ℤ). Each xs IsCornerCoordinate) (sym c.as_slice.ensures.value) c.point_of-c.ensures.near

pub coefficients-requires-clause-a_near : goal.coefficients-requires-clause-a_near
coefficients-requires-clause-a_near c = subst (λ (xs : List ℤ). Each xs IsCornerCoordinate) (sym c.as_slice-2.ensures.value) c.point_of-a.ensures.near

pub returns-clause-value : goal.returns-clause-value
returns-clause-value c =
    let j = c.args.support - 1 in
    let s = nth_support c.args.problem.now.supports (c.args.support - 1) in
    let v : sub c.as_slice.result.now c.as_slice-2.result.now ≡ difference c.args.problem.now c.args.cell.now (c.args.support - 1) c.args.position =
    ap₂ sub (c.as_slice.ensures.value ∙ c.point_of-c.ensures.same) (c.as_slice-2.ensures.value ∙ c.point_of-a.ensures.same ∙ ap (λ a. (point_at s a).coordinates) c.first_of.ensures.same) in
    subst (λ (v : List ℤ). MatchResult c.coefficients.result (λ made. FitsCoefficients j c.args.inverse.now v × (made ≡ coefficients_of j c.args.inverse.now v)) (IsFromFault (FitsCoefficients j c.args.inverse.now v))) v c.coefficients.ensures
