use Rattle.std.proofs.Common.{rules, ◌≡◌, ◌<◌, ◌∙◌, ◌-◌, ◌-ℤ◌, [], length, sym, ap, ap₂, subst, FitsSigned, to_z-of_z, arith}
use Rattle.std.specs.Int.{w64}
use Rattle.int_vectors.specs.Vectors.{sub, dot, row_at}
use Rattle.reduced_rows.proofs.Picking.{each_at, any_default}
use Rattle.cayley.specs.Problems.{point_at}
use Rattle.cayley.specs.Signs.{HasSign}
use Rattle.cayley.specs.Dependencies.{nth_support}
use Rattle.inner_normal.specs.Inverses.{Inverse}
use Rattle.inner_normal.specs.Coefficients.{difference}
use Rattle.carried_inverse.proofs.PairSigns.{pair_signs}
use Rattle.carried_inverse.proofs.carried.Carried.signs.Goals as goal

place_in : (c : goal.After-as_slice-2) → c.args.support - 1 < length c.args.self.now.columns
place_in c =
    let a = c.requires.point.0 in
    let b = c.requires.point.1 in
    let n = c.requires.inverse.count in
    omega (arith, a, b, n)

column_is : (c : goal.After-as_slice-2) → c.as_slice-column.result.now ≡ row_at c.args.self.now.columns (c.args.support - 1)
column_is c =
    let v = ap (λ (a : Inverse). length a.columns) c.self.view_is in
    let p = place_in c in
    let lt : c.args.support - 1 < length c.self.inside.columns.items = omega (arith, v, p) in
    c.as_slice-column.ensures ∙ c.index.ensures ∙ any_default c.self.inside.columns.items (c.args.support - 1) c.index.result.now [] lt ∙ ap (λ (a : Inverse). row_at a.columns (c.args.support - 1)) c.self.view_is

column_long : (c : goal.After-as_slice-2) → length c.as_slice-column.result.now ≡ c.args.problem.now.dimension
column_long c = ap length (column_is c) ∙ each_at (λ x. length x ≡ c.args.problem.now.dimension) c.args.self.now.columns (c.args.support - 1) [] (place_in c) c.requires.inverse.long

pub product_within-requires-clause-a_length : goal.product_within-requires-clause-a_length
product_within-requires-clause-a_length c = ap length c.as_slice.ensures.value ∙ c.point_of-a.ensures.long ∙ sym (column_long c)

pub product_within-requires-clause-c_length : goal.product_within-requires-clause-c_length
product_within-requires-clause-c_length c = ap length c.as_slice-2.ensures.value ∙ c.point_of-c.ensures.long ∙ sym (column_long c)

pub returns : goal.returns
returns c =
    let fm : FitsSigned w64 c.in_ok-m.m = search rules in
    let fd : FitsSigned w64 c.self.inside.den = search rules in
    let b = c.before.before.before.before.before in
    let j = c.args.support - 1 in
    let s = nth_support c.args.problem.now.supports (c.args.support - 1) in
    let v : sub c.as_slice-2.result.now c.as_slice.result.now ≡ difference c.args.problem.now c.args.cell.now (c.args.support - 1) c.args.position =
    ap₂ sub (c.as_slice-2.ensures.value ∙ c.point_of-c.ensures.same) (c.as_slice.ensures.value ∙ c.point_of-a.ensures.same ∙ ap (λ a. (point_at s a).coordinates) c.first_of.ensures.same) in
    let e : c.in_ok-m.m ≡ dot (difference c.args.problem.now c.args.cell.now (c.args.support - 1) c.args.position) (row_at c.args.self.now.columns (c.args.support - 1)) = c.in_ok-m.ensures ∙ ap₂ dot v (column_is b) in
    let den = ap (λ (a : Inverse). a.den) c.self.view_is in
    let h = simp to_z-of_z at c.signs_of.ensures in
    let below : c.args.support - 1 < c.args.problem.now.dimension = (let l = c.requires.point.0 in let g = c.requires.point.1 in omega (arith, l, g)) in
    pair_signs c.args.problem.now c.args.cell.now j c.args.position c.point_of-a.ensures.valid.shape.problem c.requires.of below c.args.self.now c.requires.inverse c.in_ok-m.m e c.signs_of.result
    (subst (λ d. HasSign c.signs_of.result.0 (c.in_ok-m.m -ℤ d)) den h.0) h.1
