use Rattle.std.proofs.Common.{rules, ◌≡◌, ◌∙◌, ◌++◌, ◌∷◌, ℤ, ◌-ℤ◌, length, sym, ap, ap₂, subst, arith, FitsSigned, to_z-of_z}
use Rattle.std.specs.Int.{w64, w128}
use Rattle.std.proofs.lemmas.Int.{ints}
use Rattle.wide_int.specs.Whole.{FitsWhole}
use Rattle.int_vectors.specs.Fits.{AllFit}
use Rattle.int_vectors.specs.Vectors.{sub}
use Rattle.int_vectors.proofs.DifferenceSums.{long_sub}
use Rattle.cayley.specs.Rows.{edge_row, unit_row}
use Rattle.cayley.specs.Stored.{point}
use Rattle.cayley.proofs.OneCell.EdgeRows.{row_joined, row_long, edge_fits}
use Rattle.cayley.proofs.rows.entries_of.Goals as goal

pub push_unit-requires-clause-short : goal.push_unit-requires-clause-short
push_unit-requires-clause-short c =
    let first = c.in_ok-push_differences.ensures ∙ ap (λ l. l ++ sub c.as_slice.result.now c.as_slice-2.result.now) c.in-Ok.ensures.items in
    let long = row_long _ _ _ _ _ _ first c.in_ok-push.ensures c.in_ok-push-2.ensures in
    let p = ap (length {A = ℤ}) c.as_slice.ensures.value in
    let q = ap (length {A = ℤ}) c.as_slice-2.ensures.value in
    let a = c.requires.a_fits.0 in
    let b = c.requires.b_fits.0 in
    let d = long_sub c.as_slice.result.now c.as_slice-2.result.now (omega arith) in
    let m = c.requires.dim in
    omega arith

base : (c : goal.In_ok-push_unit) → c.difference.result ≡ c.args.b.now.base -ℤ c.args.a.now.base
base c =
    let f : FitsSigned w64 c.args.b.now.base = search rules in
    let g : FitsSigned w64 c.args.a.now.base = search rules in
    simp to_z-of_z at c.difference.ensures.value

speed : (c : goal.In_ok-push_unit) → c.difference-2.result ≡ c.args.b.now.speed -ℤ c.args.a.now.speed
speed c =
    let f : FitsSigned w64 c.args.b.now.speed = search rules in
    let g : FitsSigned w64 c.args.a.now.speed = search rules in
    simp to_z-of_z at c.difference-2.ensures.value

edge : (c : goal.In_ok-push_unit) → c.push_unit.new.row.items ≡ edge_row c.args.dim c.args.place (point c.args.a.now) (point c.args.b.now)
edge c =
    let first = c.in_ok-push_differences.ensures ∙ ap₂ (λ l d. l ++ d) c.in-Ok.ensures.items (ap₂ sub c.as_slice.ensures.value c.as_slice-2.ensures.value) in
    let bf = c.difference.ensures.fits in
    let sf = c.difference-2.ensures.fits in
    let f : FitsSigned w128 c.difference.result = omega (arith, ints) in
    let g : FitsSigned w128 c.difference-2.result = omega (arith, ints) in
    let second = simp to_z-of_z at c.in_ok-push.ensures in
    let third = simp to_z-of_z at c.in_ok-push-2.ensures in
    c.in_ok-push_unit.ensures
    ∙ row_joined (sub c.args.b.now.coords c.args.a.now.coords) (unit_row c.args.dim c.args.place) c.difference.result c.difference-2.result
    c.push_differences.new.row.items c.push.new.row.items c.push-2.new.row.items first second third
    ∙ ap₂ (λ x y. sub c.args.b.now.coords c.args.a.now.coords ++ (x ∷ y ∷ unit_row c.args.dim c.args.place)) (base c) (speed c)

pub returns-clause-value : goal.returns-clause-value
returns-clause-value c = edge c

pub returns-clause-fits : goal.returns-clause-fits
returns-clause-fits c = subst AllFit (sym (edge c)) (edge_fits c.args.dim c.args.place (point c.args.a.now) (point c.args.b.now) c.requires.b_fits.1 c.requires.a_fits.1
    (subst FitsWhole (base c) c.difference.ensures.fits) (subst FitsWhole (speed c) c.difference-2.ensures.fits))
