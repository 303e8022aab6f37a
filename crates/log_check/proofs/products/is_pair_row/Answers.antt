use Rattle.std.proofs.Common.{◌≡◌, ◌+◌, ◌-◌, ◌<◌, ◌≤◌, ℕ, List, sym, ap, ap₂, subst, ◌∙◌, length, arith, FitsSigned, to_z-of_z}
use Rattle.std.specs.Int.{w128}
use Rattle.std.specs.Prelude.{slice_index_or}
use Rattle.std.proofs.Math.IntN.{ℤ}
use Rattle.int_vectors.specs.Vectors.{sub}
use Rattle.cayley.specs.Cells.{Cell, IsOf}
use Rattle.cayley.specs.Dependencies.{pair_at, nth_support}
use Rattle.cayley.specs.Problems.{Problem, point_at}
use Rattle.cayley.specs.Valid.{IsValidProblem}
use Rattle.cayley.proofs.OneCell.CellRows.{InRange}
use Rattle.inner_normal.proofs.Reading.{cell_long, pair_range}
use Rattle.path_trace.specs.Inverses.{pair_difference}
use Rattle.flip_rule.proofs.Pairs.{pair_is}
use Rattle.log_check.specs.Products.{AreRow, FitsRow, TellsRow}
use Rattle.log_check.proofs.products.is_pair_row.Goals as goal

pub bounds-pairs-i : goal.bounds-pairs-i
bounds-pairs-i c =
    let p = c.args.problem.now in
    let e = cell_long p.supports c.args.cell.now InRange c.requires.of in
    let n = c.dim-dim.ensures.valid.shape.problem.supports in
    let l = c.requires.place in
    subst (λ (x : Cell). c.args.i < length x) (sym c.pairs.ensures.same) (omega (arith, e, n, l))

range : (p : Problem) (cell : Cell) (i : ℕ) → IsValidProblem p → IsOf p cell → i < p.dimension → InRange (nth_support p.supports i) (pair_at cell i).0 (pair_at cell i).1
range p cell i valid of l =
    let e = cell_long p.supports cell InRange of in
    let n = valid.shape.problem.supports in
    pair_range p.supports cell i (omega (arith, e, n, l)) of

is_pair : (pairs cell : Cell) (i : ℕ) → pairs ≡ cell → slice_index_or pairs i (0, 0) ≡ pair_at cell i
is_pair pairs cell i same = ap (λ (x : Cell). slice_index_or x i (0, 0)) same ∙ pair_is cell i

pub coordinates_at-a-requires-clause-position : goal.coordinates_at-a-requires-clause-position
coordinates_at-a-requires-clause-position c =
    let r = range c.args.problem.now c.args.cell.now c.args.i c.dim-dim.ensures.valid c.requires.of c.requires.place in
    let z : c.args.i ≡ c.args.i + 1 - 1 = omega arith in
    subst (λ (k : ℕ). (1 ≤ (slice_index_or c.pairs.result.now c.args.i (0, 0)).0) × ((slice_index_or c.pairs.result.now c.args.i (0, 0)).0 ≤ length (nth_support c.args.problem.now.supports k))) z
    (subst (λ (x : ℕ × ℕ). (1 ≤ x.0) × (x.0 ≤ length (nth_support c.args.problem.now.supports c.args.i))) (sym (is_pair c.pairs.result.now c.args.cell.now c.args.i c.pairs.ensures.same)) (r.0, (let a = r.1 in let b = r.2 in omega (arith, a, b))))

pub coordinates_at-b-requires-clause-position : goal.coordinates_at-b-requires-clause-position
coordinates_at-b-requires-clause-position c =
    let r = range c.args.problem.now c.args.cell.now c.args.i c.dim-dim.ensures.valid c.requires.of c.requires.place in
    let z : c.args.i ≡ c.args.i + 1 - 1 = omega arith in
    subst (λ (k : ℕ). (1 ≤ (slice_index_or c.pairs.result.now c.args.i (0, 0)).1) × ((slice_index_or c.pairs.result.now c.args.i (0, 0)).1 ≤ length (nth_support c.args.problem.now.supports k))) z
    (subst (λ (x : ℕ × ℕ). (1 ≤ x.1) × (x.1 ≤ length (nth_support c.args.problem.now.supports c.args.i))) (sym (is_pair c.pairs.result.now c.args.cell.now c.args.i c.pairs.ensures.same)) ((let a = r.0 in let b = r.1 in omega (arith, a, b)), r.2))

pub returns : goal.returns
returns c =
    let f : FitsSigned w128 c.args.g = c.ranges.g in
    let p = c.args.problem.now in
    let cols = c.args.columns.now in
    let z : c.args.i + 1 - 1 ≡ c.args.i = omega arith in
    let a = c.coordinates_at-a.ensures.same ∙ ap₂ (λ (k : ℕ) (x : ℕ × ℕ). (point_at (nth_support p.supports k) x.0).coordinates) z (is_pair c.pairs.result.now c.args.cell.now c.args.i c.pairs.ensures.same) in
    let b = c.coordinates_at-b.ensures.same ∙ ap₂ (λ (k : ℕ) (x : ℕ × ℕ). (point_at (nth_support p.supports k) x.1).coordinates) z (is_pair c.pairs.result.now c.args.cell.now c.args.i c.pairs.ensures.same) in
    let d : sub c.coordinates_at-b.result.now c.coordinates_at-a.result.now ≡ pair_difference p c.args.cell.now c.args.i = ap₂ sub b a in
    subst (λ (v : List ℤ). TellsRow c.is_row.result (FitsRow v cols (length cols)) (AreRow c.args.g c.args.i v cols (length cols))) d (simp to_z-of_z at c.is_row.ensures)
