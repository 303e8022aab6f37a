use Rattle.std.proofs.Common.{◌≡◌, ◌-◌, ◌<◌, ◌≤◌, sym, ap, subst, ◌∙◌, length, arith, List, ℕ}
use Rattle.std.specs.Prelude.{slice_index_or}
use Rattle.cayley.specs.Dependencies.{pair_at, nth_support}
use Rattle.cayley.proofs.OneCell.CellRows.{InRange}
use Rattle.inner_normal.proofs.Reading.{cell_long, pair_read, pair_range}
use Rattle.inner_normal.proofs.further.first_of.Goals as goal

pub bounds-pairs-support : goal.bounds-pairs-support
bounds-pairs-support c =
    let k = cell_long c.args.problem.now.supports c.args.cell.now InRange c.requires.cell in
    let n = c.dim-dim.ensures.valid.shape.problem.supports in
    let a = c.requires.support.0 in
    let b = c.requires.support.1 in
    let e = ap length c.pairs.ensures.same in
    omega (arith, k, n, a, b, e)

-- the place is below the cell's length, and what stands there
pair_is : (c : goal.After-pairs) → (c.args.support - 1 < length c.args.cell.now) × (slice_index_or c.pairs.result.now (c.args.support - 1) (0, 0) ≡ pair_at c.args.cell.now (c.args.support - 1))
pair_is c =
    let k = cell_long c.args.problem.now.supports c.args.cell.now InRange c.requires.cell in
    let n = c.dim-dim.ensures.valid.shape.problem.supports in
    let a = c.requires.support.0 in
    let b = c.requires.support.1 in
    let l : c.args.support - 1 < length c.args.cell.now = omega (arith, k, n, a, b) in
    (l, ap (λ (cell : List (ℕ × ℕ)). slice_index_or cell (c.args.support - 1) (0, 0)) c.pairs.ensures.same ∙ pair_read c.args.cell.now (c.args.support - 1) (0, 0) l)

pub returns-clause-same : goal.returns-clause-same
returns-clause-same c = ap (λ (x : ℕ × ℕ). x.0) (pair_is c).1

pub returns-clause-place : goal.returns-clause-place
returns-clause-place c =
    let p = pair_is c in
    let r = pair_range c.args.problem.now.supports c.args.cell.now (c.args.support - 1) p.0 c.requires.cell in
    subst (λ (x : ℕ × ℕ). (1 ≤ x.0) × (x.0 ≤ length (nth_support c.args.problem.now.supports (c.args.support - 1)))) (sym p.1) (r.0, (let lt = r.1 in let le = r.2 in omega (arith, lt, le)))
