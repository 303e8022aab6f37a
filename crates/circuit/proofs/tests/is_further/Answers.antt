use Rattle.std.proofs.Common.{rules, ◌≡◌, ◌-◌, ◌<◌, ◌≤◌, sym, ap, ◌∙◌, length, arith, List, ℕ, not, nat_eq}
use Rattle.std.specs.Prelude.{slice_index_or, IsTrue}
use Rattle.cayley.specs.Problems.{Point}
use Rattle.cayley.specs.Cells.{IsOf}
use Rattle.cayley.proofs.OneCell.CellRows.{InRange}
use Rattle.inner_normal.proofs.Reading.{cell_long, pair_read, support_read}
use Rattle.circuit.proofs.tests.is_further.Goals as goal

pub bounds-pairs-support : goal.bounds-pairs-support
bounds-pairs-support c =
    let of : IsOf c.args.problem.now c.args.cell.now = search rules in
    let k = cell_long c.args.problem.now.supports c.args.cell.now InRange of in
    let n = c.dim.ensures.valid.shape.problem.supports in
    let a : 1 ≤ c.args.support = search rules in
    let b : c.args.support ≤ c.args.problem.now.dimension = (let e = c.dim.ensures.value in let t : ¬ (c.dim.result < c.args.support) = search rules in omega (arith, e, t)) in
    let e = ap length c.pairs.ensures.same in
    omega (arith, k, n, a, b, e)

pub returns-clause-point : goal.returns-clause-point
returns-clause-point c =
    let of : IsOf c.args.problem.now c.args.cell.now = search rules in
    let k = cell_long c.args.problem.now.supports c.args.cell.now InRange of in
    let n = c.dim.ensures.valid.shape.problem.supports in
    let a : 1 ≤ c.args.support = search rules in
    let b : c.args.support ≤ c.args.problem.now.dimension = (let e = c.dim.ensures.value in let t : ¬ (c.dim.result < c.args.support) = search rules in omega (arith, e, t)) in
    let l : c.args.support - 1 < length c.args.cell.now = omega (arith, k, n, a, b) in
    let p = ap (λ (cell : List (ℕ × ℕ)). slice_index_or cell (c.args.support - 1) (0, 0)) c.pairs.ensures.same ∙ pair_read c.args.cell.now (c.args.support - 1) (0, 0) l in
    let least : 1 ≤ c.args.position = search rules in
    let s = ap (λ (s : List Point). length s) (support_read c.args.problem.now.supports (c.args.support - 1)) in
    let most : ¬ (c.count.result < c.args.position) = search rules in
    let first : ¬ (c.args.position ≡ (slice_index_or c.pairs.result.now (c.args.support - 1) (0, 0)).0) = search rules in
    let count = c.count.ensures in
    let second : IsTrue (not (nat_eq c.args.position (slice_index_or c.pairs.result.now (c.args.support - 1) (0, 0)).1)) → ¬ (c.args.position ≡ (slice_index_or c.pairs.result.now (c.args.support - 1) (0, 0)).1) = search rules in
    λ t. (a, b, (least, omega (arith, s, most, count), (λ e. first (e ∙ sym (ap (λ (x : ℕ × ℕ). x.0) p))), (λ e. second t (e ∙ sym (ap (λ (x : ℕ × ℕ). x.1) p)))))
