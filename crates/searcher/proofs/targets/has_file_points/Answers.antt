use Rattle.std.proofs.Common.{rules, true≢false, ◌≤◌, ◌<◌, length, slice_index_or, arith, refl, sym, ap, subst}
use Rattle.cayley.specs.Cells.{Cell}
use Rattle.cayley.proofs.OneCell.CellRows.{InRange}
use Rattle.cayley.proofs.Lists.Pairs.{pairs_long}
use Rattle.searcher.proofs.FileCells.{file_cell, below_files}
use Rattle.searcher.proofs.FileTargets.{files_long}
use Rattle.searcher.proofs.targets.has_file_points.Goals as goal

pub loop-place-init : goal.loop-place-init
loop-place-init c =
    let q = ap length c.pairs-pairs.ensures.same in
    let a = pairs_long c.args.problem.now.supports c.args.cell.now InRange c.requires in
    let e = c.dim-dim.ensures.valid.shape.problem.supports in
    (c.pairs-pairs.ensures.same, refl, omega (arith, q, a, e), λ j l. absurd (omega (arith, l)))

pub returns-then-not-is_file_point : goal.returns-then-not-is_file_point
returns-then-not-is_file_point c = (
  (λ t. absurd (true≢false (sym t))),
  (λ h.
      let q = c.pairs-pairs.ensures.same in
      let k = ap length q in
      let l : c.loop-place.place < length c.pairs-pairs.result.now = search rules in
      let b : (slice_index_or c.pairs-pairs.result.now c.loop-place.place (0, 0)).1 ≤ slice_index_or c.args.problem.now.files c.loop-place.place 0 =
      subst (λ (z : Cell). (slice_index_or z c.loop-place.place (0, 0)).1 ≤ slice_index_or c.args.problem.now.files c.loop-place.place 0) (sym q)
      (below_files c.args.problem.now c.args.cell.now h c.loop-place.place (omega (arith, k, l))) in
      search (rules, b)),
)

pub returns : goal.returns
returns c =
    let q = c.pairs-pairs.ensures.same in
    let k = ap length q in
    let f : length c.pairs-pairs.result.now ≤ c.loop-place.place = search rules in (
      (λ t. file_cell c.args.problem.now c.args.cell.now (files_long c.args.problem.now c.dim-dim.ensures.valid) c.requires
          (λ j l. subst (λ (z : Cell). (slice_index_or z j (0, 0)).1 ≤ slice_index_or c.args.problem.now.files j 0) q (c.loop-place.invariant.3 j (omega (arith, f, k, l))))),
      (λ h. refl),
    )
