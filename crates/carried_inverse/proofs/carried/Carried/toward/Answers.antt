use Rattle.std.proofs.Common.{rules, ◌≡◌, ◌<◌, ◌+◌, ◌∙◌, IsTrue, take, slice_index_or, length, ap, subst, sym, arith}
use Rattle.cayley.specs.Cells.{Cell}
use Rattle.cayley.specs.Dependencies.{nth_support}
use Rattle.cayley.specs.Flips.{put_pair}
use Rattle.cayley.proofs.OneCell.CellRows.{InRange}
use Rattle.inner_normal.proofs.Reading.{cell_long}
use Rattle.carried_inverse.proofs.CellMoves.{at_place, put_more, same_end}
use Rattle.carried_inverse.proofs.carried.Carried.toward.Goals as goal
use Rattle.carried_inverse.proofs.carried.Carried.toward.Goals.{then-not-put_pair, else-not-put_pair}

pub put_pair-requires-clause-place : goal.put_pair-requires-clause-place
put_pair-requires-clause-place c =
    let a = cell_long c.args.problem.now.supports c.args.cell.now InRange c.requires.to in
    let e = ap length c.pairs-pair-items.ensures.same in
    let n = c.dim-dim.ensures.valid.shape.problem.supports in
    let t = c.loop-i-test.true in
    omega (arith, a, e, n, t)

pub put_pair-requires-clause-pair : goal.put_pair-requires-clause-pair
put_pair-requires-clause-pair c =
    let t = c.loop-i-test.true in
    let e = ap length c.pairs-pair-items.ensures.same in
    let lt : c.loop-i.i < length c.args.cell.now = omega (arith, e, t) in
    subst (λ (l : Cell). InRange (nth_support c.args.problem.now.supports c.loop-i.i) (slice_index_or l c.loop-i.i (0, 0)).0 (slice_index_or l c.loop-i.i (0, 0)).1) (sym c.pairs-pair-items.ensures.same)
    (at_place c.args.problem.now.supports c.args.cell.now c.loop-i.i c.requires.to lt)

pub loop-i-preserved : goal.loop-i-preserved
loop-i-preserved c =
    let a = cell_long c.args.problem.now.supports c.args.cell.now InRange c.requires.to in
    let b = cell_long c.args.problem.now.supports c.loop-i.at InRange c.loop-i.invariant.of in
    let e = ap length c.pairs-pair-items.ensures.same in
    let t = c.loop-i-test.true in
    let la : c.loop-i.i < length c.loop-i.at = omega (arith, a, b, e, t) in
    let lc : c.loop-i.i < length c.args.cell.now = omega (arith, e, t) in
    record {
      of = c.put_pair.ensures.of;
      inverse = c.put_pair.ensures.inverse;
      row = c.put_pair.ensures.row ∙ c.loop-i.invariant.row;
      same = elim c.if-not-put_pair.branch [
        | then-not-put_pair w ↦ search (rules, w.reached-is)
        | else-not-put_pair w ↦ (λ t.
            let r : IsTrue c.loop-i.reached = search (rules, w.reached-is, t) in
            let p : IsTrue c.put_pair.result = search rules in
            ap (λ (l : Cell). take (c.loop-i.i + 1) l) (c.put_pair.ensures.made p)
            ∙ subst (λ (l : Cell). take (c.loop-i.i + 1) (put_pair c.loop-i.at c.loop-i.i (slice_index_or l c.loop-i.i (0, 0))) ≡ take (c.loop-i.i + 1) c.args.cell.now) (sym c.pairs-pair-items.ensures.same)
            (put_more c.loop-i.at c.args.cell.now c.loop-i.i la lc (c.loop-i.invariant.same r)))
      ];
    }

pub returns-clause-same : goal.returns-clause-same
returns-clause-same c =
    let a = cell_long c.args.problem.now.supports c.args.cell.now InRange c.requires.to in
    let b = cell_long c.args.problem.now.supports c.loop-i.at InRange c.loop-i.invariant.of in
    let e = ap length c.pairs-pair-items.ensures.same in
    let n = c.loop-i-test.false in
    λ t. same_end c.loop-i.at c.args.cell.now c.loop-i.i (omega (arith, a, b)) (omega (arith, e, n)) (c.loop-i.invariant.same t)
