use Rattle.std.proofs.Common.{◌+◌, ◌++◌, List, [], length, get_or, subst, refl, arith, ap, ◌≤◌}
use Rattle.cayley.specs.Valid.{support_at}
use Rattle.crossing.specs.declared.line.WallLine.{WallLine}
use Rattle.cone_walls.specs.Fronts.{IsFront}
use Rattle.cone_walls.specs.Listed.{support_lines}
use Rattle.cone_walls.proofs.Pushing.{pair_within, support_inside, more_supports, last_support}
use Rattle.cone_walls.proofs.passing.front_of.Goals as goal

pub passed_all-requires-clause-greatest : goal.passed_all-requires-clause-greatest
passed_all-requires-clause-greatest c =
    support_inside c.args.problem.now c.args.cell.now c.pairs-pair-items.result.now c.pairs-pair-items.ensures.same c.requires.of c.loop-i.i c.loop-i-test.true c.dim-dim.ensures.valid

pub passed_all-requires-clause-pair : goal.passed_all-requires-clause-pair
passed_all-requires-clause-pair c =
    pair_within c.args.normal.now c.args.problem.now c.args.cell.now c.pairs-pair-items.result.now c.pairs-pair-items.ensures.same c.requires.of c.loop-i.i c.loop-i-test.true

pub loop-i-init : goal.loop-i-init
loop-i-init c = record {
  falls = tt;
  front = ([], (λ k lt. absurd (omega (arith, lt))), refl);
}

pub loop-i-preserved : goal.loop-i-preserved
loop-i-preserved c =
    let m = c.args.normal.now in
    let p = c.args.problem.now in
    let pairs = c.pairs-pair-items.result.now in
    let k = c.loop-i.i in
    let b = c.loop-i.invariant.front in
    let here = support_lines m (k + 1) (support_at p (k + 1)) (get_or pairs k (0, 0)).0 (get_or pairs k (0, 0)).1 in
    record {
      falls = c.passed_all.ensures.falls;
      front = (
        b.0 ++ here,
        c.passed_all.ensures.front b.0 b.1,
        more_supports m p c.args.cell.now pairs c.pairs-pair-items.ensures.same c.requires.of k c.loop-i-test.true b.0 (b.0 ++ here) _ b.2 refl,
      );
    }

pub returns-clause-front : goal.returns-clause-front
returns-clause-front c =
    let e = ap length c.pairs-pair-items.ensures.same in
    let n : length c.args.cell.now ≤ c.loop-i.i = omega (arith, e) in
    let b = c.loop-i.invariant.front in
    subst (λ (ls : List WallLine). IsFront ls c.loop-i.leading) (last_support c.args.normal.now c.args.problem.now c.args.cell.now c.loop-i.i b.0 _ c.requires.of n b.2) b.1
