use Rattle.std.proofs.Common.{◌≤◌, length, arith, ap}
use Rattle.std.proofs.lemmas.Result.{err_from_is_err_and}
use Rattle.cone_walls.specs.Workings.{FitsWalls}
use Rattle.cone_walls.proofs.Pushing.{pair_within, support_inside, support_not, support_more, more_supports, no_supports, last_support}
use Rattle.cone_walls.proofs.lines.lines_within.Goals as goal
use Rattle.inner_normal.proofs.Faults.{fault_other}

pub push_lines-requires-clause-greatest : goal.push_lines-requires-clause-greatest
push_lines-requires-clause-greatest c =
    support_inside c.args.problem.now c.args.cell.now c.pairs-pair-items.result.now c.pairs-pair-items.ensures.same c.requires.of c.loop-i.i c.loop-i-test.true c.dim-dim.ensures.valid

pub push_lines-requires-clause-pair : goal.push_lines-requires-clause-pair
push_lines-requires-clause-pair c =
    pair_within c.args.normal.now c.args.problem.now c.args.cell.now c.pairs-pair-items.result.now c.pairs-pair-items.ensures.same c.requires.of c.loop-i.i c.loop-i-test.true

pub returns-in_err-push_lines-clause-made : goal.returns-in_err-push_lines-clause-made
returns-in_err-push_lines-clause-made c =
    let e = err_from_is_err_and c.from_residual-in_err-push_lines.result c.from_residual-in_err-push_lines.ensures.1 in
    rw (e.1, e.2) (fault_other _ (FitsWalls c.args.problem.now c.args.cell.now c.args.normal.now) c.in_err-push_lines.field-0.0 (λ n g. n ((support_not c.args.normal.now c.args.problem.now c.args.cell.now c.pairs-pair-items.result.now c.pairs-pair-items.ensures.same c.requires.of c.loop-i.i c.loop-i-test.true c.loop-i.invariant.fits) g)) c.in_err-push_lines.ensures.made)

pub loop-i-preserved : goal.loop-i-preserved
loop-i-preserved c =
    let m = c.args.normal.now in
    let p = c.args.problem.now in
    let cell = c.args.cell.now in
    let pairs = c.pairs-pair-items.result.now in
    let same = c.pairs-pair-items.ensures.same in
    let k = c.loop-i.i in
    let i = c.loop-i.invariant in
    let e = c.in_ok-push_lines.ensures in
    record {
      made = more_supports m p cell pairs same c.requires.of k c.loop-i-test.true c.loop-i.lines.items c.push_lines.new.lines.items _ i.made e.made.1;
      fits = support_more m p cell pairs same c.requires.of k c.loop-i-test.true i.fits e.made.0;
      fit = e.fit;
    }

pub returns-clause-made : goal.returns-clause-made
returns-clause-made c =
    let e = ap length c.pairs-pair-items.ensures.same in
    let n : length c.args.cell.now ≤ c.loop-i.i = omega (arith, e) in (
      no_supports c.args.normal.now c.args.problem.now c.args.cell.now c.loop-i.i c.requires.of n c.loop-i.invariant.fits,
      last_support c.args.normal.now c.args.problem.now c.args.cell.now c.loop-i.i c.loop-i.lines.items _ c.requires.of n c.loop-i.invariant.made,
    )
