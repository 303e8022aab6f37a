use Rattle.std.proofs.Common.{rules, ◌+◌}
use Rattle.std.proofs.lemmas.Result.{err_from_is_err_and}
use Rattle.wide_int.proofs.Turns.{next_all}
use Rattle.cayley.specs.Valid.{support_at}
use Rattle.cone_walls.specs.Workings.{FitsPoint, FitsSupport}
use Rattle.cone_walls.proofs.Pushing.{more_lines}
use Rattle.cone_walls.proofs.lines.push_other_lines.Goals as goal
use Rattle.inner_normal.proofs.Faults.{fault_other}

pub returns-in_err-push_line-clause-made : goal.returns-in_err-push_line-clause-made
returns-in_err-push_line-clause-made c =
    let m = c.args.normal.now in
    let s = support_at c.args.problem.now c.args.i in
    let e = err_from_is_err_and c.from_residual.result c.from_residual.ensures.1 in
    rw (e.1, e.2) (fault_other (FitsPoint m s c.args.pair.0 c.args.pair.1 (c.loop-index.index + 1)) (FitsSupport m s c.args.pair.0 c.args.pair.1) c.in_err-push_line.field-0.0 (λ n g. n (g (c.loop-index.index + 1))) c.in_err-push_line.ensures.made)

pub loop-index-preserved : goal.loop-index-preserved
loop-index-preserved c =
    let m = c.args.normal.now in
    let s = support_at c.args.problem.now c.args.i in
    let k = c.loop-index.index in
    let i = c.loop-index.invariant in
    let e = c.in_ok-push_line.ensures in
    record {
      made = more_lines m c.args.i s c.args.pair.0 c.args.pair.1 k c.loop-index.lines.items c.push_line.new.lines.items _ (search rules) i.made e.made.1;
      fits = next_all (FitsPoint m s c.args.pair.0 c.args.pair.1) k i.fits e.made.0;
      fit = e.fit;
    }
