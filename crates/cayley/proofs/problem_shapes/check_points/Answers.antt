use Rattle.std.proofs.Common.{◌+◌}
use Rattle.std.proofs.lemmas.Result.{err_from_is_err_and}
use Rattle.cayley.specs.Stored.{unranked_of}
use Rattle.cayley.proofs.Refusals.FileFaults.{more_sound, first_fault}
use Rattle.cayley.proofs.Refusals.ProblemFaults.{IsFaultyPlace, IsOutsidePlace, fault_here, sound_here, sound_past}
use Rattle.cayley.proofs.problem_shapes.check_points.Goals as goal

pub returns-in_err-check_support : goal.returns-in_err-check_support
returns-in_err-check_support c =
    let p = err_from_is_err_and c.from_residual.result c.from_residual.ensures.1 in
    rw (p.1, p.2) (first_fault (IsFaultyPlace (unranked_of c.args.dim c.args.supports.now)) (IsOutsidePlace (unranked_of c.args.dim c.args.supports.now)) c.loop-k.k c.loop-k.invariant
    c.in_err-check_support.field-0.0
    (fault_here c.args.dim c.args.supports.now c.loop-k.k c.index-supports-k.result c.index-supports-k.is c.loop-k-test.true (c.loop-k.k + 1) c.in_err-check_support.field-0.0
    c.in_err-check_support.ensures))

pub loop-k-preserved : goal.loop-k-preserved
loop-k-preserved c =
    more_sound (IsFaultyPlace (unranked_of c.args.dim c.args.supports.now)) (IsOutsidePlace (unranked_of c.args.dim c.args.supports.now)) c.loop-k.k c.loop-k.invariant
    (sound_here c.args.dim c.args.supports.now c.loop-k.k c.index-supports-k.result c.index-supports-k.is c.loop-k-test.true c.in_ok-check_support.ensures)

pub returns : goal.returns
returns c = sound_past c.args.dim c.args.supports.now c.loop-k.k c.loop-k-test.false c.loop-k.invariant
