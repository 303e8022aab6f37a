use Rattle.std.proofs.Common.{arith}
use Rattle.cell_bound.proofs.Spreads.{range_around}
use Rattle.cell_bound.proofs.ranges.range_of.Goals as goal

pub returns : goal.returns
returns c =
    let a = c.in_ok-twice.ensures.1 in
    let b = c.in_ok-other.ensures.1 in
    let x = c.greater-front.ensures.b in
    let y = c.greater-further.ensures.b in (
      c.greater-front.ensures.a,
      c.greater-further.ensures.a,
      range_around c.args.problem.now c.dim-dim.ensures.valid c.args.i c.requires.least c.requires.greatest c.in_ok-own.own.front c.in_ok-own.own.further c.greater-front.result c.greater-further.result
          c.middle-position.result c.middle-position.ensures.0 c.middle-position.ensures.1 c.in_ok-own.ensures (omega (arith, a, x)) (omega (arith, b, y)),
    )
