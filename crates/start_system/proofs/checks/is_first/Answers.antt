use Rattle.std.proofs.Common.{rules, ◌∙◌, sym, arith, FitsSigned, w64}
use Rattle.std.proofs.Math.Facts.{to_z-of_z}
use Rattle.cayley.specs.Paths.{least_coordinates}
use Rattle.start_system.specs.Corners.{points_at}
use Rattle.start_system.proofs.Judging.Supports.{support_of}
use Rattle.start_system.proofs.Making.Entries.{all_equal}
use Rattle.start_system.proofs.Making.Least.{least_long}
use Rattle.start_system.proofs.checks.is_first.Goals as goal

pub returns : goal.returns
returns c =
    let p = c.args.problem.now in
    let points = points_at p c.args.i in
    let h = support_of p c.requires.valid c.args.i c.requires.least c.requires.greatest in
    let l = c.requires.length in
    let e = c.dim-k-end.ensures.value in
    let n = c.loop-k-test.false in
    let g : FitsSigned w64 c.args.corner.now.base = search rules in
    let z = simp to_z-of_z at c.is_zero.ensures in
    (λ t. (all_equal c.args.corner.now.coords (least_coordinates points) (l ∙ sym (least_long p.dimension points h.points)) (λ j b. c.loop-k.invariant j (omega (arith, e, n, b, l))), z.0 t), λ w. z.1 w.1)
