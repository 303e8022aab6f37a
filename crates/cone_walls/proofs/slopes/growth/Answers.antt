use Rattle.std.proofs.Common.{◌-ℤ◌, FitsSigned, to_z-of_z, ◌∙◌, ap₂}
use Rattle.std.specs.Int.{w64}
use Rattle.cayley.specs.Stored.{point}
use Rattle.cone_walls.proofs.Drifts.{growth_is, growth_fits}
use Rattle.cone_walls.proofs.slopes.growth.Goals as goal

pub overflow_sub-result : goal.overflow_sub-result
overflow_sub-result c =
    let fa : FitsSigned w64 c.args.from = c.ranges.from in
    let fb : FitsSigned w64 c.args.to = c.ranges.to in
    simp to_z-of_z (growth_fits c.args.normal.now (point c.args.a.now) (point c.args.c.now) c.args.from c.args.to c.requires.narrow c.requires.from c.requires.to)

pub returns : goal.returns
returns c =
    let fa : FitsSigned w64 c.args.from = c.ranges.from in
    let fb : FitsSigned w64 c.args.to = c.ranges.to in
    let fd : FitsSigned w64 (c.args.to -ℤ c.args.from) = growth_fits c.args.normal.now (point c.args.a.now) (point c.args.c.now) c.args.from c.args.to c.requires.narrow c.requires.from c.requires.to in
    simp to_z-of_z (ap₂ ◌-ℤ◌ c.requires.to c.requires.from ∙ growth_is c.args.normal.now (point c.args.a.now) (point c.args.c.now))
