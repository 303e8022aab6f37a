use Rattle.std.proofs.Common.{rules, ◌≤◌, ◌+◌, refl, length, FitsSigned, to_z, to_z-of_z, arith}
use Rattle.std.specs.Int.{w64}
use Rattle.carried_inverse.specs.Exchanges.{combined}
use Rattle.carried_inverse.proofs.DividedColumns.{divided_then, divided_all}
use Rattle.carried_inverse.proofs.combining.combine_lowest.Goals as goal

pub loop-k-init : goal.loop-k-init
unfolding combined
loop-k-init c =
    let fs : FitsSigned w64 c.args.start = c.ranges.start in
    let fp : FitsSigned w64 c.args.pivot = c.ranges.pivot in
    let fg : FitsSigned w64 c.divisor_along-g.result = search rules in
    let d = simp to_z-of_z at c.divisor_along-g.ensures in
    simp to_z-of_z (record {
      divided = record { positive = d.positive; divides = d.divides; greatest = d.greatest; front = refl };
      count = c.requires.made_count;
      long = c.requires.made_long;
    })

pub loop-k-preserved : goal.loop-k-preserved
loop-k-preserved c =
    let fs : FitsSigned w64 c.args.start = c.ranges.start in
    let fp : FitsSigned w64 c.args.pivot = c.ranges.pivot in
    let fg : FitsSigned w64 c.in_ok-g.g = search rules in
    let v = simp to_z-of_z at c.loop-k.invariant in
    let w = simp to_z-of_z at c.in_ok-g.ensures.value in
    simp to_z-of_z (record {
      divided = divided_then c.loop-k.k (c.loop-k.k + 1) c.args.start (to_z w64 c.loop-k.g-bits) c.in_ok-g.g c.args.pivot c.args.shares.now c.args.columns.now c.args.by.now c.loop-k.made.items c.put_column.new.made.items v.divided w;
      count = c.in_ok-g.ensures.count;
      long = c.in_ok-g.ensures.long;
    })

pub returns-clause-value : goal.returns-clause-value
returns-clause-value c =
    let fs : FitsSigned w64 c.args.start = c.ranges.start in
    let fp : FitsSigned w64 c.args.pivot = c.ranges.pivot in
    let v = simp to_z-of_z at c.loop-k.invariant in
    let g = to_z w64 c.loop-k.g-bits in
    let le : length c.args.columns.now ≤ c.loop-k.k = omega arith in
    let a = divided_all c.loop-k.k c.args.start g c.args.pivot c.args.shares.now c.args.columns.now c.args.by.now c.loop-k.made.items v.divided c.requires.count v.count le in
    let d = v.divided in
    (d.positive, a.0, a.1)
