use Rattle.std.proofs.Common.{rules, ◌+◌, ◌++◌, List, length, subst, refl, ◌<◌, ◌≤◌}
use Rattle.cayley.specs.Valid.{support_at}
use Rattle.crossing.specs.declared.line.WallLine.{WallLine}
use Rattle.cone_walls.specs.Fronts.{IsFront}
use Rattle.cone_walls.specs.Listed.{one_line, support_lines}
use Rattle.cayley.specs.Stored.{point}
use Rattle.cone_walls.proofs.Drifts.{narrow_drift}
use Rattle.cone_walls.proofs.Pushing.{more_lines, last_line}
use Rattle.cone_walls.proofs.passing.passed_all.Goals as goal

pub drift_of-drift-requires : goal.drift_of-drift-requires
drift_of-drift-requires c =
    let r = c.requires in
    narrow_drift c.args.problem.now c.point-a.ensures.valid c.args.normal.now r.p_long r.q_long r.room c.args.i r.least r.greatest c.args.pair.0 r.pair (point c.point-a.result.now) c.point-a.ensures.value

pub loop-index-init : goal.loop-index-init
loop-index-init c = record {
  falls = c.requires.falls;
  front = λ lines h. (lines, h, refl);
}

pub loop-index-preserved : goal.loop-index-preserved
loop-index-preserved c =
    let m = c.args.normal.now in
    let s = support_at c.args.problem.now c.args.i in
    let lt : c.loop-index.index < length (support_at c.args.problem.now c.args.i) = search rules in
    record {
      falls = c.passed.ensures.falls;
      front = λ lines h.
          let b = c.loop-index.invariant.front lines h in (
            b.0 ++ one_line m c.args.i s c.args.pair.0 c.args.pair.1 (c.loop-index.index + 1),
            c.passed.ensures.front b.0 b.1,
            more_lines m c.args.i s c.args.pair.0 c.args.pair.1 c.loop-index.index b.0 (b.0 ++ one_line m c.args.i s c.args.pair.0 c.args.pair.1 (c.loop-index.index + 1)) (lines ++ support_lines m c.args.i s c.args.pair.0 c.args.pair.1) lt b.2 refl,
          );
    }

pub returns-clause-front : goal.returns-clause-front
returns-clause-front c =
    let m = c.args.normal.now in
    let s = support_at c.args.problem.now c.args.i in
    let le : length (support_at c.args.problem.now c.args.i) ≤ c.loop-index.index = search rules in
    λ lines h.
    let b = c.loop-index.invariant.front lines h in
    subst (λ (ls : List WallLine). IsFront ls c.loop-index.front) (last_line m c.args.i s c.args.pair.0 c.args.pair.1 c.loop-index.index b.0 (lines ++ support_lines m c.args.i s c.args.pair.0 c.args.pair.1) le b.2) b.1
