use Rattle.std.proofs.Common.{[], ◌∷◌, ◌∙◌, arith, sym, subst}
use Rattle.std.specs.Prelude.{All}
use Rattle.std.proofs.lemmas.List.Elements.{All-append}
use Rattle.cayley.specs.Stored.{point}
use Rattle.cayley.proofs.Lists.Reaching.{near_narrow}
use Rattle.crossing.specs.Lines.{FitsLine}
use Rattle.cone_walls.proofs.Pushing.{all_one}
use Rattle.cone_walls.proofs.ProblemPoints.{near_point}
use Rattle.cone_walls.proofs.RoomAround.{high_point, point_within, room_at, fast_point, fast_between}
use Rattle.cone_walls.proofs.lines.push_line.Goals as goal

pub line-requires-clause-p_lengths : goal.line-requires-clause-p_lengths
line-requires-clause-p_lengths c =
    let r = c.requires in
    let p = c.args.problem.now in
    let a = near_point p c.point-a.ensures.valid c.args.i c.args.pair.0 r.least r.greatest r.pair.0 r.pair.1 (point c.point-a.result.now) c.point-a.ensures.value in
    let x = near_point p c.point-c.ensures.valid c.args.i c.args.position r.least r.greatest r.position.0 r.position.1 (point c.point-c.result.now) c.point-c.ensures.value in
    (a.0 ∙ sym r.p_long, x.0 ∙ sym r.p_long)

pub line-requires-clause-q_lengths : goal.line-requires-clause-q_lengths
line-requires-clause-q_lengths c =
    let r = c.requires in
    let p = c.args.problem.now in
    let a = near_point p c.point-a.ensures.valid c.args.i c.args.pair.0 r.least r.greatest r.pair.0 r.pair.1 (point c.point-a.result.now) c.point-a.ensures.value in
    let x = near_point p c.point-c.ensures.valid c.args.i c.args.position r.least r.greatest r.position.0 r.position.1 (point c.point-c.result.now) c.point-c.ensures.value in
    (a.0 ∙ sym r.q_long, x.0 ∙ sym r.q_long)

pub line-requires-clause-a_small : goal.line-requires-clause-a_small
line-requires-clause-a_small c =
    let r = c.requires in
    near_narrow _ (near_point c.args.problem.now c.point-a.ensures.valid c.args.i c.args.pair.0 r.least r.greatest r.pair.0 r.pair.1 (point c.point-a.result.now) c.point-a.ensures.value).1

pub line-requires-clause-c_small : goal.line-requires-clause-c_small
line-requires-clause-c_small c =
    let r = c.requires in
    near_narrow _ (near_point c.args.problem.now c.point-c.ensures.valid c.args.i c.args.position r.least r.greatest r.position.0 r.position.1 (point c.point-c.result.now) c.point-c.ensures.value).1

pub returns-clause-fit : goal.returns-clause-fit
returns-clause-fit c =
    subst (All FitsLine) (sym c.in_ok-push.ensures.items)
    (All-append FitsLine c.args.lines.now.items (c.in-Some.made ∷ []) c.requires.fit (all_one FitsLine c.in-Some.made c.in-Some.ensures.fits))

pub line-requires-clause-a_high : goal.line-requires-clause-a_high
line-requires-clause-a_high c =
    let r = c.requires in
    high_point c.args.problem.now c.point-a.ensures.valid c.args.i c.args.pair.0 r.least r.greatest r.pair.0 r.pair.1 (point c.point-a.result.now) c.point-a.ensures.value

pub line-requires-clause-c_high : goal.line-requires-clause-c_high
line-requires-clause-c_high c =
    let r = c.requires in
    high_point c.args.problem.now c.point-c.ensures.valid c.args.i c.args.position r.least r.greatest r.position.0 r.position.1 (point c.point-c.result.now) c.point-c.ensures.value

pub line-requires-clause-room : goal.line-requires-clause-room
line-requires-clause-room c =
    let r = c.requires in
    let p = c.args.problem.now in
    let m = c.args.normal.now in
    let a = near_point p c.point-a.ensures.valid c.args.i c.args.pair.0 r.least r.greatest r.pair.0 r.pair.1 (point c.point-a.result.now) c.point-a.ensures.value in
    let x = near_point p c.point-c.ensures.valid c.args.i c.args.position r.least r.greatest r.position.0 r.position.1 (point c.point-c.result.now) c.point-c.ensures.value in
    let n = c.point-a.ensures.valid.shape.dimension in
    room_at p m c.args.room.now (point c.point-a.result.now) (point c.point-c.result.now) r.room (a.0 ∙ sym r.p_long) (x.0 ∙ sym r.p_long) (r.q_long ∙ sym r.p_long) (omega (arith, r.p_long, n)) a.1 x.1
    (high_point c.args.problem.now c.point-a.ensures.valid c.args.i c.args.pair.0 r.least r.greatest r.pair.0 r.pair.1 (point c.point-a.result.now) c.point-a.ensures.value)
    (high_point c.args.problem.now c.point-c.ensures.valid c.args.i c.args.position r.least r.greatest r.position.0 r.position.1 (point c.point-c.result.now) c.point-c.ensures.value)
    (fast_between (point c.point-c.result.now).speed (point c.point-a.result.now).speed (fast_point c.args.problem.now c.point-c.ensures.valid c.args.i c.args.position r.least r.greatest r.position.0 r.position.1 (point c.point-c.result.now) c.point-c.ensures.value) (fast_point c.args.problem.now c.point-a.ensures.valid c.args.i c.args.pair.0 r.least r.greatest r.pair.0 r.pair.1 (point c.point-a.result.now) c.point-a.ensures.value))
    (λ k near. (
      point_within p c.point-a.ensures.valid c.args.i c.args.pair.0 r.least r.greatest r.pair.0 r.pair.1 (point c.point-a.result.now) c.point-a.ensures.value k near,
      point_within p c.point-c.ensures.valid c.args.i c.args.position r.least r.greatest r.position.0 r.position.1 (point c.point-c.result.now) c.point-c.ensures.value k near,
    ))

pub line-requires-clause-a_fast : goal.line-requires-clause-a_fast
line-requires-clause-a_fast c =
    let r = c.requires in
    fast_point c.args.problem.now c.point-a.ensures.valid c.args.i c.args.pair.0 r.least r.greatest r.pair.0 r.pair.1 (point c.point-a.result.now) c.point-a.ensures.value

pub line-requires-clause-c_fast : goal.line-requires-clause-c_fast
line-requires-clause-c_fast c =
    let r = c.requires in
    fast_point c.args.problem.now c.point-c.ensures.valid c.args.i c.args.position r.least r.greatest r.position.0 r.position.1 (point c.point-c.result.now) c.point-c.ensures.value
