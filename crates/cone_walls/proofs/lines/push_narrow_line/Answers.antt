use Rattle.std.proofs.Common.{[], ◌∷◌, ◌∙◌, arith, sym, subst}
use Rattle.std.specs.Prelude.{All}
use Rattle.std.proofs.lemmas.List.Elements.{All-append}
use Rattle.cayley.specs.Stored.{point}
use Rattle.cayley.proofs.Lists.Reaching.{near_narrow}
use Rattle.crossing.specs.Lines.{FitsLine}
use Rattle.cone_walls.proofs.Pushing.{all_one}
use Rattle.cone_walls.proofs.ProblemPoints.{near_point}
use Rattle.cone_walls.proofs.RoomAround.{high_point, point_within, narrow_at, fast_point, fast_between}
use Rattle.cone_walls.proofs.lines.push_narrow_line.Goals as goal

pub narrow_line_of-made-requires-clause-p_lengths : goal.narrow_line_of-made-requires-clause-p_lengths
narrow_line_of-made-requires-clause-p_lengths c =
    let r = c.requires in
    ((near_point c.args.problem.now c.point-c.ensures.valid c.args.i c.args.pair.0 r.least r.greatest r.pair.0 r.pair.1 (point c.args.a.now) c.requires.first).0 ∙ sym r.p_long, (near_point c.args.problem.now c.point-c.ensures.valid c.args.i c.args.position r.least r.greatest r.position.0 r.position.1 (point c.point-c.result.now) c.point-c.ensures.value).0 ∙ sym r.p_long)

pub narrow_line_of-made-requires-clause-a_small : goal.narrow_line_of-made-requires-clause-a_small
narrow_line_of-made-requires-clause-a_small c = let r = c.requires in near_narrow _ (near_point c.args.problem.now c.point-c.ensures.valid c.args.i c.args.pair.0 r.least r.greatest r.pair.0 r.pair.1 (point c.args.a.now) c.requires.first).1

pub narrow_line_of-made-requires-clause-c_small : goal.narrow_line_of-made-requires-clause-c_small
narrow_line_of-made-requires-clause-c_small c = let r = c.requires in near_narrow _ (near_point c.args.problem.now c.point-c.ensures.valid c.args.i c.args.position r.least r.greatest r.position.0 r.position.1 (point c.point-c.result.now) c.point-c.ensures.value).1

pub narrow_line_of-made-requires-clause-a_high : goal.narrow_line_of-made-requires-clause-a_high
narrow_line_of-made-requires-clause-a_high c = let r = c.requires in high_point c.args.problem.now c.point-c.ensures.valid c.args.i c.args.pair.0 r.least r.greatest r.pair.0 r.pair.1 (point c.args.a.now) c.requires.first

pub narrow_line_of-made-requires-clause-c_high : goal.narrow_line_of-made-requires-clause-c_high
narrow_line_of-made-requires-clause-c_high c = let r = c.requires in high_point c.args.problem.now c.point-c.ensures.valid c.args.i c.args.position r.least r.greatest r.position.0 r.position.1 (point c.point-c.result.now) c.point-c.ensures.value

pub narrow_line_of-made-requires-clause-room : goal.narrow_line_of-made-requires-clause-room
narrow_line_of-made-requires-clause-room c =
    let r = c.requires in
    let n = c.point-c.ensures.valid.shape.dimension in
    narrow_at c.args.problem.now c.args.normal.now (point c.args.a.now) (point c.point-c.result.now) r.room
    ((near_point c.args.problem.now c.point-c.ensures.valid c.args.i c.args.pair.0 r.least r.greatest r.pair.0 r.pair.1 (point c.args.a.now) c.requires.first).0 ∙ sym r.p_long) ((near_point c.args.problem.now c.point-c.ensures.valid c.args.i c.args.position r.least r.greatest r.position.0 r.position.1 (point c.point-c.result.now) c.point-c.ensures.value).0 ∙ sym r.p_long) (r.q_long ∙ sym r.p_long) (omega (arith, r.p_long, n))
    (high_point c.args.problem.now c.point-c.ensures.valid c.args.i c.args.pair.0 r.least r.greatest r.pair.0 r.pair.1 (point c.args.a.now) c.requires.first)
    (high_point c.args.problem.now c.point-c.ensures.valid c.args.i c.args.position r.least r.greatest r.position.0 r.position.1 (point c.point-c.result.now) c.point-c.ensures.value)
    (fast_between (point c.point-c.result.now).speed (point c.args.a.now).speed (fast_point c.args.problem.now c.point-c.ensures.valid c.args.i c.args.position r.least r.greatest r.position.0 r.position.1 (point c.point-c.result.now) c.point-c.ensures.value) (fast_point c.args.problem.now c.point-c.ensures.valid c.args.i c.args.pair.0 r.least r.greatest r.pair.0 r.pair.1 (point c.args.a.now) c.requires.first))
    (λ k near. (point_within c.args.problem.now c.point-c.ensures.valid c.args.i c.args.pair.0 r.least r.greatest r.pair.0 r.pair.1 (point c.args.a.now) c.requires.first k near, point_within c.args.problem.now c.point-c.ensures.valid c.args.i c.args.position r.least r.greatest r.position.0 r.position.1 (point c.point-c.result.now) c.point-c.ensures.value k near))

pub returns-clause-fit : goal.returns-clause-fit
returns-clause-fit c =
    subst (All FitsLine) (sym c.in_ok-push.ensures.items)
    (All-append FitsLine c.args.lines.now.items (c.narrow_line_of-made.result ∷ []) c.requires.fit (all_one FitsLine c.narrow_line_of-made.result c.narrow_line_of-made.ensures.fits))

pub narrow_line_of-made-requires-clause-a_fast : goal.narrow_line_of-made-requires-clause-a_fast
narrow_line_of-made-requires-clause-a_fast c = let r = c.requires in fast_point c.args.problem.now c.point-c.ensures.valid c.args.i c.args.pair.0 r.least r.greatest r.pair.0 r.pair.1 (point c.args.a.now) c.requires.first

pub narrow_line_of-made-requires-clause-c_fast : goal.narrow_line_of-made-requires-clause-c_fast
narrow_line_of-made-requires-clause-c_fast c = let r = c.requires in fast_point c.args.problem.now c.point-c.ensures.valid c.args.i c.args.position r.least r.greatest r.position.0 r.position.1 (point c.point-c.result.now) c.point-c.ensures.value
