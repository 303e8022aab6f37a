use Rattle.std.proofs.Common.{subst, sym, ◌∙◌}
use Rattle.std.proofs.lemmas.Option.{IfSome_then}
use Rattle.cayley.specs.Problems.{Point, point_at, with_rank}
use Rattle.cayley.specs.Stored.{point}
use Rattle.cayley.specs.Valid.{support_at}
use Rattle.cone_walls.proofs.ProblemPoints.{IsNear, near_point}
use Rattle.cell_bound.specs.Ranges.{AreNear}
use Rattle.cell_bound.proofs.ranges.apart_at.Goals as goal

near_a : (c : goal.After-point-x) → IsNear c.args.problem.now.dimension (point c.point-a.result.now)
near_a c = let r = c.requires in near_point c.args.problem.now c.point-a.ensures.valid c.args.i c.args.first r.least r.greatest r.first.0 r.first.1 (point c.point-a.result.now) c.point-a.ensures.value

near_x : (c : goal.After-point-x) → IsNear c.args.problem.now.dimension (point c.point-x.result.now)
near_x c = let r = c.requires in near_point c.args.problem.now c.point-a.ensures.valid c.args.i c.args.second r.least r.greatest r.second.0 r.second.1 (point c.point-x.result.now) c.point-x.ensures.value

pub apart-requires-clause-lengths : goal.apart-requires-clause-lengths
apart-requires-clause-lengths c = (near_a c).0 ∙ sym (near_x c).0

pub apart-requires-clause-a_small : goal.apart-requires-clause-a_small
apart-requires-clause-a_small c = (near_a c).1

pub apart-requires-clause-c_small : goal.apart-requires-clause-c_small
apart-requires-clause-c_small c = (near_x c).1

pub returns : goal.returns
returns c =
    let s = support_at c.args.problem.now c.args.i in
    IfSome_then c.apart.result c.apart.ensures
    (λ b h.
    subst (λ (u : Point). AreNear b.front b.further u (with_rank 0 (point_at (support_at c.args.problem.now c.args.i) c.args.second))) c.point-a.ensures.value
    (subst (λ (u : Point). AreNear b.front b.further (point c.point-a.result.now) u) c.point-x.ensures.value h))
