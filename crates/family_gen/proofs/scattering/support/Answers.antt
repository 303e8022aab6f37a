use Rattle.std.proofs.Common.{◌≡◌, ◌∙◌, ◌+◌, ◌-◌, ◌*◌, ℕ, suc, ap, ap₂, arith, length, length-append, List, ◌++◌, map}
use Rattle.cayley.specs.Files.{FilePoint}
use Rattle.family_gen.specs.Generator.{number}
use Rattle.family_gen.specs.Scatter.{scattered}
use Rattle.family_gen.specs.Seen.{coordinates_of}
use Rattle.family_gen.proofs.ScatteredPoints.{point_made, points_made, group_drawn, none_drawn, one_scattered}
use Rattle.family_gen.proofs.scattering.support.Goals as goal

pub loop-turn-init : goal.loop-turn-init
loop-turn-init c =
    let e : c.args.m - 0 ≡ c.args.m = omega arith in
    let start = c.args.generator.now.last in
    record {
      points = ap₂ (λ (ps : List FilePoint) (i : ℕ). ps ++ scattered start c.args.side c.args.n 1 i (map coordinates_of ps)) c.new-made.ensures e;
      last = ap (λ (i : ℕ). number start (i * (c.args.n + 1))) e;
      count = ap length c.new-made.ensures;
    }

pub draw-requires-clause-room : goal.draw-requires-clause-room
draw-requires-clause-room c = let count = c.loop-turn.invariant.count in let lt = c.loop-turn-test.true in let room = c.requires.room in omega arith

pub loop-turn-preserved : goal.loop-turn-preserved
loop-turn-preserved c =
    let turn = c.loop-turn._turn in
    let m = c.args.m in
    let k = c.args.n + 1 in
    let last = c.loop-turn.generator.last in
    let e : m - turn ≡ suc (m - (turn + 1)) = (let lt = c.loop-turn-test.true in omega arith) in
    let one = one_scattered last c.args.side c.args.n (map coordinates_of c.loop-turn.made) in
    record {
      points = point_made last c.draw.new.generator.last c.args.side c.args.n (m - turn) (m - (turn + 1)) c.loop-turn.made c.draw.new.self _ e c.in_ok-draw.ensures.point c.in_ok-draw.ensures.last c.loop-turn.invariant.points;
      last = group_drawn last c.draw.new.generator.last k (m - turn) (m - (turn + 1)) _ e c.in_ok-draw.ensures.last c.loop-turn.invariant.last;
      count = omega (arith, ap length c.in_ok-draw.ensures.point, length-append c.loop-turn.made (scattered last c.args.side c.args.n 1 1 (map coordinates_of c.loop-turn.made)), one, c.loop-turn.invariant.count);
    }

pub returns-clause-points : goal.returns-clause-points
returns-clause-points c =
    let e : c.args.m - c.loop-turn._turn ≡ 0 = (let le = c.loop-turn-test.false in omega arith) in
    c.into_points.ensures ∙ points_made c.loop-turn.generator.last c.args.side c.args.n (c.args.m - c.loop-turn._turn) c.loop-turn.made _ e c.loop-turn.invariant.points

pub returns-clause-last : goal.returns-clause-last
returns-clause-last c =
    let e : c.args.m - c.loop-turn._turn ≡ 0 = (let le = c.loop-turn-test.false in omega arith) in
    none_drawn c.loop-turn.generator.last (c.args.n + 1) (c.args.m - c.loop-turn._turn) _ e c.loop-turn.invariant.last
