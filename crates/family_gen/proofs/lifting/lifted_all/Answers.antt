use Rattle.std.proofs.Common.{◌≡◌, ◌∙◌, ap, sym, ℤ, List, ◌∷◌, map, length, arith}
use Rattle.std.specs.Global.{Vec}
use Rattle.std.specs.Vec.Iter.{into_iter_items}
use Rattle.std.proofs.lemmas.List.{map_push, nil_from_length}
use Rattle.cayley.specs.declared.points.FilePoint.{FilePoint as StoredFilePoint}
use Rattle.cayley.specs.Stored.{file_point}
use Rattle.family_gen.specs.Lifts.{lifted_supports}
use Rattle.family_gen.proofs.LiftedPoints.{one_support, no_support}
use Rattle.family_gen.proofs.lifting.lifted_all.Goals as goal

pub loop-points-preserved : goal.loop-points-preserved
loop-points-preserved c =
    let last = c.loop-points.generator.last in
    let items = λ (s : Vec (List ℤ)). s.items in
    let view = λ (s : Vec StoredFilePoint). map file_point s.items in
    let all = into_iter_items c.loop-points.points-iterator in
    let rest = into_iter_items c.next.new.self in
    let split : all ≡ c.in-Some.points ∷ rest = c.in-Some.ensures.steps.0 in
    let made = map view c.loop-points.made.items in
    let more = ap (map view) c.in_default-push.ensures.items ∙ map_push view c.loop-points.made.items c.in_ok-support.support in
    record {
      supports = one_support made (map view c.push.new.self.items) (view c.in_ok-support.support) last c.lifted_points.new.generator.last c.in-Some.points.items (map items all) (map items rest)
          (lifted_supports c.args.generator.now.last 0 (map items c.args.supports.items)) more c.in_ok-support.ensures.points c.in_ok-support.ensures.last (ap (map items) split) c.loop-points.invariant.supports;
      count = omega (arith, c.in-Some.ensures.steps.1, ap length split, c.loop-points.invariant.count);
    }

pub returns : goal.returns
returns c =
    let items = λ (s : Vec (List ℤ)). s.items in
    let view = λ (s : Vec StoredFilePoint). map file_point s.items in
    let all = into_iter_items c.loop-points.points-iterator in
    let none = nil_from_length all (sym c.loop-points.invariant.count ∙ c.in-None.ensures.steps.0) in
    no_support (map view c.loop-points.made.items) c.loop-points.generator.last (map items all) (lifted_supports c.args.generator.now.last 0 (map items c.args.supports.items)) (ap (map items) none) c.loop-points.invariant.supports
