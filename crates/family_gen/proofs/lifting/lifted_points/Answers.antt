use Rattle.std.proofs.Common.{◌≡◌, ◌∙◌, ap, sym, ℤ, [], ◌∷◌, ◌++◌, map, length, rules, arith, FitsSigned, to_z-of_z}
use Rattle.std.specs.Int.{w64}
use Rattle.std.specs.Vec.Iter.{into_iter_items}
use Rattle.std.proofs.lemmas.List.{map_push, nil_from_length}
use Rattle.cayley.specs.Files.{FilePoint}
use Rattle.cayley.specs.Stored.{file_point}
use Rattle.family_gen.specs.Generator.{number}
use Rattle.family_gen.specs.Lifts.{lifted}
use Rattle.family_gen.proofs.LiftedPoints.{one_lifted, none_lifted, one_counted, none_counted}
use Rattle.family_gen.proofs.lifting.lifted_points.Goals as goal

pub loop-coords-preserved : goal.loop-coords-preserved
unfolding number
loop-coords-preserved c =
    let last = c.loop-coords.generator.last in
    let all = into_iter_items c.loop-coords.coords-iterator in
    let rest = into_iter_items c.next.new.self in
    let split : all ≡ c.in-Some.coords ∷ rest = c.in-Some.ensures.steps.0 in
    let wide : FitsSigned w64 c.height-height.result = search rules in
    let pushed = simp to_z-of_z at c.in_default-push.ensures.items in
    let made = map file_point c.loop-coords.made.items in
    let p : FilePoint = record { coordinates = c.in-Some.coords; height = c.height-height.result } in
    let more : map file_point c.push.new.self.items ≡ made ++ p ∷ [] = ap (map file_point) pushed ∙ map_push file_point c.loop-coords.made.items _ in
    record {
      points = rw c.height-height.ensures.last (one_lifted made (map file_point c.push.new.self.items) p last c.in-Some.coords all rest (lifted c.args.generator.now.last 0 c.args.points.items)
          more (ap (λ (h : ℤ). record { coordinates = c.in-Some.coords; height = h }) c.height-height.ensures.drawn) split c.loop-coords.invariant.points);
      last = rw c.height-height.ensures.last (one_counted last c.in-Some.coords all rest (number c.args.generator.now.last (length c.args.points.items)) split c.loop-coords.invariant.last);
      count = omega (arith, c.in-Some.ensures.steps.1, ap length split, c.loop-coords.invariant.count);
    }

pub returns-clause-points : goal.returns-clause-points
returns-clause-points c = none_lifted (map file_point c.loop-coords.made.items) c.loop-coords.generator.last (into_iter_items c.loop-coords.coords-iterator) _ (nil_from_length (into_iter_items c.loop-coords.coords-iterator) (sym c.loop-coords.invariant.count ∙ c.in-None.ensures.steps.0)) c.loop-coords.invariant.points

pub returns-clause-last : goal.returns-clause-last
returns-clause-last c = none_counted c.loop-coords.generator.last (into_iter_items c.loop-coords.coords-iterator) _ (nil_from_length (into_iter_items c.loop-coords.coords-iterator) (sym c.loop-coords.invariant.count ∙ c.in-None.ensures.steps.0)) c.loop-coords.invariant.last
