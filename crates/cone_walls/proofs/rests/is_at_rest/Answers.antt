use Rattle.std.proofs.Common.{rules, sym, ap, ◌∙◌, FitsSigned, to_z, of_z, to_z-of_z, eqb-true}
use Rattle.std.specs.Int.{w64}
use Rattle.cayley.specs.Problems.{Point}
use Rattle.cone_walls.proofs.rests.is_at_rest.Goals as goal

pub returns : goal.returns
returns c = λ t.
    let f : FitsSigned w64 c.point.result.now.speed = search rules in
    ap (λ (x : Point). x.speed) (sym c.point.ensures.value) ∙ sym (to_z-of_z {w = w64} {z = c.point.result.now.speed} f) ∙ ap (to_z w64) (eqb-true (of_z w64 c.point.result.now.speed) 0 t)
