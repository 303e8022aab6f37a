use Rattle.std.proofs.Common.{◌∙◌, ℕ, ap, refl, List, [], ◌∷◌, ◌++◌, add-one}
use Rattle.family_gen.specs.Generator.{following, number, coordinate_of}
use Rattle.family_gen.specs.Scatter.{drawn}
use Rattle.family_gen.proofs.DrawnCoordinates.{drawn_more}
use Rattle.family_gen.proofs.scattering.drawn.Goals as goal

pub loop-place-init : goal.loop-place-init
unfolding number
loop-place-init c = record { coords = c.in-Ok.ensures.items; last = refl }

pub loop-place-preserved : goal.loop-place-preserved
unfolding number
loop-place-preserved c =
    let seed = c.args.generator.now.last in
    let place = c.loop-place._place in
    let after = c.coordinate.ensures.last ∙ ap following c.loop-place.invariant.last in
    record {
      coords = c.in_default-push.ensures.items ∙ ap (λ (l : List ℕ). l ++ c.coordinate.result ∷ []) c.loop-place.invariant.coords
          ∙ ap (λ (y : ℕ). drawn seed c.args.side 1 place ++ y ∷ []) (c.coordinate.ensures.drawn ∙ ap (λ (y : ℕ). coordinate_of c.args.side (following y)) c.loop-place.invariant.last)
          ∙ drawn_more seed c.args.side place;
      last = rw add-one after;
    }
