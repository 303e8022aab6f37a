use Rattle.std.proofs.Common.{rules, FitsSigned, to_z-of_z, ap₂, sym, subst, [], ◌∷◌, ◌++◌}
use Rattle.std.specs.Int.{w64}
use Rattle.int_vectors.specs.Bounds.{IsNarrow}
use Rattle.cayley.specs.Stored.{point}
use Rattle.crossing.specs.declared.line.WallLine.{WallLine}
use Rattle.cone_walls.specs.Fronts.{IsFront}
use Rattle.cone_walls.proofs.NarrowPoints.{alpha_narrow, beta_narrow}
use Rattle.cone_walls.proofs.PassingLines.{made_of}
use Rattle.cone_walls.proofs.passing.fallen.Goals as goal

pub returns-clause-front : goal.returns-clause-front
returns-clause-front c =
    let m = c.args.normal.now in
    let fa : FitsSigned w64 c.start-alpha.result = search rules in
    let fb : FitsSigned w64 c.args.beta = c.ranges.beta in
    let f = simp to_z-of_z at c.join.ensures.front in
    λ lines h. subst (λ (l : WallLine). IsFront (lines ++ l ∷ []) c.join.new.front) (ap₂ (λ a b. made_of c.args.i c.args.position a b) c.start-alpha.ensures c.requires.beta) (f lines h)

pub join-requires-clause-fall : goal.join-requires-clause-fall
join-requires-clause-fall c =
    let fa : FitsSigned w64 c.start-alpha.result = search rules in
    let fb : FitsSigned w64 c.args.beta = c.ranges.beta in
    let na : IsNarrow c.start-alpha.result = subst IsNarrow (sym c.start-alpha.ensures) (alpha_narrow c.args.normal.now (point c.args.a.now) (point c.args.c.now) c.requires.narrow) in
    let nb : IsNarrow c.args.beta = subst IsNarrow (sym c.requires.beta) (beta_narrow c.args.normal.now (point c.args.a.now) (point c.args.c.now) c.requires.narrow) in
    simp to_z-of_z (c.requires.fall, na, nb)
