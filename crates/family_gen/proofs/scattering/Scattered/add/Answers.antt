use Rattle.std.proofs.Common.{◌++◌, ◌∷◌, [], ◌∙◌, ap, refl, List, map, pos, FitsSigned, to_z-of_z}
use Rattle.std.specs.Int.{w64}
use Rattle.cayley.specs.declared.points.FilePoint.{FilePoint as StoredFilePoint}
use Rattle.cayley.specs.Files.{FilePoint}
use Rattle.cayley.specs.Stored.{file_point}
use Rattle.std.proofs.lemmas.List.{map_push}
use Rattle.family_gen.proofs.MadePoints.{seen_more}
use Rattle.family_gen.proofs.scattering.Scattered.add.Goals as goal

pub invariant_of-self-2 : goal.invariant_of-self-2
invariant_of-self-2 c =
    let wide : FitsSigned w64 c.args.height = c.ranges.height in
    let before = map file_point c.self.inside.points.items in
    let grown = (simp to_z-of_z at c.push_reserved.ensures.items) ∙ ap (λ (l : List StoredFilePoint). l ++ record { coords = c.in_ok-vector.vector; height = c.args.height } ∷ []) c.reserve.ensures.items in
    let point : FilePoint = record { coordinates = c.in_ok-vector.vector; height = c.args.height } in
    let more = ap (map file_point) grown ∙ map_push file_point c.self.inside.points.items _ in
    seen_more c.self.inside.taken c.insert.new.self c.args.coords c.args.coords.items before (map file_point c.push_reserved.new.self.items) point
    c.in_default.ensures.updates refl (c.in_ok-vector.ensures ∙ ap (map pos) c.deref.ensures.value) more c.self.invariant
