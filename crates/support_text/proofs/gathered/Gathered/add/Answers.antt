use Rattle.std.proofs.Common.{◌++◌, ◌∷◌, [], ◌∙◌, ap, sym, subst, List, map}
use Rattle.cayley.specs.declared.points.FilePoint.{FilePoint as StoredFilePoint}
use Rattle.cayley.specs.Stored.{file_point}
use Rattle.std.proofs.lemmas.List.{map_push}
use Rattle.support_text.specs.Seen.{HasCoordinatesOf}
use Rattle.support_text.proofs.SeenPoints.{seen_more}
use Rattle.support_text.proofs.gathered.Gathered.add.Goals as goal

pub invariant_of-self-in-Ok-true : goal.invariant_of-self-in-Ok-true
invariant_of-self-in-Ok-true c =
    let before = c.self.inside.points.items in
    let grown = c.push_reserved.ensures.items ∙ ap (λ (l : List StoredFilePoint). l ++ c.args.point ∷ []) c.reserve.ensures.items in
    let more = ap (map file_point) grown ∙ map_push file_point before c.args.point in
    subst (HasCoordinatesOf c.insert.new.self) (sym more)
    (seen_more c.self.inside.seen c.insert.new.self c.in-Ok.coords (map file_point before) (file_point c.args.point) c.in-Ok-true.ensures.updates
    (c.in-Ok.ensures.items ∙ c.as_slice.ensures.value) c.self.invariant)
