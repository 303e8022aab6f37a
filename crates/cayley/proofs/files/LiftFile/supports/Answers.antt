use Rattle.std.proofs.Common.{map, ◌∙◌, ap, sym}
use Rattle.cayley.specs.Files.{File}
use Rattle.cayley.specs.Stored.{file_point}
use Rattle.int_vectors.proofs.Each.{map_map}
use Rattle.cayley.proofs.files.LiftFile.supports.Goals as goal

pub returns-clause-value : goal.returns-clause-value
returns-clause-value c =
    ap (map (λ s. map file_point s.items)) c.deref.ensures.value
    ∙ sym (map_map (map file_point) (λ s. s.items) c.self.inside.supports.items)
    ∙ ap (λ (f : File). f.supports) c.self.view_is
