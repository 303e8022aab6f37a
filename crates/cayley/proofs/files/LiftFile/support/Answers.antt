use Rattle.std.proofs.Common.{◌≡◌, ◌-◌, [], map, slice_index_or, ◌∙◌, ap, arith, subst, sym}
use Rattle.std.proofs.lemmas.List.{length-map}
use Rattle.cayley.specs.Files.{File}
use Rattle.cayley.specs.Stored.{file_point}
use Rattle.int_vectors.proofs.Each.{map_at, map_map}
use Rattle.cayley.proofs.files.LiftFile.support.Goals as goal

pub returns-clause-value : goal.returns-clause-value
returns-clause-value c =
    let long = simp length-map at c.self.invariant.shape.supports in
    let same = ap (λ (f : File). f.dimension) c.self.view_is in
    let e = map_at (λ s. map file_point s.items) c.self.inside.supports.items (c.args.i - 1) c.index.result.now [] c.index.ensures (omega arith) in
    let m = map_map (map file_point) (λ s. s.items) c.self.inside.supports.items in
    subst (λ (f : File). map file_point c.deref.result.now ≡ slice_index_or f.supports (c.args.i - 1) []) c.self.view_is
    (ap (map file_point) c.deref.ensures.value ∙ e ∙ sym (ap (λ l. slice_index_or l (c.args.i - 1) []) m))
