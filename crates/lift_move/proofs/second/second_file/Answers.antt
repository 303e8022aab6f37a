use Rattle.std.proofs.Common.{◌∙◌, map, sym, ap, subst}
use Rattle.cayley.specs.Files.{plain_problem}
use Rattle.cayley.specs.Stored.{file_point}
use Rattle.cayley.specs.Valid.{IsValidFile}
use Rattle.int_vectors.proofs.Each.{map_map}
use Rattle.cayley.proofs.Ranking.MovedProblems.{second_counts}
use Rattle.lift_move.specs.Segments.{lifted_supports}
use Rattle.lift_move.proofs.Lifted.{second_valid, made_second, plain_end}
use Rattle.lift_move.proofs.second.second_file.Goals as goal

pub lifted_supports-requires : goal.lifted_supports-requires
lifted_supports-requires c =
    second_counts (λ s. s.items) (λ s. s.items) c.args.file.now c.supports.ensures.valid c.supports.result.now c.supports.ensures.value c.args.second.now c.requires.heights

pub from_parts-requires : goal.from_parts-requires
from_parts-requires c =
    let file = c.args.file.now in
    let second = map (λ s. s.items) c.args.second.now in
    let supports = map_map (map file_point) (λ s. s.items) c.in_ok-supports.supports.items ∙ c.in_ok-supports.ensures ∙ ap (λ ss. lifted_supports ss second) c.supports.ensures.value in
    subst IsValidFile (sym (made_second file second _ _ _ _ c.form.ensures.value c.dim.ensures.value supports (c.in_ok-starts.ensures ∙ c.starts.ensures.value)))
    (second_valid file second c.supports.ensures.valid c.requires.heights)

pub returns : goal.returns
returns c =
    let file = c.args.file.now in
    let second = map (λ s. s.items) c.args.second.now in
    let supports = map_map (map file_point) (λ s. s.items) c.in_ok-supports.supports.items ∙ c.in_ok-supports.ensures ∙ ap (λ ss. lifted_supports ss second) c.supports.ensures.value in
    let made = c.from_parts.ensures ∙ made_second file second _ _ _ _ c.form.ensures.value c.dim.ensures.value supports (c.in_ok-starts.ensures ∙ c.starts.ensures.value) in
    record { value = made; end = λ first. ap plain_problem made ∙ plain_end file first second c.requires.heights.0 }
