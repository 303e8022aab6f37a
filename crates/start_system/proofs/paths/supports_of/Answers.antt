use Rattle.std.proofs.Common.{◌≡◌, ◌∙◌, ℕ, List, map, sym, ap, ap₂, subst, IfOk}
use Rattle.cayley.specs.Problems.{Point}
use Rattle.cayley.specs.Paths.{path_supports, default_starts}
use Rattle.cayley.specs.declared.points.Support.{Support}
use Rattle.cayley.specs.Stored.{point}
use Rattle.start_system.proofs.Started.Heights.{default_given, own_given}
use Rattle.start_system.proofs.Making.Parts.{parts_of, counts_of, same_parts}
use Rattle.start_system.proofs.paths.supports_of.Goals as goal

pub path_supports-requires : goal.path_supports-requires
path_supports-requires c =
    let z = own_given c.args.file.now _ (sym c.in-Some.ensures.value) in
    same_parts c.supports.ensures.value (sym z) (parts_of c.args.file.now c.supports.ensures.valid)

pub path_supports-requires-in-None : goal.path_supports-requires-in-None
path_supports-requires-in-None c =
    let n = default_given c.args.file.now (sym c.in-None.ensures.value) in
    let z = ap (map (λ s. s.items)) c.deref.ensures.value ∙ c.in_ok-starts-in-None.ensures ∙ ap (λ j. default_starts j 1 j) c.dim.ensures.value ∙ sym n in
    same_parts c.supports-in-None.ensures.value z (parts_of c.args.file.now c.supports-in-None.ensures.valid)

pub returns-in-Some-clause-files : goal.returns-in-Some-clause-files
returns-in-Some-clause-files c =
    subst (λ (a : List ℕ). IfOk c.path_supports.result (λ made. map (λ (s : Support). s.file) made.items ≡ a))
    (counts_of (λ s. s.items) c.supports.result.now c.args.file.now.supports c.supports.ensures.value) c.path_supports.ensures.files

pub returns-in-Some-clause-points : goal.returns-in-Some-clause-points
returns-in-Some-clause-points c =
    subst (λ (a : List (List Point)). IfOk c.path_supports.result (λ made. map (λ (s : Support). map point s.points.items) made.items ≡ a))
    (ap₂ (path_supports 1) c.supports.ensures.value (sym (own_given c.args.file.now _ (sym c.in-Some.ensures.value)))) c.path_supports.ensures.points

pub returns-in_ok-starts-in-None-clause-files : goal.returns-in_ok-starts-in-None-clause-files
returns-in_ok-starts-in-None-clause-files c =
    subst (λ (a : List ℕ). IfOk c.path_supports-in-None.result (λ made. map (λ (s : Support). s.file) made.items ≡ a))
    (counts_of (λ s. s.items) c.supports-in-None.result.now c.args.file.now.supports c.supports-in-None.ensures.value) c.path_supports-in-None.ensures.files

pub returns-in_ok-starts-in-None-clause-points : goal.returns-in_ok-starts-in-None-clause-points
returns-in_ok-starts-in-None-clause-points c =
    let n = default_given c.args.file.now (sym c.in-None.ensures.value) in
    let z = ap (map (λ s. s.items)) c.deref.ensures.value ∙ c.in_ok-starts-in-None.ensures ∙ ap (λ j. default_starts j 1 j) c.dim.ensures.value ∙ sym n in
    subst (λ (a : List (List Point)). IfOk c.path_supports-in-None.result (λ made. map (λ (s : Support). map point s.points.items) made.items ≡ a))
    (ap₂ (path_supports 1) c.supports-in-None.ensures.value z) c.path_supports-in-None.ensures.points
