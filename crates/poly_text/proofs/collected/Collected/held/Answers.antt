use Rattle.std.proofs.Common.{rules, ◌≡◌, ◌∙◌, ap, FitsSigned, Some, None}
use Rattle.std.specs.Int.{w128}
use Rattle.std.proofs.lemmas.Int.{to_z-of_z}
use Rattle.std.specs.Map.{lookup}
use Rattle.std.specs.BTreeMap.{is_at}
use Rattle.poly_text.specs.Maps.{coefficient}
use Rattle.poly_text.proofs.Entries.{keys_cmp, held_some, held_none}
use Rattle.poly_text.proofs.collected.Collected.held.Goals as goal

pub returns-in-Some : goal.returns-in-Some
returns-in-Some c =
    let key = c.args.exponents.now in
    let es = c.self.inside.kept.entries in
    let e : lookup (is_at (keys_cmp key)) es ≡ Some c.in-Some.held.now = search (rules, c.get.ensures.value, c.in-Some.is, c.in-Some.ensures.value) in
    let fit : FitsSigned w128 c.in-Some.held.now = search rules in
    to_z-of_z w128 c.in-Some.held.now fit ∙ held_some key es c.in-Some.held.now e ∙ ap (coefficient key.items) c.self.view_is

pub returns-in-None : goal.returns-in-None
returns-in-None c =
    let key = c.args.exponents.now in
    let es = c.self.inside.kept.entries in
    let e : lookup (is_at (keys_cmp key)) es ≡ None = search (rules, c.get.ensures.value, c.in-None.is, c.in-None.ensures.value) in
    held_none key es e ∙ ap (coefficient key.items) c.self.view_is
