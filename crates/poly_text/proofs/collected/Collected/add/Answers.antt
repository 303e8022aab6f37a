use Rattle.std.proofs.Common.{rules, ◌≡◌, ◌∙◌, ap, sym, pos, ◌+ℤ◌, List, true, false}
use Rattle.std.specs.Ordering.{int_eq}
use Rattle.std.specs.Map.{remove_entry}
use Rattle.std.specs.BTreeMap.{is_at, insert_entry}
use Rattle.poly_text.specs.Maps.{Monomial, coefficient, plus_term}
use Rattle.poly_text.specs.Bounds.{fits}
use Rattle.poly_text.proofs.Entries.{keys_cmp, removed_is, inserted_is}
use Rattle.poly_text.proofs.collected.Collected.add.Goals as goal

pub returns-then-total-eq0 : goal.returns-then-total-eq0
returns-then-total-eq0 c =
    let key = c.args.exponents in
    let es = c.self.inside.kept.entries in
    let fit : fits (coefficient key.items c.args.self.now +ℤ c.args.number) ≡ true = search rules in
    let total : c.in-Some.total ≡ coefficient key.items c.args.self.now +ℤ c.args.number = search rules in
    let total2 = total ∙ ap (λ (f : List Monomial). coefficient key.items f +ℤ c.args.number) (sym c.self.view_is) in
    let gone : int_eq c.in-Some.total (pos 0) ≡ true = search rules in
    let entries : c.remove.new.self.entries ≡ remove_entry (is_at (keys_cmp key)) es = search (rules, c.remove.ensures.entries) in
    (fit, removed_is key es c.remove.new.self.entries c.args.number c.in-Some.total entries total2 gone ∙ ap (λ (f : List Monomial). plus_term f (key.items, c.args.number)) c.self.view_is)

pub returns : goal.returns
returns c =
    let key = c.args.exponents in
    let es = c.self.inside.kept.entries in
    let fit : fits (coefficient key.items c.args.self.now +ℤ c.args.number) ≡ true = search rules in
    let total : c.in-Some.total ≡ coefficient key.items c.args.self.now +ℤ c.args.number = search rules in
    let total2 = total ∙ ap (λ (f : List Monomial). coefficient key.items f +ℤ c.args.number) (sym c.self.view_is) in
    let kept : int_eq c.in-Some.total (pos 0) ≡ false = search rules in
    let entries : c.insert.new.self.entries ≡ insert_entry keys_cmp es key c.in-Some.total = search (rules, c.insert.ensures.entries) in
    (fit, inserted_is key es c.insert.new.self.entries c.args.number c.in-Some.total entries total2 kept ∙ ap (λ (f : List Monomial). plus_term f (key.items, c.args.number)) c.self.view_is)
