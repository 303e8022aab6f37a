use Rattle.std.proofs.Common.{rules, ◌≡◌, ◌∙◌, ap, sym, pos, [], ◌∷◌, map, true, false}
use Rattle.std.specs.Ordering.{int_eq}
use Rattle.poly_text.specs.Collecting.{plain}
use Rattle.poly_text.proofs.Entries.{single_gone, single_put}
use Rattle.poly_text.proofs.terms.single.Goals as goal

pub returns-then-number-eq0 : goal.returns-then-number-eq0
returns-then-number-eq0 c =
    let gone : int_eq c.args.number (pos 0) ≡ true = search rules in
    c.new.ensures ∙ ap (map plain) c.new-entries.ensures.items ∙ sym (single_gone c.args.exponents.items c.args.number gone)

pub returns : goal.returns
returns c =
    let kept : int_eq c.args.number (pos 0) ≡ false = search rules in
    let items : c.push.new.self.items ≡ (c.args.exponents, c.args.number) ∷ [] = search (rules, c.new-entries.ensures.items) in
    c.new-2.ensures ∙ ap (map plain) items ∙ sym (single_put c.args.exponents.items c.args.number kept)
