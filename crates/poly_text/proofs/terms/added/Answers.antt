use Rattle.std.proofs.Common.{rules, ◌≡◌, ◌∙◌, sym, true, false}
use Rattle.poly_text.specs.Bounds.{is_small}
use Rattle.poly_text.proofs.TermSums.{did, did_not, added_is, added_not, bounded_yes, bounded_no}
use Rattle.poly_text.proofs.terms.added.Goals as goal

pub returns-then-not-branch : goal.returns-then-not-branch
returns-then-not-branch c =
    let no : c.in_ok-add_terms.field-0 ≡ false = search rules in
    sym (added_not c.args.minus c.args.sum c.args.terms.now (did_not c.in_ok-add_terms.field-0 _ c.add_terms.new.self c.in_ok-add_terms.ensures no))

pub returns-then-not-is_small : goal.returns-then-not-is_small
returns-then-not-is_small c =
    let yes : c.in_ok-add_terms.field-0 ≡ true = search rules in
    let large : is_small c.add_terms.new.self ≡ false = search rules in
    sym (added_is c.args.minus c.args.sum c.args.terms.now c.add_terms.new.self (did c.in_ok-add_terms.field-0 _ c.add_terms.new.self c.in_ok-add_terms.ensures yes) ∙ bounded_no c.add_terms.new.self large)

pub returns : goal.returns
returns c =
    let yes : c.in_ok-add_terms.field-0 ≡ true = search rules in
    let small : is_small c.add_terms.new.self ≡ true = search rules in
    sym (added_is c.args.minus c.args.sum c.args.terms.now c.add_terms.new.self (did c.in_ok-add_terms.field-0 _ c.add_terms.new.self c.in_ok-add_terms.ensures yes) ∙ bounded_yes c.add_terms.new.self small)
