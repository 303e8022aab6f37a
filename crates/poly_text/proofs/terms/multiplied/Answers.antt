use Rattle.std.proofs.Common.{rules, ◌≡◌, ◌∙◌, ap, sym, List, [], true, false}
use Rattle.poly_text.specs.Maps.{Monomial, products}
use Rattle.poly_text.specs.Bounds.{Verdict, collected, is_small}
use Rattle.poly_text.proofs.TermSums.{did, did_not, multiplied_is, multiplied_not, bounded_yes, bounded_no, good}
use Rattle.poly_text.proofs.terms.multiplied.Goals as goal

begins_empty : (e f g : List Monomial) (v : Verdict (List Monomial)) → e ≡ [] → collected e (products f g) ≡ v → collected [] (products f g) ≡ v
begins_empty e f g v h k = ap (λ (l : List Monomial). collected l (products f g)) (sym h) ∙ k

pub returns-then-not-branch : goal.returns-then-not-branch
returns-then-not-branch c =
    let no : c.in_ok-add_products.field-0 ≡ false = search rules in
    sym (multiplied_not c.args.left.now c.args.right.now (begins_empty c.new-made.result c.args.left.now c.args.right.now _ c.new-made.ensures (did_not c.in_ok-add_products.field-0 _ c.add_products.new.self c.in_ok-add_products.ensures no)))

pub returns-then-not-is_small : goal.returns-then-not-is_small
returns-then-not-is_small c =
    let yes : c.in_ok-add_products.field-0 ≡ true = search rules in
    let large : is_small c.add_products.new.self ≡ false = search rules in
    sym (multiplied_is c.args.left.now c.args.right.now c.add_products.new.self (begins_empty c.new-made.result c.args.left.now c.args.right.now _ c.new-made.ensures (did c.in_ok-add_products.field-0 _ c.add_products.new.self c.in_ok-add_products.ensures yes))
    ∙ bounded_no c.add_products.new.self large)

pub returns : goal.returns
returns c =
    let yes : c.in_ok-add_products.field-0 ≡ true = search rules in
    let small : is_small c.add_products.new.self ≡ true = search rules in
    let same : c.in_ok-terms.terms ≡ c.add_products.new.self = search rules in
    sym (multiplied_is c.args.left.now c.args.right.now c.add_products.new.self (begins_empty c.new-made.result c.args.left.now c.args.right.now _ c.new-made.ensures (did c.in_ok-add_products.field-0 _ c.add_products.new.self c.in_ok-add_products.ensures yes))
    ∙ bounded_yes c.add_products.new.self small ∙ ap good (sym same))
