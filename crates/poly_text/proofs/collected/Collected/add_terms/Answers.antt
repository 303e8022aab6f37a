use Rattle.std.proofs.Common.{rules, ◌≡◌, ◌∙◌, ap, ℤ, ◌<◌, ◌≤◌, [], ◌∷◌, map, length, true, false}
use Rattle.std.specs.Global.{Vec}
use Rattle.poly_text.specs.Maps.{signed}
use Rattle.poly_text.specs.Bounds.{collected}
use Rattle.poly_text.specs.Collecting.{plain}
use Rattle.poly_text.proofs.TermSums.{did, did_not, row_added, row_fails, all_added, row_of_one, rows_plain}
use Rattle.poly_text.proofs.collected.Collected.add_terms.Goals as goal

pub loop-t-init : goal.loop-t-init
loop-t-init c = ap (collected c.args.self.now) (rows_plain (signed c.args.minus) c.entries-t-items.result.now c.args.terms.now c.entries-t-items.ensures)

pub returns-then-not-branch : goal.returns-then-not-branch
returns-then-not-branch c =
    let no : c.in_ok-add_signed.field-0 ≡ false = search rules in
    let less : c.loop-t.t-index < length c.entries-t-items.result.now = search rules in
    row_fails (λ (t : Vec ℤ × ℤ). signed c.args.minus (plain t) ∷ []) c.entries-t-items.result.now c.loop-t.t-index c.loop-t.self (collected c.args.self.now (map (signed c.args.minus) c.args.terms.now)) c.t-item.result c.t-item.is less
    (row_of_one c.loop-t.self (signed c.args.minus (plain c.t-item.result)) ∙ did_not c.in_ok-add_signed.field-0 _ c.add_signed.new.self c.in_ok-add_signed.ensures no) c.loop-t.invariant

pub loop-t-preserved : goal.loop-t-preserved
loop-t-preserved c =
    let yes : c.in_ok-add_signed.field-0 ≡ true = search rules in
    let less : c.loop-t.t-index < length c.entries-t-items.result.now = search rules in
    row_added (λ (t : Vec ℤ × ℤ). signed c.args.minus (plain t) ∷ []) c.entries-t-items.result.now c.loop-t.t-index c.loop-t.self (collected c.args.self.now (map (signed c.args.minus) c.args.terms.now)) c.add_signed.new.self c.t-item.result c.t-item.is less
    (row_of_one c.loop-t.self (signed c.args.minus (plain c.t-item.result)) ∙ did c.in_ok-add_signed.field-0 _ c.add_signed.new.self c.in_ok-add_signed.ensures yes) c.loop-t.invariant

pub returns : goal.returns
returns c =
    let past : length c.entries-t-items.result.now ≤ c.loop-t.t-index = search rules in
    all_added (λ (t : Vec ℤ × ℤ). signed c.args.minus (plain t) ∷ []) c.entries-t-items.result.now c.loop-t.t-index c.loop-t.self (collected c.args.self.now (map (signed c.args.minus) c.args.terms.now)) past c.loop-t.invariant
