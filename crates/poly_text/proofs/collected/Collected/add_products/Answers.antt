use Rattle.std.proofs.Common.{rules, ◌≡◌, ap, ℤ, ◌<◌, ◌≤◌, map, length, true, false}
use Rattle.std.specs.Global.{Vec}
use Rattle.poly_text.specs.Maps.{times, products}
use Rattle.poly_text.specs.Bounds.{collected}
use Rattle.poly_text.specs.Collecting.{plain}
use Rattle.poly_text.proofs.TermSums.{did, did_not, row_added, row_fails, all_added, rows_of_products}
use Rattle.poly_text.proofs.collected.Collected.add_products.Goals as goal

pub loop-s-init : goal.loop-s-init
loop-s-init c = ap (collected c.args.self.now) (rows_of_products c.entries-s-items.result.now c.args.left.now c.args.right.now c.entries-s-items.ensures)

pub returns-then-not-branch : goal.returns-then-not-branch
returns-then-not-branch c =
    let no : c.in_ok-add_row.field-0 ≡ false = search rules in
    let less : c.loop-s.s-index < length c.entries-s-items.result.now = search rules in
    row_fails (λ (s : Vec ℤ × ℤ). map (times (plain s)) c.args.right.now) c.entries-s-items.result.now c.loop-s.s-index c.loop-s.self (collected c.args.self.now (products c.args.left.now c.args.right.now)) c.s-item.result c.s-item.is less
    (did_not c.in_ok-add_row.field-0 _ c.add_row.new.self c.in_ok-add_row.ensures no) c.loop-s.invariant

pub loop-s-preserved : goal.loop-s-preserved
loop-s-preserved c =
    let yes : c.in_ok-add_row.field-0 ≡ true = search rules in
    let less : c.loop-s.s-index < length c.entries-s-items.result.now = search rules in
    row_added (λ (s : Vec ℤ × ℤ). map (times (plain s)) c.args.right.now) c.entries-s-items.result.now c.loop-s.s-index c.loop-s.self (collected c.args.self.now (products c.args.left.now c.args.right.now)) c.add_row.new.self c.s-item.result c.s-item.is less
    (did c.in_ok-add_row.field-0 _ c.add_row.new.self c.in_ok-add_row.ensures yes) c.loop-s.invariant

pub returns : goal.returns
returns c =
    let past : length c.entries-s-items.result.now ≤ c.loop-s.s-index = search rules in
    all_added (λ (s : Vec ℤ × ℤ). map (times (plain s)) c.args.right.now) c.entries-s-items.result.now c.loop-s.s-index c.loop-s.self (collected c.args.self.now (products c.args.left.now c.args.right.now)) past c.loop-s.invariant
