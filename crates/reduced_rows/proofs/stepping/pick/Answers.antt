use Rattle.std.proofs.Common.{◌≡◌, ◌≢◌, ◌<◌, ◌∙◌, length, get_or, List, ℤ, pos, ap, ap₂, subst, arith, sym, take_all, Some, rules, FitsSigned}
use Rattle.std.specs.Int.{w128}
use Rattle.std.specs.List.{swap, remove}
use Rattle.int_vectors.specs.Vectors.{at}
use Rattle.wide_int.proofs.Signed.{is_zero, not_zero}
use Rattle.reduced_rows.proofs.Picking.{each_at, zero_more, pick_found, pick_none, swap_front, any_default}
use Rattle.reduced_rows.proofs.stepping.pick.Goals as goal

pub get-requires : goal.get-requires
get-requires c =
    let lt : c.loop-i.i < length c.args.rest.now.items = omega (arith, c.loop-i.invariant.count) in
    let e = c.index.ensures ∙ ap (λ l. get_or l c.loop-i.i c.index.result.now) c.loop-i.invariant.same in
    let l = ap length e ∙ each_at (λ row. length row ≡ c.requires.lengths.0) c.args.rest.now.items c.loop-i.i c.index.result.now lt c.requires.lengths.2 in
    omega (arith, l, c.requires.lengths.1)

pub returns-then-get-ne0 : goal.returns-then-get-ne0
returns-then-get-ne0 c =
    let old = c.args.rest.now.items in
    let i = c.loop-i.i in
    let x = c.index.result.now in
    let lt : c.loop-i.i < length c.args.rest.now.items = omega (arith, c.loop-i.invariant.count) in
    let e = c.index.ensures ∙ ap (λ l. get_or l c.loop-i.i c.index.result.now) c.loop-i.invariant.same in
    let v = c.get.ensures.value ∙ ap (λ r. at r c.args.k) e in
    let n : at (get_or old i x) c.args.k ≢ pos 0 = subst (λ z. z ≢ pos 0) v (not_zero c.get.result c.if-get-ne0.true) in
    let after = c.swap.ensures.items ∙ ap (λ l. swap l 0 i) c.loop-i.invariant.same in
    let first = c.remove.ensures.value ∙ ap (λ l. get_or l 0 c.remove.result) after ∙ swap_front old i c.remove.result lt in
    let others = c.remove.ensures.items ∙ ap (λ l. remove l 0) after in
    pick_found c.args.k old i x lt c.loop-i.invariant.zero_so_far n ∙ sym (ap₂ (λ (a : List ℤ) (b : List (List ℤ)). Some (a, b)) (first ∙ any_default old i c.remove.result x lt) others)

pub loop-i-preserved : goal.loop-i-preserved
loop-i-preserved c =
    let fr : FitsSigned w128 c.get.result = search rules in
    let lt : c.loop-i.i < length c.args.rest.now.items = omega (arith, c.loop-i.invariant.count) in
    let e = c.index.ensures ∙ ap (λ l. get_or l c.loop-i.i c.index.result.now) c.loop-i.invariant.same in
    let v = c.get.ensures.value ∙ ap (λ r. at r c.args.k) e in
    record {
      same = c.loop-i.invariant.same;
      zero_so_far = zero_more c.args.k c.args.rest.now.items c.loop-i.i c.index.result.now lt c.loop-i.invariant.zero_so_far (sym v ∙ is_zero c.get.result fr c.if-get-ne0.false);
      count = c.loop-i.invariant.count;
    }

pub returns : goal.returns
returns c = pick_none c.args.k c.args.rest.now.items (rw (take_all c.loop-i.i c.args.rest.now.items (omega (arith, c.loop-i.invariant.count))) at c.loop-i.invariant.zero_so_far)
