use Rattle.std.proofs.Common.{rules, ◌≡◌, ◌∙◌, ap, sym, ℤ, ◌+ℤ◌, ◌+◌, ◌<◌, ◌≤◌, List, [], ◌∷◌, ◌++◌, length, true, false, slice_index_or, FitsSigned, pos}
use Rattle.std.proofs.lemmas.Int.{to_z-of_z}
use Rattle.std.specs.Int.{w128}
use Rattle.poly_text.specs.Maps.{sum_of_exponents}
use Rattle.poly_text.specs.Bounds.{fits}
use Rattle.poly_text.proofs.ExponentLists.{extended, rest_of, sum_more, sum_fails, sum_ends, sum_ends_left, nothing_made}
use Rattle.poly_text.proofs.exponents.sum_of_exponents.Goals as goal

pub returns-then-ys-i : goal.returns-then-ys-i
returns-then-ys-i c =
    let past : length c.args.ys.now ≤ c.loop-i.i = search rules in
    sym (sum_ends c.loop-i.sums.items c.args.xs.now c.args.ys.now c.loop-i.i _ past c.loop-i.invariant) ∙ nothing_made (sum_of_exponents c.args.xs.now c.args.ys.now)

pub returns-in_default : goal.returns-in_default
returns-in_default c =
    let less : c.loop-i.i < length c.args.xs.now = search rules in
    let also : c.loop-i.i < length c.args.ys.now = search rules in
    let unfit : fits (slice_index_or c.args.xs.now c.loop-i.i (pos 0) +ℤ slice_index_or c.args.ys.now c.loop-i.i (pos 0)) ≡ false = search rules in
    sym (sum_fails c.loop-i.sums.items c.args.xs.now c.args.ys.now c.loop-i.i (pos 0) _ less also unfit c.loop-i.invariant) ∙ nothing_made (sum_of_exponents c.args.xs.now c.args.ys.now)

pub loop-i-preserved : goal.loop-i-preserved
loop-i-preserved c =
    let less : c.loop-i.i < length c.args.xs.now = search rules in
    let also : c.loop-i.i < length c.args.ys.now = search rules in
    let fit : fits c.in-Some.z ≡ true = search rules in
    let is : c.in-Some.z ≡ slice_index_or c.args.xs.now c.loop-i.i (pos 0) +ℤ slice_index_or c.args.ys.now c.loop-i.i (pos 0) = search rules in
    let wide : FitsSigned w128 c.in-Some.z = search rules in
    let more : c.push_reserved.new.self.items ≡ c.loop-i.sums.items ++ c.in-Some.z ∷ [] =
    c.push_reserved.ensures.items ∙ ap (λ (z : ℤ). c.reserve.new.self.items ++ z ∷ []) (to_z-of_z w128 c.in-Some.z wide) ∙ ap (λ (l : List ℤ). l ++ c.in-Some.z ∷ []) c.reserve.ensures.items in
    ap (λ (l : List ℤ). extended l (rest_of c.args.xs.now c.args.ys.now (c.loop-i.i + 1))) more ∙ sum_more c.loop-i.sums.items c.args.xs.now c.args.ys.now c.loop-i.i (pos 0) c.in-Some.z _ less also is fit c.loop-i.invariant

pub returns : goal.returns
returns c =
    let past : length c.args.xs.now ≤ c.loop-i.i = search rules in
    sym (sum_ends_left c.loop-i.sums.items c.args.xs.now c.args.ys.now c.loop-i.i _ past c.loop-i.invariant) ∙ nothing_made (sum_of_exponents c.args.xs.now c.args.ys.now)
