use Rattle.std.proofs.Common.{◌≡◌, ◌<◌, ◌∙◌, ◌+◌, ◌++◌, ◌∷◌, [], List, ℤ, length, subst, sym, ap, arith, rules, FitsSigned, take, get_or, pos}
use Rattle.std.specs.Int.{w128}
use Rattle.std.proofs.lemmas.List.{take_more}
use Rattle.int_vectors.specs.Vectors.{Each, at}
use Rattle.int_vectors.proofs.Each.{all_each, each_append}
use Rattle.wide_int.proofs.Signed.{is_zero}
use Rattle.table_update.proofs.states.first_with.Goals as goal

pub get-requires : goal.get-requires
get-requires c = subst (λ (row : List ℤ). c.args.k < length row) (sym c.index-rows-i.is)
    (all_each (λ row. c.args.k < length row) c.args.rows.now c.requires c.loop-i.i c.index-rows-i.result c.loop-i-test.true)

pub loop-i-preserved : goal.loop-i-preserved
loop-i-preserved c =
    let fr : FitsSigned w128 c.get.result = search rules in
    let z = sym c.get.ensures.value ∙ is_zero c.get.result fr c.if-get-ne0.false in
    let rows = c.args.rows.now in
    let i = c.loop-i.i in
    let d = c.index-rows-i.result in
    subst (λ l. Each l (λ row. at row c.args.k ≡ pos 0)) (sym (take_more rows i d c.loop-i-test.true))
    (each_append (λ row. at row c.args.k ≡ pos 0) (take i rows) (get_or rows i d ∷ []) c.loop-i.invariant (subst (λ (row : List ℤ). at row c.args.k ≡ pos 0) c.index-rows-i.is z, tt))
