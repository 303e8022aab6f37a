use Rattle.std.proofs.Common.{◌∙◌, ap, sym, ℤ, List, [], ◌∷◌, ◌++◌, arith}
use Rattle.std.proofs.lemmas.List.FromFn.{map-range_with_len_more}
use Rattle.family_gen.specs.Cyclic.{window}
use Rattle.family_gen.proofs.cycles.windows.Goals as goal

pub loop-i-preserved : goal.loop-i-preserved
loop-i-preserved c =
    c.in_default-push.ensures.items ∙ ap (λ (z : List ℤ). c.loop-i.made.items ++ z ∷ []) c.in_ok-vector.ensures
    ∙ ap (λ (l : List (List ℤ)). l ++ window c.args.n c.args.k c.loop-i.i ∷ []) c.loop-i.invariant
    ∙ sym (map-range_with_len_more (window c.args.n c.args.k) 0 c.loop-i.i c.loop-i.i (omega arith))
