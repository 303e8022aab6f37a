use Rattle.std.proofs.Common.{◌≡◌, ◌∙◌, ◌+◌, ◌-◌, ℕ, ap, sym, ℤ, List, [], ◌∷◌, ◌++◌, map, arith}
use Rattle.std.specs.Global.{Vec}
use Rattle.std.specs.List.{range_with_len}
use Rattle.std.proofs.lemmas.List.{map_push}
use Rattle.std.proofs.lemmas.List.FromFn.{map-range_with_len_more}
use Rattle.family_gen.specs.Cyclic.{windows}
use Rattle.family_gen.proofs.cycles.supports.Goals as goal

pub loop-k-preserved : goal.loop-k-preserved
loop-k-preserved c =
    let low = c.loop-k.auto.k in
    let e : c.loop-k.k - 1 + 1 ≡ c.loop-k.k + 1 - 1 = omega arith in
    let items = λ (s : Vec (List ℤ)). s.items in
    ap (map items) c.in_default-push.ensures.items ∙ map_push items c.loop-k.made.items c.in_ok-support.support
    ∙ ap (λ (z : List (List ℤ)). map items c.loop-k.made.items ++ z ∷ []) c.in_ok-support.ensures
    ∙ ap (λ (l : List (List (List ℤ))). l ++ windows c.args.n c.loop-k.k ∷ []) c.loop-k.invariant
    ∙ sym (map-range_with_len_more (windows c.args.n) 1 (c.loop-k.k - 1) c.loop-k.k (omega arith))
    ∙ ap (λ (m : ℕ). map (windows c.args.n) (range_with_len 1 m)) e
