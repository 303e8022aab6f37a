use Rattle.std.proofs.Common.{◌∙◌, [], map, arith}
use Rattle.std.proofs.lemmas.List.{length-map}
use Rattle.int_vectors.proofs.Each.{map_at}
use Rattle.cayley.proofs.Refusals.SecondHeights.{first_height, more_heights, all_heights}
use Rattle.cayley.proofs.second_heights.outside.Goals as goal

pub returns-in-Some : goal.returns-in-Some
returns-in-Some c =
    let is = c.deref.ensures.value ∙ map_at (λ s. s.items) c.args.second.now c.loop-k.k c.index-second-k.result [] c.index-second-k.is c.loop-k-test.true in
    first_height (map (λ s. s.items) c.args.second.now) c.loop-k.k c.loop-k.invariant c.deref.result.now is c.in-Some.q c.in-Some.ensures.0 c.in-Some.ensures.1 c.in-Some.ensures.2

pub loop-k-preserved : goal.loop-k-preserved
loop-k-preserved c =
    let is = c.deref.ensures.value ∙ map_at (λ s. s.items) c.args.second.now c.loop-k.k c.index-second-k.result [] c.index-second-k.is c.loop-k-test.true in
    more_heights (map (λ s. s.items) c.args.second.now) c.loop-k.k c.loop-k.invariant c.deref.result.now is c.in_default.ensures

pub returns : goal.returns
returns c =
    let m = c.loop-k-test.false in
    all_heights (map (λ s. s.items) c.args.second.now) c.loop-k.k c.loop-k.invariant (let n = length-map c.args.second.now (λ s. s.items) in omega (arith, m, n))
