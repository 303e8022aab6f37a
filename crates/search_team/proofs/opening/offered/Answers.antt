use Rattle.std.proofs.Common.{rules, ◌≡◌, [], ◌++◌, ◌∷◌, sym, subst}
use Rattle.std.specs.Prelude.{IsPermutation}
use Rattle.search_team.proofs.Begun.{offered_more}
use Rattle.search_team.proofs.opening.offered.Goals as goal

pub loop-branch-preserved : goal.loop-branch-preserved
loop-branch-preserved c =
    let done : c.offer.new.seat.offered ≡ c.loop-branch.job.seat.offered ++ c.in-Some.branch ∷ [] = search rules in
    let p : IsPermutation c.args.branches.items (c.offer.new.seat.offered ++ c.pop.new.self.items) = subst (λ o. IsPermutation c.args.branches.items (o ++ c.pop.new.self.items)) (sym done) (offered_more c.args.branches.items c.loop-branch.job.seat.offered c.pop.new.self.items c.loop-branch.branches.items c.in-Some.branch c.loop-branch.invariant.0 c.in-Some.ensures.items) in
    search (p, rules)
