use Rattle.std.proofs.Common.{◌-◌, rules}
use Rattle.std.specs.Prelude.{IsTrue}
use Rattle.searcher.proofs.PutChildren.{none_put, one_put, two_put}
use Rattle.searcher.proofs.keeping.put_among.Goals as goal

pub returns-then-not-is_least : goal.returns-then-not-is_least
returns-then-not-is_least c =
    let n : ¬ (IsTrue c.is_least.result) = search rules in
    λ p w. none_put p c.args.cell.now (c.args.support - 1) c.args.position c.args.signs.now c.args.time.now w c.args.left.now.items (IsTrue c.is_least.result) (c.is_least.ensures.parent p w.t w.wall) n

pub returns-in-One : goal.returns-in-One
returns-in-One c =
    let t : IsTrue c.is_least.result = search rules in
    λ p w.
    one_put p c.args.cell.now (c.args.support - 1) c.args.position c.args.signs.now c.args.time.now w c.args.left.now.items (IsTrue c.is_least.result) (c.is_least.ensures.parent p w.t w.wall) t
    c.in-One.child _ (rw c.in-One.is at (c.successors.ensures.flips p w.t w.wall)) (rw c.in-One.is at c.successors.ensures.rule) c.put_child.ensures.put

pub returns-in-Two : goal.returns-in-Two
returns-in-Two c =
    let t : IsTrue c.is_least.result = search rules in
    λ p w.
    two_put p c.args.cell.now (c.args.support - 1) c.args.position c.args.signs.now c.args.time.now w c.args.left.now.items (IsTrue c.is_least.result) (c.is_least.ensures.parent p w.t w.wall) t
    c.in-Two.least c.in-Two.other _ _ (rw c.in-Two.is at (c.successors.ensures.flips p w.t w.wall)) (rw c.in-Two.is at c.successors.ensures.rule) c.put_child-in-Two.ensures.put c.put_child-in-Two-2.ensures.put
