use Rattle.std.proofs.Common.{◌-◌}
use Rattle.searcher.proofs.KeptChildren.{one_kept, none_kept, both_kept, first_kept, second_kept, neither_kept}
use Rattle.searcher.proofs.children.kept_among.Goals as goal

pub returns-in-Some : goal.returns-in-Some
returns-in-Some c = λ p w l.
    one_kept p c.args.cell.now (c.args.support - 1) c.args.position c.args.signs.now c.args.time w c.in-One.child c.in-Some.only
    (rw c.in-One.is at l) (c.in-Some.ensures p w)

pub returns-in-None : goal.returns-in-None
returns-in-None c = λ p w l.
    none_kept p c.args.cell.now (c.args.support - 1) c.args.position c.args.signs.now c.args.time w c.in-One.child
    (rw c.in-One.is at l) (c.in-None.ensures p w)

pub returns-in-Some-Some : goal.returns-in-Some-Some
returns-in-Some-Some c = λ p w l.
    both_kept p c.args.cell.now (c.args.support - 1) c.args.position c.args.signs.now c.args.time w c.in-Two.least c.in-Two.other
    (rw c.in-Two.is at l) c.in-Some-Some.first c.in-Some-Some.second (rw c.in-Some-Some.is-0 at (c.kept-first.ensures p w)) (rw c.in-Some-Some.is-1 at (c.kept-second.ensures p w))

pub returns-in-Some-None : goal.returns-in-Some-None
returns-in-Some-None c = λ p w l.
    first_kept p c.args.cell.now (c.args.support - 1) c.args.position c.args.signs.now c.args.time w c.in-Two.least c.in-Two.other
    (rw c.in-Two.is at l) c.in-Some-None.first (rw c.in-Some-None.is-0 at (c.kept-first.ensures p w)) (rw c.in-Some-None.is-1 at (c.kept-second.ensures p w))

pub returns-in-None-Some : goal.returns-in-None-Some
returns-in-None-Some c = λ p w l.
    second_kept p c.args.cell.now (c.args.support - 1) c.args.position c.args.signs.now c.args.time w c.in-Two.least c.in-Two.other
    (rw c.in-Two.is at l) c.in-None-Some.second (rw c.in-None-Some.is-0 at (c.kept-first.ensures p w)) (rw c.in-None-Some.is-1 at (c.kept-second.ensures p w))

pub returns-in-None-None : goal.returns-in-None-None
returns-in-None-None c = λ p w l.
    neither_kept p c.args.cell.now (c.args.support - 1) c.args.position c.args.signs.now c.args.time w c.in-Two.least c.in-Two.other
    (rw c.in-Two.is at l) (rw c.in-None-None.is-0 at (c.kept-first.ensures p w)) (rw c.in-None-None.is-1 at (c.kept-second.ensures p w))
