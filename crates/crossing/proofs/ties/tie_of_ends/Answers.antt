use Rattle.std.proofs.Common.{sym, subst}
use Rattle.crossing.specs.Ties.{IsTie}
use Rattle.crossing.proofs.TieSteps.{met, low, high, untied}
use Rattle.crossing.proofs.ties.tie_of_ends.Goals as goal

pub returns-in-Some : goal.returns-in-Some
returns-in-Some c =
    let l = c.args.lines.now in
    let e = c.args.ends.now in
    let r = c.requires in
    subst (IsTie l) (sym c.named.ensures) (met l e.lower e.upper r.rise r.fall r.floating r.uncrossed r.moving c.in-Some.pair c.in-Some.ensures)

pub returns-in-Some-pair_of : goal.returns-in-Some-pair_of
returns-in-Some-pair_of c =
    let l = c.args.lines.now in
    let e = c.args.ends.now in
    let r = c.requires in
    subst (IsTie l) (sym c.named-in-Some-pair_of.ensures) (low l e.lower e.upper r.rise r.fall r.floating r.uncrossed r.moving c.in_default.ensures c.in-Some-pair_of.pair c.in-Some-pair_of.ensures)

pub returns-in-Some-pair_of-2 : goal.returns-in-Some-pair_of-2
returns-in-Some-pair_of-2 c =
    let l = c.args.lines.now in
    let e = c.args.ends.now in
    let r = c.requires in
    subst (IsTie l) (sym c.named-in-Some-pair_of-2.ensures) (high l e.lower e.upper r.rise r.fall r.floating r.uncrossed r.moving c.in_default.ensures c.in_default-pair_of.ensures c.in-Some-pair_of-2.pair c.in-Some-pair_of-2.ensures)

pub returns : goal.returns
returns c =
    let l = c.args.lines.now in
    let e = c.args.ends.now in
    let r = c.requires in
    untied l e.lower e.upper r.rise r.fall r.floating r.uncrossed r.moving c.in_default.ensures c.in_default-pair_of.ensures c.in_default-pair_of-2.ensures
