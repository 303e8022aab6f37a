use Rattle.std.proofs.Common.{subst, arith, Less, Equal, Greater}
use Rattle.crossing.specs.Leading.{IsLed, nth}
use Rattle.crossing.proofs.Leading.{taken, order_as, one_stay, one_even, one_after, two_after, two_stay}
use Rattle.crossing.proofs.leaders.joined.Goals as goal

pub returns-in-Less : goal.returns-in-Less
returns-in-Less c =
    let l = c.args.lines.now in
    let h = subst (IsLed c.args.way l c.args.index) c.in-One.is c.requires.led in
    let lt = h.0 in
    let i = c.requires.inside in
    one_stay c.args.way l c.args.index c.in-One.first h
    (order_as c.args.way Less c.index-lines-first.result c.index-lines-index.result (nth l c.in-One.first) (nth l c.args.index) (taken l c.in-One.first c.index-lines-first.result c.index-lines-first.is (omega (arith, lt, i))) (taken l c.args.index c.index-lines-index.result c.index-lines-index.is i) c.in-Less.ensures)

pub returns-in-Equal : goal.returns-in-Equal
returns-in-Equal c =
    let l = c.args.lines.now in
    let h = subst (IsLed c.args.way l c.args.index) c.in-One.is c.requires.led in
    let lt = h.0 in
    let i = c.requires.inside in
    one_even c.args.way l c.args.index c.in-One.first h (c.requires.goes _)
    (order_as c.args.way Equal c.index-lines-first.result c.index-lines-index.result (nth l c.in-One.first) (nth l c.args.index) (taken l c.in-One.first c.index-lines-first.result c.index-lines-first.is (omega (arith, lt, i))) (taken l c.args.index c.index-lines-index.result c.index-lines-index.is i) c.in-Equal.ensures)

pub returns-in-Greater : goal.returns-in-Greater
returns-in-Greater c =
    let l = c.args.lines.now in
    let h = subst (IsLed c.args.way l c.args.index) c.in-One.is c.requires.led in
    let lt = h.0 in
    let i = c.requires.inside in
    one_after c.args.way l c.args.index c.in-One.first h (c.requires.goes _)
    (order_as c.args.way Greater c.index-lines-first.result c.index-lines-index.result (nth l c.in-One.first) (nth l c.args.index) (taken l c.in-One.first c.index-lines-first.result c.index-lines-first.is (omega (arith, lt, i))) (taken l c.args.index c.index-lines-index.result c.index-lines-index.is i) c.in-Greater.ensures)

pub returns-in-Greater-order : goal.returns-in-Greater-order
returns-in-Greater-order c =
    let l = c.args.lines.now in
    let h = subst (IsLed c.args.way l c.args.index) c.in-Two.is c.requires.led in
    let lt = h.0 in
    let lu = h.1 in
    let i = c.requires.inside in
    two_after c.args.way l c.args.index c.in-Two.first c.in-Two.field-1 h (c.requires.goes _)
    (order_as c.args.way Greater c.index-lines-first-in-Two.result c.index-lines-index-in-Two.result (nth l c.in-Two.first) (nth l c.args.index) (taken l c.in-Two.first c.index-lines-first-in-Two.result c.index-lines-first-in-Two.is (omega (arith, lt, lu, i))) (taken l c.args.index c.index-lines-index-in-Two.result c.index-lines-index-in-Two.is i) c.in-Greater-order.ensures)

pub returns-in_default : goal.returns-in_default
returns-in_default c =
    let l = c.args.lines.now in
    let h = subst (IsLed c.args.way l c.args.index) c.in-Two.is c.requires.led in
    let lt = h.0 in
    let lu = h.1 in
    let i = c.requires.inside in
    two_stay c.args.way l c.args.index c.order-in-Two.result c.in-Two.first c.in-Two.field-1 c.in_default.not-Greater h (c.requires.goes _)
    (order_as c.args.way c.order-in-Two.result c.index-lines-first-in-Two.result c.index-lines-index-in-Two.result (nth l c.in-Two.first) (nth l c.args.index) (taken l c.in-Two.first c.index-lines-first-in-Two.result c.index-lines-first-in-Two.is (omega (arith, lt, lu, i))) (taken l c.args.index c.index-lines-index-in-Two.result c.index-lines-index-in-Two.is i) c.order-in-Two.ensures)
