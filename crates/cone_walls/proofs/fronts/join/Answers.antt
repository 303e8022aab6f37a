use Rattle.cone_walls.proofs.LeadingLines.{front_first, front_stays, front_joins, front_moves, two_move, two_remain}
use Rattle.cone_walls.proofs.fronts.join.Goals as goal

pub returns-in-Empty-clause-front : goal.returns-in-Empty-clause-front
returns-in-Empty-clause-front c = λ lines h. front_first lines c.args.fall c.requires.fall.0 (rw c.in-Empty.is at h)

pub returns-in-Less-clause-front : goal.returns-in-Less-clause-front
returns-in-Less-clause-front c = λ lines h. rw c.in-One.is (front_stays lines c.args.fall c.requires.fall.0 c.in-One.first (rw c.in-One.is at h) c.in-Less.ensures)

pub returns-in-Equal-clause-front : goal.returns-in-Equal-clause-front
returns-in-Equal-clause-front c = λ lines h. front_joins lines c.args.fall c.requires.fall.0 c.in-One.first (rw c.in-One.is at h) c.in-Equal.ensures

pub returns-in-Greater-clause-front : goal.returns-in-Greater-clause-front
returns-in-Greater-clause-front c = λ lines h. front_moves lines c.args.fall c.requires.fall.0 c.in-One.first (rw c.in-One.is at h) c.in-Greater.ensures

pub returns-in-Greater-order-clause-front : goal.returns-in-Greater-order-clause-front
returns-in-Greater-order-clause-front c = λ lines h. two_move lines c.args.fall c.requires.fall.0 c.in-Two.first c.in-Two.field-1 (rw c.in-Two.is at h) c.in-Greater-order.ensures

pub returns-in_default-clause-front : goal.returns-in_default-clause-front
returns-in_default-clause-front c = λ lines h. rw c.in-Two.is (two_remain lines c.args.fall c.requires.fall.0 c.in-Two.first c.in-Two.field-1 (rw c.in-Two.is at h) c.order-in-Two.result c.in_default.not-Greater c.order-in-Two.ensures)
