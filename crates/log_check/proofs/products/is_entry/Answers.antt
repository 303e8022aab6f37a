use Rattle.cayley.proofs.Lists.Reaching.{near_narrow}
use Rattle.log_check.proofs.products.is_entry.Goals as goal

pub dot_between-requires-clause-a_small : goal.dot_between-requires-clause-a_small
dot_between-requires-clause-a_small c = near_narrow c.args.a.now c.requires.a_near

pub dot_between-requires-clause-c_small : goal.dot_between-requires-clause-c_small
dot_between-requires-clause-c_small c = near_narrow c.args.b.now c.requires.b_near
