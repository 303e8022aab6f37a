use Rattle.std.proofs.Common.{arith}
use Rattle.reduced_rows.proofs.Picking.{picked_long}
use Rattle.reduced_rows.proofs.stepping.pivot.Goals as goal

pub make_positive-requires : goal.make_positive-requires
make_positive-requires c =
    let p = picked_long c.requires.lengths.0 c.args.k c.args.rest.now.items c.in_ok-row.row c.pick.new.rest.items c.requires.lengths.2 c.in_ok-row.ensures in
    omega (arith, p.0, c.requires.lengths.1)
