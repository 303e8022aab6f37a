use Rattle.std.proofs.Common.{arith}
use Rattle.cayley.proofs.OneCell.EdgeRows.{unit_set}
use Rattle.cayley.proofs.rows.push_unit.Goals as goal

pub returns : goal.returns
returns c =
    let ok = c.args.row.now.ok in
    unit_set c.args.row.now.items c.resize.new.self.items c.len-start.result c.args.row.now.len c.args.n c.args.place (omega arith) ok.0 c.requires.place c.in_default.ensures.items
