use Rattle.std.proofs.Common.{◌-◌, ◌∙◌, ap₂, arith}
use Rattle.cayley.specs.Problems.{origin}
use Rattle.cayley.specs.Rows.{edge_row}
use Rattle.cayley.specs.Stored.{point}
use Rattle.int_vectors.proofs.Each.{map_at}
use Rattle.cayley.proofs.rows.pair_row.Goals as goal

pub returns : goal.returns
returns c =
    let r = c.requires.positions in
    let a = map_at point c.args.points.now (c.args.pair.0 - 1) c.index-points-pair.result origin c.index-points-pair.is (omega arith) in
    let b = map_at point c.args.points.now (c.args.pair.1 - 1) c.index-points-pair-2.result origin c.index-points-pair-2.is (omega arith) in
    c.from_vec.ensures ∙ c.in_ok-entries.ensures.value ∙ ap₂ (edge_row c.args.dim c.args.place) a b
