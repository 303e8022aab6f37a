use Rattle.std.proofs.Common.{◌∙◌, [], map, length, ap, arith}
use Rattle.std.proofs.lemmas.List.{length-map, take_all}
use Rattle.cayley.specs.declared.points.Point.{Point as StoredPoint}
use Rattle.cayley.specs.declared.points.Support.{Support}
use Rattle.cayley.specs.Rows.{edge_rows_from}
use Rattle.cayley.specs.Stored.{point}
use Rattle.int_vectors.proofs.Each.{map_at}
use Rattle.cayley.proofs.Lists.Pairs.{each_pair_long, each_pair_at}
use Rattle.cayley.proofs.OneCell.EdgeRows.{length-edge_rows, next_row, more_rows}
use Rattle.cayley.proofs.rows.rows_of.Goals as goal

pub bounds-pairs-i : goal.bounds-pairs-i
bounds-pairs-i c = let e = each_pair_long _ _ _ _ c.requires.positions in let l = c.loop-i-test.true in omega arith

pub pair_row-requires-clause-positions : goal.pair_row-requires-clause-positions
pair_row-requires-clause-positions c =
    let e = each_pair_long _ _ _ _ c.requires.positions in
    let l = c.loop-i-test.true in
    let r = each_pair_at _ _ _ _ c.requires.positions c.loop-i.i c.index-supports-i.result (0, 0) (omega arith) in
    let m = simp length-map at r.2 in
    let d = ap (length {A = StoredPoint}) c.deref.ensures.value in
    let same = ap (λ (s : Support). length s.points.items) c.index-supports-i.is in
    (r.0, r.1, omega arith)

pub loop-i-preserved : goal.loop-i-preserved
loop-i-preserved c =
    let e = each_pair_long _ _ _ _ c.requires.positions in
    let l = c.loop-i-test.true in
    let ss = map (λ (s : Support). map point s.points.items) c.args.supports.now in
    let k = length-map c.args.supports.now (λ (s : Support). map point s.points.items) in
    let s = ap (map point) c.deref.ensures.value ∙ map_at (λ (s : Support). map point s.points.items) c.args.supports.now c.loop-i.i c.index-supports-i.result [] c.index-supports-i.is l in
    let r = next_row c.args.dim ss c.args.pairs.now c.loop-i.i c.in_ok-row.row (map point c.deref.result.now) (0, 0) (omega arith) (omega arith) s c.in_ok-row.ensures in
    let n = length-edge_rows c.args.dim 0 ss c.args.pairs.now (omega arith) in
    more_rows (edge_rows_from c.args.dim 0 ss c.args.pairs.now) c.loop-i.rows.items c.push.new.self.items c.loop-i.i c.in_ok-row.row c.loop-i.invariant c.in_default-push.ensures.items r (omega arith)

pub returns : goal.returns
returns c =
    let e = each_pair_long _ _ _ _ c.requires.positions in
    let l = c.loop-i-test.false in
    let ss = map (λ (s : Support). map point s.points.items) c.args.supports.now in
    let k = length-map c.args.supports.now (λ (s : Support). map point s.points.items) in
    let n = length-edge_rows c.args.dim 0 ss c.args.pairs.now (omega arith) in
    c.loop-i.invariant ∙ take_all c.loop-i.i (edge_rows_from c.args.dim 0 ss c.args.pairs.now) (omega arith)
