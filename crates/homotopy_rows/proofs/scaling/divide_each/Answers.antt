use Rattle.std.proofs.Common.{◌<◌, ◌≤◌, ◌∙◌, length, map, ap, sym, arith, FitsSigned, to_z-of_z}
use Rattle.std.specs.Int.{w128}
use Rattle.int_vectors.specs.Contents.{divided}
use Rattle.int_vectors.specs.Vectors.{scale}
use Rattle.int_vectors.proofs.InPlace.{map_read, map_set, map_end}
use Rattle.homotopy_rows.proofs.Dividing.{exact_at, quotient_is, all_divided}
use Rattle.homotopy_rows.proofs.scaling.divide_each.Goals as goal

pub divide-requires-clause-exact : goal.divide-requires-clause-exact
divide-requires-clause-exact c =
    let fg : FitsSigned w128 c.args.g = c.ranges.g in
    let inv = simp to_z-of_z at c.loop-k.invariant.done in
    let old = c.args.rows.now.items in
    let lt : c.loop-k.k < length c.args.rows.now.items = omega (arith, c.loop-k-test.true, c.loop-k.invariant.count) in
    let e = c.index_mut.ensures.value ∙ map_read (divided c.args.g) old c.loop-k.rows.items c.loop-k.k lt inv c.index_mut.result.now in
    simp to_z-of_z (exact_at c.args.g old c.loop-k.k c.index_mut.result.now lt c.requires.exact e)

pub loop-k-preserved : goal.loop-k-preserved
loop-k-preserved c =
    let fg : FitsSigned w128 c.args.g = c.ranges.g in
    let inv = simp to_z-of_z at c.loop-k.invariant.done in
    let old = c.args.rows.now.items in
    let lt : c.loop-k.k < length c.args.rows.now.items = omega (arith, c.loop-k-test.true, c.loop-k.invariant.count) in
    let x = c.index_mut.result.now in
    let e = c.index_mut.ensures.value ∙ map_read (divided c.args.g) old c.loop-k.rows.items c.loop-k.k lt inv x in
    let d = exact_at c.args.g old c.loop-k.k x lt c.requires.exact e in
    let q = quotient_is c.args.g x c.divide.new.self c.requires.positive d (simp to_z-of_z at c.divide.ensures) in
    simp to_z-of_z (record {
      done = map_set (divided c.args.g) old c.loop-k.rows.items c.loop-k.k lt inv x c.divide.new.self (q ∙ ap (divided c.args.g) e);
      count = c.loop-k.invariant.count;
    })

pub returns : goal.returns
returns c =
    let fg : FitsSigned w128 c.args.g = c.ranges.g in
    let inv = simp to_z-of_z at c.loop-k.invariant.done in
    let old = c.args.rows.now.items in
    let n : length c.args.rows.now.items ≤ c.loop-k.k = omega (arith, c.loop-k-test.false, c.loop-k.invariant.count) in
    all_divided c.args.g old c.requires.positive c.requires.exact ∙ ap (map (scale c.args.g)) (sym (inv ∙ map_end (divided c.args.g) old c.loop-k.k n))
