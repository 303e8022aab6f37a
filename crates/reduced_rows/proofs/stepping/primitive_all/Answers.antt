use Rattle.std.proofs.Common.{◌<◌, ◌∙◌, length, ap, arith}
use Rattle.int_vectors.specs.Contents.{primitive}
use Rattle.int_vectors.proofs.InPlace.{map_read, map_set}
use Rattle.reduced_rows.proofs.stepping.primitive_all.Goals as goal

pub loop-i-preserved : goal.loop-i-preserved
loop-i-preserved c =
    let old = c.args.rows.now.items in
    let lt : c.loop-i.i < length c.args.rows.now.items = omega (arith, c.loop-i.invariant.count) in
    let x = c.index_mut.result.now in
    let e = c.index_mut.ensures.value ∙ map_read primitive old c.loop-i.rows.items c.loop-i.i lt c.loop-i.invariant.done x in
    record {
      done = map_set primitive old c.loop-i.rows.items c.loop-i.i lt c.loop-i.invariant.done x c.primitive.new.self (c.primitive.ensures.value ∙ ap primitive e);
      count = c.loop-i.invariant.count;
    }
