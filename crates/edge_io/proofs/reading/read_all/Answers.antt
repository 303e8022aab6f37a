use Rattle.std.proofs.Common.{◌≡◌, ◌∙◌, ◌++◌, ap, take, drop, length, arith}
use Rattle.edge_io.proofs.Bytes.{taken_more, front_of}
use Rattle.edge_io.proofs.reading.read_all.Goals as goal

pub loop-filled-preserved : goal.loop-filled-preserved
loop-filled-preserved g c =
    let filled = c.loop-filled.filled in
    let room = c.make_room.new.bytes in
    let after = c.read_behind.new.bytes in
    let long : length after ≡ room.len = c.read_behind.auto.bytes ∙ c.deref_mut.ensures.len in
    let whole : take room.len (after ++ drop (length after) room.items) ≡ after = front_of room.len after (drop (length after) room.items) long in
    let same : take filled after ≡ take filled c.loop-filled.bytes.items =
    c.in-Ok.ensures.front ∙ ap (take filled) c.deref_mut.ensures.value ∙ c.make_room.ensures.front in (
      rw whole (taken_more _ _ _ filled c.in-Ok.count c.loop-filled.bytes.items after c.loop-filled.invariant.0 same c.in-Ok.ensures.bytes.0),
      omega (arith, c.in-Ok.ensures.cause.later),
      omega (arith, c.in-Ok.ensures.bound, long),
      c.make_room.ensures.bound,
    )
