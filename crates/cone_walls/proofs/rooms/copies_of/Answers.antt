use Rattle.std.proofs.Common.{subst, sym}
use Rattle.int_vectors.specs.Vectors.{Each}
use Rattle.int_vectors.specs.Bounds.{IsNarrow}
use Rattle.cone_walls.proofs.RoomAround.{within_each}
use Rattle.cone_walls.proofs.rooms.copies_of.Goals as goal

pub narrow_copy-requires : goal.narrow_copy-requires
narrow_copy-requires c = let n = c.requires.numbers in subst (λ xs. Each xs IsNarrow) (sym c.as_slice.ensures.value) (within_each n.0 c.args.normal.now.p n.1 n.2)

pub narrow_copy-requires-2 : goal.narrow_copy-requires-2
narrow_copy-requires-2 c = let n = c.requires.numbers in subst (λ xs. Each xs IsNarrow) (sym c.as_slice-2.ensures.value) (within_each n.0 c.args.normal.now.q n.1 n.3)
