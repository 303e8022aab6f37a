use Rattle.std.proofs.Common.{◌+◌, drop, arith}
use Rattle.std.proofs.lemmas.Grind.{common_steps}
use Rattle.std.proofs.lemmas.List.{drop_all}
use Rattle.edge_io.proofs.Bytes.{copied}
use Rattle.edge_io.proofs.memory_source.MemorySourceSource.read.Goals as goal

pub returns-clause-bytes : goal.returns-clause-bytes
returns-clause-bytes c =
    let given = c.self.inside.given in
    let bytes = c.self.inside.bytes.items in
    let count = c.min-count.result in
    rw (← c.self.view_is) (
      copied given count bytes c.copy_from_slice.new.self (drop count c.args.buf.now) (grind (arith, common_steps)) (grind (arith, common_steps)),
      λ nought room. drop_all (given + count) bytes (grind (arith, common_steps)),
    )
