use Rattle.std.proofs.Common.{◌≤◌, ◌-◌, take, vec_len}
use Rattle.std.specs.Io.KnownBytes.{Consumes}
use Rattle.edge_io.proofs.reading.read_all.Given as goal

abbrev pub invariant-loop-filled : goal.invariant-loop-filled
invariant-loop-filled g l =
    Consumes (g.S.Source.left l.fn.source) (g.S.Source.left l.source) (take l.filled l.bytes.items)
    × (g.S.Source.faults l.fn.source ≤ g.S.Source.faults l.source)
    × (l.filled ≤ vec_len l.bytes)
    × (vec_len l.bytes ≤ 16777217)

abbrev pub decreases-loop-filled : goal.decreases-loop-filled
decreases-loop-filled g l = 16777217 - l.filled
