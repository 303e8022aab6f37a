use Rattle.std.proofs.Common.{◌≡◌, ◌+◌, ◌<◌, ◌^◌, length}
use Rattle.line_text.specs.Lines.{split, rows_from}
use Rattle.line_text.proofs.lines.Lines.next_line.Given as goal

abbrev pub invariant-loop-self : goal.invariant-loop-self
invariant-loop-self l =
    let lines = l.self-inside in
    (rows_from lines.at lines.number (split lines.rest.now) ≡ l.fn.self.rows)
    × (lines.number + length (split lines.rest.now) ≡ l.fn.self.end_line)
    × (lines.at + length lines.rest.now < 2 ^ 64)
    × (lines.number + length lines.rest.now < 2 ^ 64)

abbrev pub decreases-loop-self : goal.decreases-loop-self
decreases-loop-self l = length l.self-inside.rest.now
