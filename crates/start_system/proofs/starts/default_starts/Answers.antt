use Rattle.std.proofs.Common.{rules, map}
use Rattle.std.proofs.lemmas.List.{map-append}
use Rattle.start_system.proofs.Started.DefaultRows.{rows_more, rows_end}
use Rattle.start_system.proofs.starts.default_starts.Goals as goal

pub loop-place-preserved : goal.loop-place-preserved
loop-place-preserved c =
    rw (c.in_ok-push.ensures, map-append) (rows_more c.args.dim c.loop-place.place c.args.dim (map (λ s. s.items) c.loop-place.made.items) _ c.in_ok-row.row.items c.loop-place-test.true c.in_ok-row.ensures c.loop-place.invariant)

pub returns : goal.returns
returns c = rows_end c.args.dim c.loop-place.place c.args.dim (map (λ s. s.items) c.loop-place.made.items) _ (search rules) c.loop-place.invariant
