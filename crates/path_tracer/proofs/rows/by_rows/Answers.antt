use Rattle.path_tracer.proofs.RowSteps.{rows_more, place_within}
use Rattle.std.proofs.Common.{length}
use Rattle.path_tracer.proofs.rows.by_rows.Goals as goal

pub push_row-requires : goal.push_row-requires
push_row-requires c = record { place = place_within (length c.args.columns.now) c.loop-place.place c.args.columns.now c.loop-place-test.true c.requires.square }

pub loop-place-preserved : goal.loop-place-preserved
loop-place-preserved c = record {
  rows = rows_more c.loop-place.place c.args.columns.now c.loop-place.entries.items c.push_row.new.entries.items c.loop-place.invariant.rows c.in_ok-push_row.ensures.row;
  fits = c.push_row.ensures.fits c.loop-place.invariant.fits;
}
