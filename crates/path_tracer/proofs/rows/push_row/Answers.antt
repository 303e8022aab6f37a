use Rattle.std.proofs.Common.{ap, subst, sym, ◌∙◌, ◌<◌, [], length, rules, FitsSigned, to_z-of_z}
use Rattle.std.specs.Int.{w128}
use Rattle.std.proofs.lemmas.List.{get_or_default}
use Rattle.int_vectors.specs.Vectors.{at}
use Rattle.reduced_rows.proofs.Picking.{each_at}
use Rattle.path_tracer.proofs.RowSteps.{entry_more}
use Rattle.path_tracer.proofs.rows.push_row.Goals as goal
use Rattle.inner_normal.proofs.CoefficientSteps.{all_end}

pub get-requires : goal.get-requires
get-requires c = subst (λ column. c.args.place < length column) (get_or_default c.args.columns.now c.loop-column.column-index [] c.column-item.result c.loop-column-test.true ∙ sym c.column-item.is) (each_at (λ column. c.args.place < length column) c.args.columns.now c.loop-column.column-index [] c.loop-column-test.true c.requires.place)

pub loop-column-preserved : goal.loop-column-preserved
loop-column-preserved c =
    let f : FitsSigned w128 c.get.result = search rules in
    let h = simp to_z-of_z at c.in_default.ensures.items in
    record {
      row = entry_more c.args.place c.args.columns.now c.loop-column.column-index c.args.entries.now.items c.loop-column.entries.items c.push.new.self.items c.get.result c.loop-column-test.true c.loop-column.invariant.row (c.get.ensures.value ∙ ap (λ column. at column c.args.place) (sym (get_or_default c.args.columns.now c.loop-column.column-index [] c.column-item.result c.loop-column-test.true ∙ sym c.column-item.is))) h;
      fits = λ old. all_end c.get.result c.loop-column.entries.items c.push.new.self.items (c.loop-column.invariant.fits old) c.get.ensures.fits h;
    }
