use Rattle.std.proofs.Common.{◌<◌, ◌≤◌, length, ap, arith, None}
use Rattle.cayley.specs.Files.{plain_problem}
use Rattle.cell_certificate.specs.Written.{IsListed}
use Rattle.homotopy_rows.specs.Answers.{IsGood}
use Rattle.homotopy_rows.specs.Stored.{row}
use Rattle.homotopy_rows.proofs.Beside.{each_item, made_whole}
use Rattle.homotopy_rows.proofs.FlatLines.{IsPassed, all_passed}
use Rattle.homotopy_rows.proofs.lines.rows.Goals as goal

pub row_of-requires-clause-listed : goal.row_of-requires-clause-listed
row_of-requires-clause-listed c =
    let lines = c.args.listing.now.cells.items in
    let e = c.deref-listed-items.ensures.value in
    let h : c.loop-listed.listed-index < length c.args.listing.now.cells.items = omega (arith, c.loop-listed-test.true, ap length e) in
    let i = rw e at c.listed-item.is in
    each_item (IsListed (plain_problem c.args.listing.now.file)) lines c.loop-listed.listed-index c.listed-item.result c.requires.listed h i

pub row_of-requires-clause-fits : goal.row_of-requires-clause-fits
row_of-requires-clause-fits c =
    let p = plain_problem c.args.listing.now.file in
    let lines = c.args.listing.now.cells.items in
    let e = c.deref-listed-items.ensures.value in
    let h : c.loop-listed.listed-index < length c.args.listing.now.cells.items = omega (arith, c.loop-listed-test.true, ap length e) in
    let i = rw e at c.listed-item.is in
    (each_item (IsPassed p) lines c.loop-listed.listed-index c.listed-item.result (all_passed p None lines c.requires.listed c.requires.right) h i).0.2

pub row_of-requires-clause-level : goal.row_of-requires-clause-level
row_of-requires-clause-level c =
    let p = plain_problem c.args.listing.now.file in
    let lines = c.args.listing.now.cells.items in
    let e = c.deref-listed-items.ensures.value in
    let h : c.loop-listed.listed-index < length c.args.listing.now.cells.items = omega (arith, c.loop-listed-test.true, ap length e) in
    let i = rw e at c.listed-item.is in
    (each_item (IsPassed p) lines c.loop-listed.listed-index c.listed-item.result (all_passed p None lines c.requires.listed c.requires.right) h i).0.3

pub returns : goal.returns
returns c =
    let p = plain_problem c.args.listing.now.file in
    let lines = c.args.listing.now.cells.items in
    let n : length c.args.listing.now.cells.items ≤ c.loop-listed.listed-index = omega (arith, c.loop-listed-test.false, ap length c.deref-listed-items.ensures.value) in
    made_whole (λ x r. IsGood p x (row r)) lines c.loop-listed.rows.items c.loop-listed.listed-index n c.loop-listed.invariant.made
