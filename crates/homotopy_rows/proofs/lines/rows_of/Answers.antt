use Rattle.std.proofs.Common.{None}
use Rattle.cayley.specs.Files.{plain_problem}
use Rattle.homotopy_rows.specs.Powers.{ArePowers, HasLeastScale, IsZeroAtPairs}
use Rattle.homotopy_rows.proofs.FlatLines.{all_passed, each_row, each_good, first_flat, flat_perturbed, line_rises}
use Rattle.homotopy_rows.proofs.LeastScale.{least_scale}
use Rattle.homotopy_rows.proofs.ZeroAtPairs.{zero_at_pairs}
use Rattle.homotopy_rows.proofs.lines.rows_of.Goals as goal

pub returns-clause-powers : goal.returns-clause-powers
returns-clause-powers c = each_row c.args.listing.now ArePowers (λ x y g. g.0) c.rows.result (λ v. v.items) c.rows.ensures

pub returns-clause-least : goal.returns-clause-least
returns-clause-least c =
    let listing = c.args.listing.now in
    let p = plain_problem listing.file in
    each_good listing HasLeastScale (all_passed p None listing.cells.items c.requires.listed c.requires.right) (λ x y q g. least_scale p x y q.0.0.2 g.0) c.rows.result (λ v. v.items) c.rows.ensures

pub returns-clause-zero : goal.returns-clause-zero
returns-clause-zero c =
    let listing = c.args.listing.now in
    let p = plain_problem listing.file in
    each_good listing (λ q x r. IsZeroAtPairs q r) (all_passed p None listing.cells.items c.requires.listed c.requires.right)
    (λ x y q g. zero_at_pairs p x y q.0.0.2 g.0 (line_rises listing.file c.dim-dim.ensures.valid x q g.1)) c.rows.result (λ v. v.items) c.rows.ensures

pub returns-clause-flat : goal.returns-clause-flat
returns-clause-flat c = first_flat c.args.listing.now c.rows.result (λ v. v.items) c.rows.ensures

pub returns-clause-perturbed : goal.returns-clause-perturbed
returns-clause-perturbed c =
    let listing = c.args.listing.now in
    flat_perturbed listing c.rows.result (λ v. v.items) c.dim-dim.ensures.valid (all_passed (plain_problem listing.file) None listing.cells.items c.requires.listed c.requires.right) c.rows.ensures
