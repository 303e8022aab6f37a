use Rattle.std.proofs.Common.{rules}
use Rattle.std.specs.Prelude.{IsTrue}
use Rattle.std.specs.List.{All}
use Rattle.listing_text.specs.declared.listing.ListedCell.{ListedCell}
use Rattle.int_vectors.proofs.Each.{each_all}
use Rattle.cell_certificate.specs.Written.{IsListed}
use Rattle.homotopy_rows.proofs.tests.are_listed.Goals as goal

pub returns : goal.returns
returns c =
    let h : IsTrue c.all.result → All (λ (x : ListedCell). IsListed c.args.problem.now x) c.args.cells.now = search rules in
    λ t. each_all (IsListed c.args.problem.now) c.args.cells.now (h t)
