use Rattle.std.proofs.Common.{◌∙◌, sym}
use Rattle.searcher.proofs.LastCells.{first_version}
use Rattle.searcher.proofs.walks.carries.Goals as goal

pub returns-then-version-eq1 : goal.returns-then-version-eq1
returns-then-version-eq1 c = λ t. (first_version c.args.problem.now.version (sym c.version.ensures ∙ c.if-version-eq1.true), c.every_cell_fits.ensures t)
