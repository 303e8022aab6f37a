use Rattle.cayley.proofs.OneCell.OneDependency.{dependency_law}
use Rattle.cayley.proofs.laws.one_dependency.Goals as goal

pub returns : goal.returns
returns c = dependency_law
