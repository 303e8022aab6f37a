use Rattle.search_core.proofs.Keeping.{keeps_share}
use Rattle.search_core.proofs.cores.Core.new.Goals as goal

pub returns-clause-kept : goal.returns-clause-kept
returns-clause-kept c = λ p still. keeps_share p still c.args.searchers c.args.branch
