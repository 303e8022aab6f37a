use Rattle.std.proofs.Common.{subst}
use Rattle.cayley.specs.Problems.{Problem}
use Rattle.cayley.specs.Reaches.{IsWithinReach}
use Rattle.cayley.specs.Stored.{version_of}
use Rattle.cayley.proofs.Ranking.StoredProblems.{stored_reach}
use Rattle.cayley.proofs.problems.Problem.reach.Goals as goal

pub returns : goal.returns
returns c = subst (λ (p : Problem). IsWithinReach c.self.inside.reach p) c.self.view_is
    (stored_reach (version_of c.self.inside.version) c.self.inside.dim c.self.inside.supports.items c.self.inside.reach c.self.invariant.1)
