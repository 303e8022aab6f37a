-- What a searcher of a team may expand by its walk, for the inner functions; no public clause cites this.
use Rattle.std.specs.Prelude.{◌≡◌, ◌⊎◌, IsTrue, Bool, List}
use Rattle.int_vectors.specs.Vectors.{Each}
use Rattle.cayley.specs.Problems.{Problem}
use Rattle.cayley.specs.declared.found.Begin.TheVariants.{Start}
use Rattle.branch_pool.specs.Seats.{PoolData}
use Rattle.searcher.specs.declared.branches.Branch.{Branch}
use Rattle.searcher.specs.Walks.{IsMade, IsWalk}
use Rattle.search_team.specs.declared.jobs.Job.{Job}
use Rattle.search_team.specs.declared.walkers.Walker.{Walker}
use Rattle.search_team.specs.Searchers.{IsJob}

-- one that begins at the start, or that an expansion opened
abbrev pub IsReady : Problem → Branch → Type 0
IsReady p b = (b.begin ≡ Start) ⊎ IsMade p b

-- a searcher whose given branches all begin at the start, if so it is told, has offered only such
abbrev pub IsWorker : Problem → PoolData → List Branch → Bool → Job → Type 0
IsWorker p pool given from_start j = IsJob p pool given j × (IsTrue from_start → Each j.seat.offered (IsReady p))

-- its walk, beside what it has offered
abbrev pub IsWalker : Problem → List Branch → Walker → Type 0
IsWalker p offered w = IsWalk p w.walk × (IsTrue w.from_start → Each offered (IsReady p))
