-- What a searcher has between two of its turns, for the inner functions; no public clause cites this.
use Rattle.std.specs.Prelude.{◌≡◌, ◌≤◌, ℕ, List, [], ◌++◌, Option, None, IfSome, cond, ◌==◌, length, min, flat_map}
use Rattle.int_vectors.specs.Vectors.{Each}
use Rattle.cayley.specs.declared.found.FoundCell.{FoundCell}
use Rattle.cayley.specs.Problems.{Problem}
use Rattle.cayley.specs.Ties.{IsTieFree}
use Rattle.branch_pool.specs.Seats.{PoolData, SeatData, IsSeatOf, all_taken}
use Rattle.searcher.specs.declared.branches.Branch.{Branch}
use Rattle.searcher.specs.declared.expansions.HaltCause.{HaltCause}
use Rattle.searcher.specs.Expansions.{HasLowestNormal, ShowsTieAtEnd, HasNoTie}
use Rattle.searcher.specs.Workings.{FitsWorking}
use Rattle.searcher.specs.Searches.{IsLeft, IsOfLeft, top}
use Rattle.search_team.specs.declared.jobs.Job.{Job}
use Rattle.search_team.specs.Accounts.{IsBalance, IsMade}

-- the cause is told of the cell of a branch that is left; a tie is one at an end, and there is none where no cell has one
abbrev pub IsTold : Problem → List Branch → HaltCause → Type 0
IsTold p left cause = IsOfLeft p left cause × ShowsTieAtEnd p cause × (IsTieFree p → HasNoTie cause)

-- of searchers that were given and took these branches, offered and hold those, and found, solved and reported this: nothing is given up
pub record IsWhole (p : Problem) (given taken offered hand : List Branch) (found : List FoundCell) (solves : ℕ) (report : Option HaltCause) : Type 0 where
  pub account : (n : ℕ) × (solves ≡ min n top) × IsBalance p (given ++ taken) (offered ++ hand) found n
  pub normals : Each found (HasLowestNormal p)
  pub fit : Each found (λ (x : FoundCell). FitsWorking p x.cell)
  pub made : Each offered (IsMade p given (given ++ taken))
  pub kept : Each hand (IsMade p (given ++ taken) (given ++ taken))
  pub calm : report ≡ None → hand ≡ []
  pub told : IfSome report (IsTold p hand)

-- what the seat of this number was given: seat 1 all
abbrev pub given_to : List Branch → ℕ → List Branch
given_to given number = cond (number == 1) given []

-- what these seats were given
abbrev pub given_by : List Branch → List (SeatData Branch) → List Branch
given_by given seats = flat_map (λ (s : SeatData Branch). given_to given s.number) seats

-- what was given is found, or stands in `left`
pub record IsDivided (p : Problem) (given left : List Branch) (found : List FoundCell) (solves : ℕ) : Type 0 where
  pub account : (n : ℕ) × (solves ≡ min n top) × IsBalance p given left found n
  pub normals : Each found (HasLowestNormal p)
  pub fit : Each found (λ (x : FoundCell). FitsWorking p x.cell)
  pub led : Each left (IsLeft p given)

-- a searcher at a seat of the pool
pub record IsJob (p : Problem) (pool : PoolData) (given : List Branch) (j : Job) : Type 0 where
  pub seat : IsSeatOf pool j.seat
  pub number : j.seat.number ≡ j.number
  pub range : (1 ≤ j.number) × (j.number ≤ length pool.deques)
  pub whole : IsWhole p (given_to given j.number) (all_taken j.seat) j.seat.offered j.hand.items j.found.items j.solves j.report

-- one that hasn't begun
pub record IsFresh (pool : PoolData) (j : Job) : Type 0 where
  pub seat : IsSeatOf pool j.seat
  pub number : j.seat.number ≡ j.number
  pub offered : j.seat.offered ≡ []
  pub taken : all_taken j.seat ≡ []
  pub hand : j.hand.items ≡ []
  pub found : j.found.items ≡ []
  pub solves : j.solves ≡ 0
  pub report : j.report ≡ None
