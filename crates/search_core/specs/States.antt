-- States of the core: what each searcher has.
use Rattle.std.specs.Prelude.{◌≡◌, ℕ, ◌-◌, ◌≤◌, List, [], ◌∷◌, length, slice_index_or, slice_set, replicate}
use Rattle.int_vectors.specs.Vectors.{Each}
use Rattle.cayley.specs.Cells.{Cell}
use Rattle.search_core.specs.declared.branches.CoreBranch.{CoreBranch}
use Rattle.search_core.specs.declared.branches.Hand.{Hand}
use Rattle.search_core.specs.declared.branches.Hand.TheVariants.{Empty}

-- a searcher: its open branches, oldest first, what it has in its hand, and the cells that it reported, in order
pub record Searcher : Type 0 where
  pub deque : List CoreBranch
  pub hand : Hand
  pub outs : List Cell

-- the searchers 1, 2, ..
abbrev pub State : Type 0
State = List Searcher

-- there is a searcher with this number
abbrev pub IsSearcher : State → ℕ → Type 0
IsSearcher state s = (1 ≤ s) × (s ≤ length state)

-- a searcher that has nothing
abbrev pub idle : Searcher
idle = record { deque = []; hand = Empty; outs = [] }

-- the searcher with a number
abbrev pub searcher_at : State → ℕ → Searcher
searcher_at state s = slice_index_or state (s - 1) idle

-- the state in which the searcher with a number has become x
abbrev pub with_searcher : State → ℕ → Searcher → State
with_searcher state s x = slice_set state (s - 1) x

-- searcher 1 has the branch in its deque, and all else is empty
abbrev pub start_state : ℕ → CoreBranch → State
start_state searchers branch = record idle { deque = branch ∷ [] } ∷ replicate (searchers - 1) idle

-- all deques and hands are empty
abbrev pub IsIdle : State → Type 0
IsIdle state = Each state (λ (x : Searcher). (x.deque ≡ []) × (x.hand ≡ Empty))
