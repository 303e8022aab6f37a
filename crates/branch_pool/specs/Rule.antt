-- The pool rule of one deque: what was offered to it is what it holds together with what was taken from it.
use Rattle.std.specs.Prelude.{◌≡◌, ◌<◌, ◌≤◌, ℕ, List, ◌++◌, [], drop, length, IsPermutation}
use Rattle.std.specs.List.{All, flat_map, sum_by}
use mathlib.Core.Option.{some}
use lib.ListN.{get_elem?}
use Rattle.branch_pool.specs.declared.rule.SeatView.{SeatView}
use Rattle.branch_pool.specs.declared.rule.TheConstants.{SEATS}

module _ {B : Type 0} where
  abbrev pub view_of : ℕ → ℕ → List B → List B → SeatView B
  view_of seats parts offered taken = record { seats = seats; parts = parts; offered = offered; taken = taken }

  -- all that the seats of these views offered to the deque
  abbrev pub offered_in : List (SeatView B) → List B
  offered_in views = flat_map (λ v. v.offered) views

  -- all that they took from it
  abbrev pub taken_in : List (SeatView B) → List B
  taken_in views = flat_map (λ v. v.taken) views

  -- nothing was offered with this view
  abbrev pub OffersNothing : SeatView B → Type 0
  OffersNothing v = v.offered ≡ []

  -- nothing was offered or taken with it
  abbrev pub IsEmpty : SeatView B → Type 0
  IsEmpty v = (v.offered ≡ []) × (v.taken ≡ [])

  -- a view that isn't spent has the pool's number of seats
  abbrev pub Carries : ℕ → SeatView B → Type 0
  Carries seats v = 0 < v.parts → v.seats ≡ seats

  -- a spent view has no part, and empty lists
  abbrev pub IsEmptyIfSpent : SeatView B → Type 0
  IsEmptyIfSpent v = v.parts ≡ 0 → IsEmpty v

  -- what was offered is a permutation of what the deque holds together with what was taken. The views have SEATS parts together, and the first,
  -- which is the deque's own seat's, alone offers. Each that isn't spent carries the pool's number of seats; where it is 1, all but the first are empty
  pub record IsBalanced (items : List B) (views : List (SeatView B)) : Type 0 where
    pub kept : IsPermutation (offered_in views) (items ++ taken_in views)
    pub whole : sum_by (λ v. v.parts) views ≡ SEATS
    pub spent : All IsEmptyIfSpent views
    pub owner : All OffersNothing (drop 1 views)
    pub seats : ℕ
    pub carried : All (Carries seats) views
    pub alone : seats ≡ 1 → All IsEmpty (drop 1 views)

  -- a deque that keeps the rule, has this view at this place, and holds at most so many branches
  pub record HoldsAtMost (most place : ℕ) (view : SeatView B) : Type 0 where
    pub items : List B
    pub views : List (SeatView B)
    pub rule : IsBalanced items views
    pub seen : get_elem? views place ≡ some view
    pub few : length items ≤ most
