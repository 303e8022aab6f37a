-- What contracts see of a pool and of a seat.
use Rattle.std.specs.Prelude.{◌≡◌, ℕ, ◌-◌, ◌+◌, List, [], ◌∷◌, ◌++◌, map, length, slice_index_or, slice_set, IsPermutation}
use Rattle.std.specs.List.{All, flat_map, range_with_len}
use Rattle.atomic_blocks.specs.Lent.{RowsId}
use Rattle.std.specs.Global.{Global}
use Rattle.branch_pool.specs.declared.rule.SeatView.{SeatView}
use Rattle.branch_pool.specs.declared.rule.TheConstants.{SEATS}
use Rattle.branch_pool.specs.Rule.{view_of}

-- which deque it is
abbrev pub DequeId : Type 0
DequeId = RowsId × Global

-- a pool has a deque for each seat, that of seat 1 first
pub record PoolData : Type 0 where
  pub deques : List DequeId

-- what a seat offered, to its own deque, and what it took, a list for each deque; each list in order. Seats and deques are numbered from 1
pub record SeatData (B : Type 0) : Type 0 where
  pub number : ℕ
  pub deques : List DequeId
  pub offered : List B
  pub taken : List (List B)

module _ {B : Type 0} where
  -- a seat of this pool
  abbrev pub IsSeatOf : PoolData → SeatData B → Type 0
  IsSeatOf p s = s.deques ≡ p.deques

  -- what a seat took from the deque of seat k
  abbrev pub taken_from : SeatData B → ℕ → List B
  taken_from s k = slice_index_or s.taken (k - 1) []

  -- all that a seat took
  abbrev pub all_taken : SeatData B → List B
  all_taken s = flat_map (λ l. l) s.taken

  -- a seat that has offered one branch more
  abbrev pub with_offered : SeatData B → B → SeatData B
  with_offered s b = record s { offered = s.offered ++ b ∷ [] }

  -- a seat that has taken one branch more, from the deque of seat k
  abbrev pub with_taken : SeatData B → ℕ → B → SeatData B
  with_taken s k b = record s { taken = slice_set s.taken (k - 1) (taken_from s k ++ b ∷ []) }

  -- what the own deque's rule knows of a seat
  abbrev pub own_view : SeatData B → SeatView B
  own_view s = view_of (length s.deques) (SEATS + 1 - length s.deques) s.offered (taken_from s s.number)

  -- what the rule of the deque of another seat, k, knows of it
  abbrev pub other_view : SeatData B → ℕ → SeatView B
  other_view s k = view_of (length s.deques) 1 [] (taken_from s k)

  -- the seat of this number in a new pool
  abbrev pub fresh_seat : List DequeId → ℕ → SeatData B
  fresh_seat deques number = record { number = number; deques = deques; offered = []; taken = map (λ d. []) deques }

  -- the seats 1 to n of a new pool
  abbrev pub fresh_seats : PoolData → ℕ → List (SeatData B)
  fresh_seats p n = map (λ k. fresh_seat p.deques k) (range_with_len 1 n)

  -- these are all seats of the pool, each once
  pub record AreAllSeats (p : PoolData) (seats : List (SeatData B)) : Type 0 where
    pub own : All (λ s. IsSeatOf p s) seats
    pub each_once : IsPermutation (map (λ s. s.number) seats) (range_with_len 1 (length p.deques))

  -- all that the seats offered
  abbrev pub offered_by : List (SeatData B) → List B
  offered_by seats = flat_map (λ s. s.offered) seats

  -- all that they took
  abbrev pub taken_by : List (SeatData B) → List B
  taken_by seats = flat_map (λ s. all_taken s) seats
