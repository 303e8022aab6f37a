-- The parts of a pool: workers, passes, and how a deque's SEATS parts are dealt to the seats.
use Rattle.std.specs.Prelude.{◌≡◌, ℕ, ◌-◌, ◌+◌, List, [], ◌∷◌, cond, ◌==◌, min, map, length, slice_set, None}
use Rattle.std.specs.List.{All, flat_map, range_with_len}
use Rattle.std.specs.Global.{Global}
use Rattle.crossbeam_deque.specs.Handles.{Pass, view, worker_view, worker_flavor, worker_port}
use Rattle.crossbeam_deque.specs.declared.handles.Worker.{Worker}
use Rattle.branch_pool.specs.declared.rule.PoolRule.{PoolRule}
use Rattle.branch_pool.specs.declared.rule.SeatView.{SeatView}
use Rattle.branch_pool.specs.declared.rule.TheConstants.{SEATS}
use Rattle.branch_pool.specs.Rule.{view_of}
use Rattle.branch_pool.specs.Seats.{DequeId}

-- each has its property at its number, the first at k
abbrev pub Numbered : {X : Type 0} → (ℕ → X → Type 0) → ℕ → List X → Type 0
Numbered P k [] = Unit {0}
Numbered P k (x ∷ xs) = P k x × Numbered P (k + 1) xs

-- the second list's numbers are added to the first ones of the first
abbrev pub added : List ℕ → List ℕ → List ℕ
added [] ys = []
added (x ∷ xs) [] = x ∷ xs
added (x ∷ xs) (y ∷ ys) = (x + y) ∷ added xs ys

module _ {B : Type 0} where
  -- what a worker knows of its deque
  abbrev pub own_offered : Worker B Global (SeatView B) PoolRule → List B
  own_offered w = (worker_view w).offered

  abbrev pub own_taken : Worker B Global (SeatView B) PoolRule → List B
  own_taken w = (worker_view w).taken

  abbrev pub own_parts : Worker B Global (SeatView B) PoolRule → ℕ
  own_parts w = (worker_view w).parts

  -- its deque is newest first, and its view is the first
  abbrev pub IsOwner : Worker B Global (SeatView B) PoolRule → Type 0
  IsOwner w = (worker_flavor w ≡ 1) × (worker_port w ≡ 0)

  -- what a pass knows of its deque
  abbrev pub pass_taken : Pass B (SeatView B) Global → List B
  pass_taken p = p.me.view.client.taken

  abbrev pub pass_parts : Pass B (SeatView B) Global → ℕ
  pass_parts p = p.me.view.client.parts

  -- nothing was offered through it, and it carries nothing
  abbrev pub IsQuiet : Pass B (SeatView B) Global → Type 0
  IsQuiet p = (p.me.hand ≡ None) × (p.me.spare ≡ None) × (p.me.view.client.offered ≡ [])

  -- what a seat took, deque by deque: its worker tells of its own deque, and its passes of the others
  abbrev pub taken_with : ℕ → List B → List (List B) → List (List B)
  taken_with number own others = slice_set others (number - 1) own

-- the parts of a seat's passes: none of the own deque, one of each other
abbrev pub row : ℕ → ℕ → List ℕ
row number seats = map (λ k. cond (k == number) 0 1) (range_with_len 1 seats)

-- 1 where k is at most m
abbrev pub one_if_upto : ℕ → ℕ → ℕ
one_if_upto k m = min 1 (m + 1 - k)

-- the parts that the worker of deque k keeps when the rows 1 to m are dealt, and the next row as far as `at`
abbrev pub keeps : ℕ → ℕ → ℕ → ℕ
keeps m at k = (SEATS - m) + one_if_upto k m - cond (k == m + 1) 0 (one_if_upto k at)

-- what the workers know then
abbrev pub worker_views : {B : Type 0} → ℕ → ℕ → ℕ → ℕ → List (SeatView B)
worker_views seats m at n = map (λ k. view_of seats (keeps m at k) [] []) (range_with_len 1 n)

-- what the first passes of a row know
abbrev pub pass_views : {B : Type 0} → ℕ → ℕ → ℕ → List (SeatView B)
pass_views seats number n = map (λ k. view_of (cond (k == number) 0 seats) (cond (k == number) 0 1) [] []) (range_with_len 1 n)

-- the passes of the seat of this number, as they are dealt
pub record IsRow {B : Type 0} (deques : List DequeId) (number : ℕ) (ps : List (Pass B (SeatView B) Global)) : Type 0 where
  pub own : map (λ p. (p.rows, p.heap)) ps ≡ deques
  pub views : map (λ p. view p) ps ≡ pass_views (length deques) number (length deques)
  pub quiet : All (λ p. (p.me.hand ≡ None) × (p.me.spare ≡ None)) ps

-- the passes of the seat of this number, as they are when the pool closes
pub record IsUsedRow {B : Type 0} (deques : List DequeId) (number : ℕ) (ps : List (Pass B (SeatView B) Global)) : Type 0 where
  pub own : map (λ p. (p.rows, p.heap)) ps ≡ deques
  pub parts : map (λ p. p.me.view.client.parts) ps ≡ row number (length deques)
  pub quiet : All (λ p. (p.me.hand ≡ None) × (p.me.spare ≡ None) × (p.me.view.client.offered ≡ [])) ps
