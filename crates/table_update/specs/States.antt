-- The states of an elimination: the rows after each of its steps, in two lists.
use Rattle.std.specs.Prelude.{◌≡◌, ◌≤◌, ℕ, zero, suc, List, [], ◌∷◌, ◌++◌, length, map, ℤ, Option, Some, None, slice_index_or}
use Rattle.int_vectors.specs.Contents.{primitive}
use Rattle.int_vectors.specs.RowSteps.{cleaned}
use Rattle.reduced_rows.specs.Steps.{OfLength, signed, pick, FitsCleanedAll}

-- the rows that were picked, and the rest in their order
pub record Split : Type 0 where
  pub done : List (List ℤ)
  pub rest : List (List ℤ)

-- before the first step each row is divided by the gcd of its entries
abbrev pub start : List (List ℤ) → Split
start rows = record { done = []; rest = map primitive rows }

-- the state after the step that picked a row and left the others; the same state where no row was picked
abbrev pub by_picked : ℕ → Split → Option (List ℤ × List (List ℤ)) → Split
by_picked k s None = s
by_picked k s (Some p) = record {
  done = map (cleaned k (signed k p.0)) s.done ++ signed k p.0 ∷ [];
  rest = map (cleaned k (signed k p.0)) p.1;
}

-- the state after the step on column k
unfoldable pub next : ℕ → Split → Split
next k s = by_picked k s (pick k s.rest)

-- the state of the rows after k steps
unfoldable pub state_after : ℕ → List (List ℤ) → Split
state_after zero rows = start rows
state_after (suc k) rows = next k (state_after k rows)

-- the step's numbers fit, where a row was picked
abbrev pub FitsPicked : ℕ → Split → Option (List ℤ × List (List ℤ)) → Type 0
FitsPicked k s None = ⊥
FitsPicked k s (Some p) = FitsCleanedAll k (signed k p.0) s.done × FitsCleanedAll k (signed k p.0) p.1

-- the step on column k has its row, and its numbers fit
unfoldable pub HasStep : ℕ → Split → Type 0
HasStep k s = FitsPicked k s (pick k s.rest)

-- so has each of the first k steps
unfoldable pub HasSteps : ℕ → List (List ℤ) → Type 0
HasSteps zero rows = Unit {0}
HasSteps (suc k) rows = HasSteps k rows × HasStep k (state_after k rows)

-- the states up to that after k steps, in order
unfoldable pub AreStates : ℕ → List (List ℤ) → List Split → Type 0
AreStates k rows states = (j : ℕ) → j ≤ k → slice_index_or states j (record { done = []; rest = [] }) ≡ state_after j rows

-- rows, the states of their elimination, and their reduced rows
pub record Elimination : Type 0 where
  pub rows : List (List ℤ)
  pub states : List Split
  pub reduced : List (List ℤ)

-- as many columns are cleared as there are rows; each step has its row, each number fits, each state stands at its place
unfoldable pub IsElimination : Elimination → Type 0
IsElimination e = (width : ℕ) × (length e.rows ≤ width) × OfLength width e.rows × HasSteps (length e.rows) e.rows
    × (length e.states ≡ suc (length e.rows)) × AreStates (length e.rows) e.rows e.states
    × (e.reduced ≡ (state_after (length e.rows) e.rows).done)
