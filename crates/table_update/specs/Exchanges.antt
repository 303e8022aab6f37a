-- Rows of which one is replaced.
use Rattle.std.specs.Prelude.{◌≡◌, ℕ, ◌<◌, ◌-◌, List, [], ◌∷◌, length, ℤ, pos, ◌≢◌, Some, slice_index_or, set, take}
use Rattle.int_vectors.specs.Vectors.{Each, at}
use Rattle.reduced_rows.specs.Steps.{pick}
use Rattle.table_update.specs.States.{Split}

-- the rows with another row at a place, counted from 1
abbrev pub with_row : ℕ → List ℤ → List (List ℤ) → List (List ℤ)
with_row place row rows = set rows (place - 1) row

-- the state with another row at a place of the rest, counted from 0
abbrev pub with_rest : ℕ → List ℤ → Split → Split
with_rest k row s = record { done = s.done; rest = set s.rest k row }

-- the first row with an entry in column k stands at the place i
pub record IsFirst (k i : ℕ) (rows : List (List ℤ)) : Type 0 where
  pub inside : i < length rows
  pub none : Each (take i rows) (λ row. at row k ≡ pos 0)
  pub entry : at (slice_index_or rows i []) k ≢ pos 0

-- whatever row the step on column k picks, it picks that one too with another row at the place p; that then stands at the place q
abbrev pub IsPassed : ℕ → ℕ → ℕ → List ℤ → List (List ℤ) → Type 0
IsPassed k p q row rows = (x : List ℤ) (others : List (List ℤ)) → pick k rows ≡ Some (x, others)
    → (q < length others) × (pick k (set rows p row) ≡ Some (x, set others q row))
