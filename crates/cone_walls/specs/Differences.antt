-- In what rows that are kept differ from others.
use Rattle.std.specs.Prelude.{◌≡◌, ℕ, ◌-◌, ◌≤◌, List, [], length, ℤ, slice_index_or}
use Rattle.table_update.specs.Exchanges.{with_row}
use Rattle.cone_walls.specs.declared.kept.Difference.{Difference}
use Rattle.cone_walls.specs.declared.kept.Difference.TheVariants.{Same, One, More}

-- the rows are the kept ones with their own row at the place, which counts from 1
pub record DifferAt (place : ℕ) (kept rows : List (List ℤ)) : Type 0 where
  pub first : 1 ≤ place
  pub last : place ≤ length kept
  pub count : length kept ≡ length rows
  pub exchanged : with_row place (slice_index_or rows (place - 1) []) kept ≡ rows
  pub long : length (slice_index_or rows (place - 1) []) ≡ length (slice_index_or kept (place - 1) [])

-- in none; in one row alone; in anything
abbrev pub IsDifference : List (List ℤ) → List (List ℤ) → Difference → Type 0
IsDifference kept rows Same = kept ≡ rows
IsDifference kept rows (One place) = DifferAt place kept rows
IsDifference kept rows More = Unit {0}
