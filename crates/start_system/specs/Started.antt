-- Problems with corners: the file whose path they are, where the search of them begins, and what it finds.
use Rattle.std.specs.Prelude.{◌≡◌, ◌↔◌, ℕ, ◌-◌, List, Some, length, map, ℤ, pos, ◌≤ℤ◌}
use Rattle.int_vectors.specs.Vectors.{Each}
use Rattle.cayley.specs.Times.{Time}
use Rattle.cayley.specs.Problems.{version2, Problem, first_points}
use Rattle.cayley.specs.Files.{File}
use Rattle.cayley.specs.Stored.{held}
use Rattle.cayley.specs.Paths.{path, start_cell}
use Rattle.cayley.specs.Cells.{Cell, IsOf, IsListOf}
use Rattle.cayley.specs.Mixed.{IsAlive, IsMixedCell}
use Rattle.cayley.specs.Lives.{AliveEarly}
use Rattle.cayley.specs.Lives.Begin.{at_start}
use Rattle.cayley.specs.Parents.{IsInTree}
use Rattle.cayley.specs.Shares.{Branch, IsShare, IsSize}
use Rattle.cayley.specs.Ties.{IsTieFree}

-- for each of n supports the start heights of n - 1 corners, of at least 1
abbrev pub AreStarts : ℕ → List (List ℤ) → Type 0
AreStarts n starts = (length starts ≡ n) × Each starts (λ s. (length s ≡ n - 1) × Each s (λ z. pos 1 ≤ℤ z))

-- the file of a problem's file points and of these start heights
abbrev pub file_with : Problem → List (List ℤ) → File
file_with p starts = record {
  version = p.version;
  dimension = p.dimension;
  supports = map (map held) (first_points p.files p.supports);
  starts = Some starts;
}

-- the path of its own file points with some start heights of at least 1
abbrev pub IsStarted : Problem → Type 0
IsStarted p = (starts : List (List ℤ)) × AreStarts p.dimension starts × (p ≡ path (file_with p starts))

-- the branch from which the search begins
abbrev pub start_branch : Problem → Branch
start_branch p = record { cell = start_cell p; begin = at_start }

-- the cell is alive at all early times, and no other cell is
abbrev pub IsOnlyEarly : Problem → Cell → Type 0
IsOnlyEarly p start = AliveEarly p start × ((cell : Cell) → AliveEarly p cell → cell ≡ start)

-- the share of the start branch is the list of all mixed cells of the target
abbrev pub FindsAllMixed : Problem → Type 0
FindsAllMixed p = (cells : List Cell) → IsShare p (start_branch p) cells ↔ IsListOf (IsMixedCell p) cells

-- each cell that is alive at some time is in the path tree
abbrev pub ReachesAllAlive : Problem → Type 0
ReachesAllAlive p = (cell : Cell) (t : Time) → IsAlive p cell t → IsInTree p (start_cell p) cell

-- how many cells the path tree has
abbrev pub IsTreeSize : Problem → ℕ → Type 0
IsTreeSize p n = (cells : List Cell) × IsListOf (IsInTree p (start_cell p)) cells × (length cells ≡ n)

-- the size of the start branch is the size of the path tree
abbrev pub HasTreeSize : Problem → Type 0
HasTreeSize p = (n : ℕ) → IsSize p (start_branch p) n ↔ IsTreeSize p n

-- what holds of a problem whose search misses nothing where there is no tie
pub record IsSearched (p : Problem) : Type 0 where
  pub of : IsOf p (start_cell p)
  pub early : IsOnlyEarly p (start_cell p)
  pub size : HasTreeSize p
  pub complete : IsTieFree p → FindsAllMixed p × ReachesAllAlive p
  pub perturbed : p.version ≡ version2 → IsTieFree p
