-- Flips at a wall: the cells that a cell becomes, and those that become the same.
use Rattle.std.specs.Prelude.{ℕ, zero, suc, [], ◌∷◌, ◌≡◌, ◌⊎◌, ◌↔◌, ℤ, pos, ◌<ℤ◌}
use Rattle.cayley.specs.Times.{Time, IsBefore}
use Rattle.cayley.specs.Problems.{Problem}
use Rattle.cayley.specs.Cells.{Cell, IsLess}
use Rattle.cayley.specs.Normals.{Normal, IsNormal, NoneBelow}
use Rattle.cayley.specs.Lives.{BeginsAt}
use Rattle.cayley.specs.Parents.{Precedes, IsParent}
use Rattle.cayley.specs.Dependencies.{pair_at}
use Rattle.cayley.specs.Ties.{IsLevelAt}

abbrev pub lesser : ℕ → ℕ → ℕ
lesser zero b = zero
lesser (suc a) zero = zero
lesser (suc a) (suc b) = suc (lesser a b)

abbrev pub greater : ℕ → ℕ → ℕ
greater zero b = b
greater (suc a) zero = suc a
greater (suc a) (suc b) = suc (greater a b)

-- two positions as a pair, in rising order
abbrev pub rising : ℕ → ℕ → ℕ × ℕ
rising a b = (lesser a b, greater a b)

-- the cell with another pair at a place
abbrev pub put_pair : Cell → ℕ → ℕ × ℕ → Cell
put_pair [] j y = []
put_pair (x ∷ cell) zero y = y ∷ cell
put_pair (x ∷ cell) (suc j) y = x ∷ put_pair cell j y

-- the cell that takes c in place of the first point of its pair j
abbrev pub for_first : Cell → ℕ → ℕ → Cell
for_first cell j c = put_pair cell j (rising (pair_at cell j).1 c)

-- the cell that takes c in place of the second point of its pair j
abbrev pub for_second : Cell → ℕ → ℕ → Cell
for_second cell j c = put_pair cell j (rising (pair_at cell j).0 c)

-- of all further points of the cell, the point c of support j alone is level
abbrev pub IsOnlyLevel : Problem → Cell → Time → Normal → ℕ → ℕ → Type 0
IsOnlyLevel p cell t v j c = IsLevelAt p cell t v j c × ((i d : ℕ) → IsLevelAt p cell t v i d → (i ≡ j) × (d ≡ c))

-- c in place of a point whose number is negative; m has the numbers at the first and the second point of the pair
abbrev pub IsSuccessorAt : Cell → ℕ → ℕ → ℤ × ℤ → Cell → Type 0
IsSuccessorAt cell j c m tau = ((tau ≡ for_second cell j c) × (m.1 <ℤ pos 0)) ⊎ ((tau ≡ for_first cell j c) × (m.0 <ℤ pos 0))

-- the cell itself, or c in place of a point whose number is positive
abbrev pub IsPredecessorAt : Cell → ℕ → ℕ → ℤ × ℤ → Cell → Type 0
IsPredecessorAt cell j c m rho = (rho ≡ cell) ⊎ ((rho ≡ for_second cell j c) × (pos 0 <ℤ m.1)) ⊎ ((rho ≡ for_first cell j c) × (pos 0 <ℤ m.0))

-- no predecessor is less than the cell
abbrev pub IsLeastPredecessor : Cell → ℕ → ℕ → ℤ × ℤ → Type 0
IsLeastPredecessor cell j c m = (rho : Cell) → IsPredecessorAt cell j c m rho → ¬ (IsLess rho cell)

-- what the numbers m tell at the wall of the point c of support j, at time t
pub record Flips (p : Problem) (cell : Cell) (j c : ℕ) (m : ℤ × ℤ) (t : Time) : Type 0 where
  -- the successors are exactly the cells that the cell precedes
  pub successors : (tau : Cell) → IsSuccessorAt cell j c m tau ↔ Precedes p cell tau t
  -- the predecessors are exactly the cells that precede a successor
  pub predecessors : (rho : Cell) → IsPredecessorAt cell j c m rho ↔ ((tau : Cell) × IsSuccessorAt cell j c m tau × Precedes p rho tau t)
  -- each predecessor precedes each successor
  pub crosses : (rho tau : Cell) → IsPredecessorAt cell j c m rho → IsSuccessorAt cell j c m tau → Precedes p rho tau t
  -- each successor begins at t
  pub begins : (tau : Cell) → IsSuccessorAt cell j c m tau → BeginsAt p tau t
  -- the cell is the least predecessor exactly where it is the parent of the successor
  pub keeps : (tau : Cell) → IsSuccessorAt cell j c m tau → IsLeastPredecessor cell j c m ↔ IsParent p cell tau

-- with no further point below exactly one is level, and at no other time
pub record OneLevel (p : Problem) (cell : Cell) (t : Time) : Type 0 where
  pub v : Normal
  pub normal : IsNormal p cell t v
  pub none_below : NoneBelow p cell t v
  pub j : ℕ
  pub c : ℕ
  pub only : IsOnlyLevel p cell t v j c
  pub once : (u : Time) (w : Normal) → IsBefore t u ⊎ IsBefore u t → IsNormal p cell u w → ¬ (IsLevelAt p cell u w j c)
