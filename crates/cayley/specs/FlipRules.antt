-- Successors, predecessors and the kept child, by the two signs at the pair.
use Rattle.std.specs.Prelude.{ℕ, zero, suc, ◌<◌, List, [], ◌∷◌}
use Rattle.cayley.specs.declared.found.Sign.{Sign}
use Rattle.cayley.specs.declared.found.Sign.TheVariants.{Minus, Zero, Plus}
use Rattle.cayley.specs.Cells.{Cell}
use Rattle.cayley.specs.Dependencies.{pair_at}
use Rattle.cayley.specs.Flips.{for_first, for_second}

-- with the cell in front where the sign is Minus
abbrev pub taken : Sign → Cell → List Cell → List Cell
taken Minus x cells = x ∷ cells
taken Zero x cells = cells
taken Plus x cells = cells

-- at most two cells in cell order, one at least where a sign is Minus; a is the sign at the first point of the pair, b at the second
abbrev pub successors_by : Cell → ℕ → ℕ → Sign → Sign → List Cell
successors_by cell j c a b = taken b (for_second cell j c) (taken a (for_first cell j c) [])

abbrev pub PastWhere : Sign → ℕ → ℕ → Type 0
PastWhere Minus x c = Unit {0}
PastWhere Zero x c = Unit {0}
PastWhere Plus x c = x < c

-- the cell keeps its successors exactly where c stands past each point of the pair with the sign Plus
abbrev pub KeepsBy : Cell → ℕ → ℕ → Sign → Sign → Type 0
KeepsBy cell j c a b = PastWhere a (pair_at cell j).0 c × PastWhere b (pair_at cell j).1 c

-- the cell and a flip in cell order: the cell first where c stands past the point x that goes
abbrev pub in_order : ℕ → ℕ → Cell → Cell → List Cell
in_order x zero cell flip = flip ∷ cell ∷ []
in_order zero (suc c) cell flip = cell ∷ flip ∷ []
in_order (suc x) (suc c) cell flip = in_order x c cell flip

-- none where both signs are Plus, which no dependency that is positive at c has; else one or two cells in cell order
abbrev pub predecessors_by : Cell → ℕ → ℕ → Sign → Sign → List Cell
predecessors_by cell j c Minus Minus = cell ∷ []
predecessors_by cell j c Minus Zero = cell ∷ []
predecessors_by cell j c Zero Minus = cell ∷ []
predecessors_by cell j c Zero Zero = cell ∷ []
predecessors_by cell j c Plus Minus = in_order (pair_at cell j).0 c cell (for_first cell j c)
predecessors_by cell j c Plus Zero = in_order (pair_at cell j).0 c cell (for_first cell j c)
predecessors_by cell j c Minus Plus = in_order (pair_at cell j).1 c cell (for_second cell j c)
predecessors_by cell j c Zero Plus = in_order (pair_at cell j).1 c cell (for_second cell j c)
predecessors_by cell j c Plus Plus = []
