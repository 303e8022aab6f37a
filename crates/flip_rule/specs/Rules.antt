-- Successors and predecessors by the signs at the pair. Places j count from 0, positions c from 1.
use Rattle.std.specs.Prelude.{◌≡◌, ◌≢◌, ◌⊎◌, ℕ, ◌≤◌}
use Rattle.cayley.specs.declared.found.Sign.{Sign}
use Rattle.cayley.specs.declared.found.Sign.TheVariants.{Minus, Plus}
use Rattle.cayley.specs.Cells.{Cell}
use Rattle.cayley.specs.Dependencies.{pair_at}
use Rattle.cayley.specs.Flips.{for_first, for_second}

-- a position that is not of the pair
abbrev pub IsNewPoint : Cell → ℕ → ℕ → Type 0
IsNewPoint cell j c = (1 ≤ c) × (c ≢ (pair_at cell j).0) × (c ≢ (pair_at cell j).1)

-- c in place of a point whose sign is Minus
abbrev pub IsSuccessor : Cell → ℕ → ℕ → Sign × Sign → Cell → Type 0
IsSuccessor cell j c signs tau = ((tau ≡ for_first cell j c) × (signs.0 ≡ Minus)) ⊎ ((tau ≡ for_second cell j c) × (signs.1 ≡ Minus))

-- the cell itself, or c in place of a point whose sign is Plus
abbrev pub IsPredecessor : Cell → ℕ → ℕ → Sign × Sign → Cell → Type 0
IsPredecessor cell j c signs rho = (rho ≡ cell) ⊎ ((rho ≡ for_first cell j c) × (signs.0 ≡ Plus)) ⊎ ((rho ≡ for_second cell j c) × (signs.1 ≡ Plus))
