-- The least of the predecessors. Places j count from 0, positions c from 1.
use Rattle.std.specs.Prelude.{ℕ}
use Rattle.cayley.specs.declared.found.Sign.{Sign}
use Rattle.cayley.specs.Cells.{Cell, IsLess}
use Rattle.flip_rule.specs.Rules.{IsPredecessor}

-- no predecessor is less than the cell, which is one of them
abbrev pub IsLeast : Cell → ℕ → ℕ → Sign × Sign → Type 0
IsLeast cell j c signs = (rho : Cell) → IsPredecessor cell j c signs rho → ¬ (IsLess rho cell)
