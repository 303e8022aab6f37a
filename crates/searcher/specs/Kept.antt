-- The children that a cell keeps at a wall. Places j count from 0, positions c from 1.
use Rattle.std.specs.Prelude.{◌≡◌, ℕ}
use Rattle.lex_height.specs.Entries.{entries}
use Rattle.lex_height.specs.Values as lex
use Rattle.cayley.specs.declared.found.Sign.{Sign}
use Rattle.cayley.specs.declared.found.Begin.TheVariants.{At}
use Rattle.cayley.specs.Times.{Time}
use Rattle.cayley.specs.Problems.{Problem}
use Rattle.cayley.specs.Cells.{Cell}
use Rattle.cayley.specs.Lives.{EndsAt}
use Rattle.cayley.specs.Parents.{IsParent}
use Rattle.flip_rule.specs.Walls.{IsWall}
use Rattle.searcher.specs.declared.branches.Branch.{Branch}

-- the cell ends at the time u, where of all further points c of support j alone is level
pub record EndsAtWall (p : Problem) (cell : Cell) (j c : ℕ) (signs : Sign × Sign) (u : lex.Value) : Type 0 where
  pub t : Time
  pub same_entries : t.entries ≡ entries u.parts
  pub same_over : t.over ≡ u.den
  pub ends : EndsAt p cell t
  pub wall : IsWall p cell j c signs t

-- the branch of tau, whose parent is the cell, with the time u
abbrev pub IsKept : Problem → Cell → lex.Value → Cell → Branch → Type 0
IsKept p cell u tau branch = IsParent p cell tau × (branch ≡ record { cell = tau; begin = At u })
