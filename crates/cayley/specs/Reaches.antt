-- How far coordinates are from zero.
use Rattle.std.specs.Prelude.{ℕ}
use Rattle.std.specs.List.{All}
use Rattle.int_vectors.specs.Vectors.{Each}
use Rattle.int_vectors.specs.Bounds.{Within}
use Rattle.cayley.specs.Problems.{Point, Problem}
use Rattle.cayley.specs.declared.points.Point.{Point as StoredPoint}
use Rattle.cayley.specs.declared.points.Support.{Support}

-- no coordinate of a point has an absolute value above r
abbrev pub IsWithinReach : ℕ → Problem → Type 0
IsWithinReach r p = Each p.supports (λ s. Each s (λ (x : Point). Within r x.coordinates))

-- the same of a stored support
abbrev pub IsStoredReach : ℕ → Support → Type 0
IsStoredReach r s = All (λ (x : StoredPoint). Within r x.coords) s.points.items
