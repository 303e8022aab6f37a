-- Ties: two further points level at one time, or one at two times.
use Rattle.std.specs.Prelude.{◌≡◌, ◌⊎◌, ℕ}
use Rattle.cayley.specs.Times.{Time, IsBefore}
use Rattle.cayley.specs.Problems.{Problem}
use Rattle.cayley.specs.Cells.{Cell, IsOf, IsIndependent}
use Rattle.cayley.specs.Normals.{Normal, IsNormal, IsLevel, NoneBelow}
use Rattle.cayley.specs.Dependencies.{pair_at, IsFurtherAt, nth_support}

-- the point c of support j, counted from 0, is a further point and level
abbrev pub IsLevelAt : Problem → Cell → Time → Normal → ℕ → ℕ → Type 0
IsLevelAt p cell t v j c = IsFurtherAt p cell j c × IsLevel t v (nth_support p.supports j) (pair_at cell j).0 c

-- two different further points are level
abbrev pub TwoLevel : Problem → Cell → Time → Normal → Type 0
TwoLevel p cell t v = (i : ℕ) × (c : ℕ) × (j : ℕ) × (d : ℕ) × ¬ ((i ≡ j) × (c ≡ d)) × IsLevelAt p cell t v i c × IsLevelAt p cell t v j d

-- a further point is level at this time and at another
abbrev pub TwiceLevel : Problem → Cell → Time → Normal → Type 0
TwiceLevel p cell t v = (i : ℕ) × (c : ℕ) × (u : Time) × (w : Normal) × (IsBefore t u ⊎ IsBefore u t) × IsNormal p cell u w × IsLevelAt p cell t v i c × IsLevelAt p cell u w i c

-- an independent cell of the problem, a time and a normal with no further point below, and two level points or one that is level twice
abbrev pub IsTie : Problem → Cell → Time → Normal → Type 0
IsTie p cell t v = IsOf p cell × IsIndependent p cell × IsNormal p cell t v × NoneBelow p cell t v × (TwoLevel p cell t v ⊎ TwiceLevel p cell t v)

-- the cell has no tie at t
abbrev pub IsUntied : Problem → Cell → Time → Type 0
IsUntied p cell t = (v : Normal) → ¬ (IsTie p cell t v)

-- no cell has a tie at any time
abbrev pub IsTieFree : Problem → Type 0
IsTieFree p = (cell : Cell) (t : Time) → IsUntied p cell t
