-- Cells that are alive, mixed cells of the target and their normals in lowest terms.
use Rattle.std.specs.Prelude.{◌≡◌, ℕ, List, ◌∷◌, map, ℤ, pos, ◌<ℤ◌, unsigned_abs}
use Prim.Native.Nat.{◌∣◌}
use Rattle.int_vectors.specs.Vectors.{Each, scale, at}
use Rattle.cayley.specs.Times.{Time, time_zero}
use Rattle.cayley.specs.Problems.{Problem, file_points}
use Rattle.cayley.specs.Cells.{Cell, IsOf, IsIndependent}
use Rattle.cayley.specs.Normals.{Normal, IsNormal, AllAbove}

-- a cell of the problem, independent, and some normal has every further point above
abbrev pub IsAlive : Problem → Cell → Time → Type 0
IsAlive p cell t = IsOf p cell × IsIndependent p cell × ((v : Normal) × IsNormal p cell t v × AllAbove p cell t v)

-- alive at time 0 among the file points alone; where these rest any time serves
abbrev pub IsMixedCell : Problem → Cell → Type 0
IsMixedCell p cell = IsAlive (file_points p) cell time_zero

-- no number but 1 divides all
abbrev pub IsCoprime : List ℤ → Type 0
IsCoprime xs = (d : ℕ) → Each xs (λ x. d ∣ unsigned_abs x) → d ≡ 1

-- v / den is a normal's entries 0
abbrev pub HasFirstEntries : Normal → List ℤ → ℤ → Type 0
HasFirstEntries w v den = scale w.over v ≡ scale den (map (λ e. at e 0) w.entries)

-- the normal of a mixed cell in lowest terms: v / den without a common divisor
abbrev pub IsLowestNormal : Problem → Cell → List ℤ → ℤ → Type 0
IsLowestNormal p cell v den = (pos 0 <ℤ den) × IsCoprime (den ∷ v)
    × ((w : Normal) × IsNormal (file_points p) cell time_zero w × HasFirstEntries w v den)
