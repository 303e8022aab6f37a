-- The normal of a cell at all times.
use Rattle.std.specs.Prelude.{◌≡◌, List, length, ℤ, pos, ◌*ℤ◌, ◌<ℤ◌}
use Rattle.int_vectors.specs.Vectors.{add, scale, at}
use Rattle.cayley.specs.Times.{Time}
use Rattle.cayley.specs.Problems.{Problem, IsProblem, unperturbed}
use Rattle.cayley.specs.Cells.{Cell, IsOf, IsIndependent}
use Rattle.cayley.specs.Normals.{Normal, IsNormal, HasSameValues, values}
use Rattle.cayley.specs.Mixed.{HasFirstEntries}
use Rattle.inner_normal.specs.declared.moving.MovingNormal.{MovingNormal}

-- the numbers Q p + P q, with entry 0 of the time in the place of P
abbrev pub numerators : Time → List ℤ → List ℤ → List ℤ
numerators t ps qs = add (scale t.over ps) (scale (at t.entries 0) qs)

-- v has the values Q p + P q over Q den
abbrev pub IsAt : MovingNormal → Time → Normal → Type 0
IsAt m t v = (v.over ≡ t.over *ℤ m.den) × (v.entries ≡ values t m.p m.q)

-- (p + q t) / den is the one normal of an independent cell at every time t
pub record IsMovingNormal (p : Problem) (cell : Cell) (m : MovingNormal) : Type 0 where
  pub problem : IsProblem p
  pub of : IsOf p cell
  pub independent : IsIndependent p cell
  pub positive : pos 0 <ℤ m.den
  pub long : (length m.p ≡ p.dimension) × (length m.q ≡ p.dimension)
  -- over the heights without infinitesimals, and every normal there has the same values
  pub whole : (t : Time) → (v : Normal) × IsAt m t v × IsNormal (unperturbed p) cell t v
      × ((w : Normal) → IsNormal (unperturbed p) cell t w → HasSameValues v w)
  -- over the heights as they are, in entry 0 of every normal
  pub first : (t : Time) (v : Normal) → IsNormal p cell t v → HasFirstEntries v (numerators t m.p m.q) (t.over *ℤ m.den)
