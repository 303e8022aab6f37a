-- The two numbers of a wall line, under the normal (p + q t) / den.
use Rattle.std.specs.Prelude.{ℤ, ◌+ℤ◌, ◌-ℤ◌, ◌*ℤ◌}
use Rattle.int_vectors.specs.Vectors.{sub, dot}
use Rattle.int_vectors.specs.Fits.{FitsSum}
use Rattle.cayley.specs.Problems.{Point}
use Rattle.inner_normal.specs.declared.moving.MovingNormal.{MovingNormal}

-- den times how much higher than point a point c is at the time 0
abbrev pub alpha : MovingNormal → Point → Point → ℤ
alpha m a c = m.den *ℤ (c.base -ℤ a.base) +ℤ dot (sub c.coordinates a.coordinates) m.p

-- and how much that grows while the time grows by 1
abbrev pub beta : MovingNormal → Point → Point → ℤ
beta m a c = m.den *ℤ (c.speed -ℤ a.speed) +ℤ dot (sub c.coordinates a.coordinates) m.q

-- what a point has by itself of the growth: the line of a point against another grows by the difference
abbrev pub drift : MovingNormal → Point → ℤ
drift m x = m.den *ℤ x.speed +ℤ dot x.coordinates m.q

-- each number on the way to the two fits
abbrev pub FitsWall : MovingNormal → Point → Point → Type 0
FitsWall m a c =
    FitsSum (m.den *ℤ (c.base -ℤ a.base)) (sub c.coordinates a.coordinates) m.p
    × FitsSum (m.den *ℤ (c.speed -ℤ a.speed)) (sub c.coordinates a.coordinates) m.q
