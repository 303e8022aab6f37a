-- What a wall line over 64 bits needs of its normal and its two points.
use Rattle.std.specs.Prelude.{◌≡◌, ◌^◌, ◌*ℤ◌, length}
use Rattle.int_vectors.specs.Vectors.{Each}
use Rattle.int_vectors.specs.Bounds.{IsNarrow, Room}
use Rattle.cayley.specs.Problems.{Point}
use Rattle.cayley.specs.Valid.{IsCornerCoordinate, IsHeight}
use Rattle.inner_normal.specs.declared.moving.MovingNormal.{MovingNormal}
use Rattle.cone_walls.specs.Rooms.{IsSpeed, HasRoom}

-- as many coordinates as the normal, within their limits, and a height and a speed within theirs
pub record IsNearPoint (m : MovingNormal) (x : Point) : Type 0 where
  pub p_long : length x.coordinates ≡ length m.p
  pub q_long : length x.coordinates ≡ length m.q
  pub small : Each x.coordinates IsCornerCoordinate
  pub high : IsHeight x.base
  pub fast : IsSpeed x.speed

-- the numbers of the normal, and each sum on the way to the line of c against a, stay below 2 ^ 62
pub record IsNarrowLine (m : MovingNormal) (a c : Point) : Type 0 where
  pub den : IsNarrow m.den
  pub p_small : Each m.p IsNarrow
  pub q_small : Each m.q IsNarrow
  pub from : IsNearPoint m a
  pub to : IsNearPoint m c
  pub room : HasRoom (2 ^ 62) m a c

-- the numbers of the normal, and each sum on the way to the drift of a point, stay below 2 ^ 62
pub record IsNarrowDrift (m : MovingNormal) (x : Point) : Type 0 where
  pub den : IsNarrow m.den
  pub q_small : Each m.q IsNarrow
  pub near : IsNearPoint m x
  pub room : Room (2 ^ 62) (m.den *ℤ x.speed) x.coordinates m.q
