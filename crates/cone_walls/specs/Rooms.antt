-- Bounds on a normal that show that all numbers of its wall lines stay within a type.
use Rattle.std.specs.Prelude.{◌≡◌, ◌<◌, ◌≤◌, ◌*◌, ◌^◌, ℕ, ℤ, ◌*ℤ◌, ◌-ℤ◌, unsigned_abs}
use Rattle.int_vectors.specs.Bounds as bounds
use Rattle.int_vectors.specs.Bounds.{Within}
use Rattle.int_vectors.specs.Vectors.{sub}
use Rattle.cayley.specs.Problems.{Problem, Point}
use Rattle.cayley.specs.Reaches.{IsWithinReach}
use Rattle.inner_normal.specs.declared.moving.MovingNormal.{MovingNormal}
use Rattle.cone_walls.specs.declared.rooms.Copies.{Copies}
use Rattle.cone_walls.specs.declared.rooms.Room.{Room}
use Rattle.cone_walls.specs.declared.rooms.Room.TheVariants as room

-- a speed that takes a height from one within its limits to another in one unit of time
abbrev pub IsSpeed : ℤ → Type 0
IsSpeed z = unsigned_abs z ≤ 2000000000

-- below 2 ^ 62, for coordinates of at most `reach`
abbrev pub IsNarrowRoom : ℤ → ℕ → ℕ → Type 0
IsNarrowRoom den most reach = (unsigned_abs den < 2 ^ 29) × (most < 2 ^ 61) × (most * reach < 2 ^ 56)

-- below 2 ^ 127, for every problem
abbrev pub IsWideRoom : ℤ → ℕ → Type 0
IsWideRoom den most = (unsigned_abs den < 2 ^ 90) × (most < 2 ^ 90)

abbrev pub AreCopies : Copies → MovingNormal → Type 0
AreCopies made m = (made.den ≡ m.den) × (made.p.items ≡ m.p) × (made.q.items ≡ m.q)

-- a normal of the problem whose wall lines stay below 2 ^ 62
abbrev pub IsNarrowOf : Problem → MovingNormal → Type 0
IsNarrowOf p m = (most reach : ℕ) × Within most m.p × Within most m.q × IsWithinReach reach p × IsNarrowRoom m.den most reach

-- what is known of a normal of the problem
abbrev pub IsRoomOf : Problem → MovingNormal → Room → Type 0
IsRoomOf p m (room.Narrow copies) = AreCopies copies m × IsNarrowOf p m
IsRoomOf p m room.Wide = (most : ℕ) × Within most m.p × Within most m.q × IsWideRoom m.den most
IsRoomOf p m room.Unknown = Unit {0}

-- the numbers of one wall line stay below the limit
abbrev pub HasRoom : ℕ → MovingNormal → Point → Point → Type 0
HasRoom limit m a c =
    bounds.Room limit (m.den *ℤ (c.base -ℤ a.base)) (sub c.coordinates a.coordinates) m.p
    × bounds.Room limit (m.den *ℤ (c.speed -ℤ a.speed)) (sub c.coordinates a.coordinates) m.q

-- what is known of one wall line
abbrev pub IsRoomAt : MovingNormal → Point → Point → Room → Type 0
IsRoomAt m a c (room.Narrow copies) = AreCopies copies m × HasRoom (2 ^ 62) m a c
IsRoomAt m a c room.Wide = HasRoom (2 ^ 127) m a c
IsRoomAt m a c room.Unknown = Unit {0}
