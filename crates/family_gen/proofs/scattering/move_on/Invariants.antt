use Rattle.std.proofs.Common.{◌≡◌, ◌≤◌, ◌++◌, take, drop, length}
use Rattle.family_gen.specs.Scatter.{are_all, next}
use Rattle.family_gen.proofs.scattering.move_on.Given as goal

abbrev pub invariant-carry : goal.invariant-carry
invariant-carry l = record {
  coords : l.coords ≡ take l.place l.fn.coords ++ next l.side (drop l.place l.fn.coords);
  rises : l.rises ≡ are_all l.side (drop l.place l.fn.coords);
  place : l.place ≤ length l.fn.coords;
}

abbrev pub decreases-carry : goal.decreases-carry
decreases-carry l = l.place
