use Rattle.std.proofs.Common.{◌↔◌, ◌≤◌, ℕ, map}
use Rattle.std.specs.Prelude.{IsTrue}
use Rattle.cell_certificate.specs.Sides.{seen}
use Rattle.cell_certificate.specs.Sums.{FitsAt, RisesAt, UntiedAt}
use Rattle.cell_certificate.proofs.sides.further_sides.Given as goal

abbrev pub invariant-loop-place : goal.invariant-loop-place
invariant-loop-place l = record {
  fits : (c : ℕ) → c ≤ l.place → FitsAt l.normal.den l.normal.v (map seen l.points) l.pair.0 l.pair.1 c;
  above : IsTrue l.sides.above ↔ ((c : ℕ) → c ≤ l.place → RisesAt l.normal.den l.normal.v (map seen l.points) l.pair.0 l.pair.1 c);
  untied : IsTrue l.sides.untied ↔ ((c : ℕ) → c ≤ l.place → UntiedAt l.normal.den l.normal.v (map seen l.points) l.pair.0 l.pair.1 c);
}
