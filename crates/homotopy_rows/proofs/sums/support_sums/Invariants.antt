use Rattle.std.proofs.Common.{◌≡◌, ℕ, ◌≤◌, map, take}
use Rattle.int_vectors.specs.Fits.{AllFit}
use Rattle.cell_certificate.specs.Sides.{seen}
use Rattle.homotopy_rows.specs.Points.{IsTieAt}
use Rattle.homotopy_rows.specs.Powers.{sums_over}
use Rattle.homotopy_rows.proofs.sums.support_sums.Given as goal

abbrev pub invariant-loop-place : goal.invariant-loop-place
invariant-loop-place l = record {
  made : l.sums.items ≡ take l.place (sums_over l.listed.normal.den l.listed.normal.v (map seen l.points) l.pair.0);
  fits : AllFit l.sums.items;
  free : (c : ℕ) → c ≤ l.place → ¬ (IsTieAt l.listed.normal.den l.listed.normal.v (map seen l.points) l.pair.0 l.pair.1 c);
}
