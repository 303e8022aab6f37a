use Rattle.std.proofs.Common.{◌≡◌, ◌↔◌, drop, pos, ◌<ℤ◌, unsigned_abs}
use Rattle.wide_int.specs.Whole.{FitsWhole}
use Rattle.reduced_rows.specs.Denominators.{FitsLcm, lcm_from}
use Rattle.reduced_rows.proofs.denominators.lcm_of_pivots.Given as goal

abbrev pub invariant-loop-j : goal.invariant-loop-j
invariant-loop-j l = record {
  fits : FitsWhole l.l;
  positive : pos 0 <ℤ l.l;
  value : lcm_from l.j (unsigned_abs l.l) (drop l.j l.done) ≡ lcm_from 0 1 l.done;
  rest : FitsLcm 0 1 l.done ↔ FitsLcm l.j (unsigned_abs l.l) (drop l.j l.done);
}
