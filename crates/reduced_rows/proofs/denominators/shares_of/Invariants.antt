use Rattle.std.proofs.Common.{◌≡◌, take, unsigned_abs}
use Rattle.int_vectors.specs.Fits.{AllFit}
use Rattle.reduced_rows.specs.Denominators.{FitsShares, shares}
use Rattle.reduced_rows.proofs.denominators.shares_of.Given as goal

abbrev pub invariant-loop-j : goal.invariant-loop-j
invariant-loop-j l = record {
  made : l.entries.items ≡ shares l.k 0 (unsigned_abs l.l) (take l.j l.done);
  fitted : FitsShares l.k 0 (unsigned_abs l.l) (take l.j l.done);
  all : AllFit l.entries.items;
}
