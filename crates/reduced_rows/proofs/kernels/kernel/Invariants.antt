use Rattle.std.proofs.Common.{◌≡◌, pos, ◌++◌, ◌∷◌}
use Rattle.int_vectors.specs.Fits.{AllFit}
use Rattle.int_vectors.specs.Vectors.{zeros}
use Rattle.reduced_rows.specs.Denominators.{shares, lcm_from}
use Rattle.reduced_rows.proofs.kernels.kernel.Given as goal

abbrev pub invariant-loop-turn : goal.invariant-loop-turn
invariant-loop-turn l = record {
  made : l.entries.items ≡ shares l.k 0 (lcm_from 0 1 l.done) l.done ++ (pos (lcm_from 0 1 l.done) ∷ zeros l._turn);
  all : AllFit l.entries.items;
}
