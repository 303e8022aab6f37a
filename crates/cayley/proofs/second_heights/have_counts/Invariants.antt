use Rattle.std.proofs.Common.{◌≡◌, ℕ, ◌<◌, length, map}
use Rattle.std.specs.Prelude.{slice_index_or}
use Rattle.cayley.proofs.second_heights.have_counts.Given as goal

abbrev pub invariant-loop-i : goal.invariant-loop-i
invariant-loop-i l = record {
  long : length l.supports ≡ length l.second;
  same : (k : ℕ) → k < l.i → slice_index_or (map (λ s. length s.items) l.second) k 0 ≡ slice_index_or (map (λ s. length s.items) l.supports) k 0;
}
