use Rattle.std.proofs.Common.{◌≡◌, ◌≤◌, ℕ, map, take}
use Rattle.plain_lister.specs.Choices.{pairs_of, product}
use Rattle.plain_lister.proofs.counting.excess.Given as goal

abbrev pub invariant-loop-count : goal.invariant-loop-count
invariant-loop-count l = record {
  choices : l.choices ≡ product (take l.count-index (map pairs_of l.counts));
  below : (j : ℕ) → j ≤ l.count-index → product (take j (map pairs_of l.counts)) ≤ 1000000;
}
