use Rattle.std.proofs.Common.{length, ◌-◌, ◌≡◌, ◌+◌, ◌≤◌, map, drop, string_bytes}
use Rattle.mixedcells.specs.Words as spec
use Rattle.mixedcells.proofs.words.pass.seed_place.Given as goal

abbrev pub invariant-loop-place : goal.invariant-loop-place
invariant-loop-place l = (l.place ≤ length l.words) × (l.place + spec.seed_place (drop l.place (map string_bytes l.words)) ≡ spec.seed_place (map string_bytes l.words))

abbrev pub decreases-loop-place : goal.decreases-loop-place
decreases-loop-place l = length l.words - l.place
