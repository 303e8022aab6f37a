use Rattle.std.proofs.Common.{◌≡◌, ◌-◌, ◌≤◌, map, length}
use Rattle.int_vectors.specs.Vectors.{Each}
use Rattle.family_gen.specs.Scatter.{first_free, walk, next_free}
use Rattle.family_gen.specs.Seen.{coordinates_of}
use Rattle.family_gen.proofs.scattering.Scattered.move_to_free.Given as goal

abbrev pub invariant-loop-turn : goal.invariant-loop-turn
invariant-loop-turn l = record {
  free : first_free (map coordinates_of l.self) (walk l.side (length l.self - l._turn) l.coords.items) ≡ next_free l.side (map coordinates_of l.self) l.fn.coords.items;
  within : Each l.coords.items (λ c. c ≤ l.side);
  length : length l.coords.items ≡ length l.fn.coords.items;
}
