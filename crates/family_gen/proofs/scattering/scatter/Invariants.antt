use Rattle.std.proofs.Common.{◌≡◌, ◌+◌, ◌*◌, map}
use Rattle.std.specs.List.{range_with_len}
use Rattle.cayley.specs.Stored.{file_point}
use Rattle.family_gen.specs.Generator.{number}
use Rattle.family_gen.specs.Scatter.{scattered_support}
use Rattle.family_gen.proofs.scattering.scatter.Given as goal

abbrev pub invariant-loop-turn : goal.invariant-loop-turn
invariant-loop-turn l = record {
  supports : map (λ s. map file_point s.items) l.supports.items ≡ map (scattered_support l.seed l.side l.n l.m) (range_with_len 0 l._turn);
  last : l.generator.last ≡ number l.seed (l._turn * (l.m * (l.n + 1)));
}
