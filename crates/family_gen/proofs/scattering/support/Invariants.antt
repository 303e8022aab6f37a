use Rattle.std.proofs.Common.{◌≡◌, ◌+◌, ◌-◌, ◌*◌, ◌++◌, [], map, length}
use Rattle.family_gen.specs.Generator.{number}
use Rattle.family_gen.specs.Scatter.{scattered}
use Rattle.family_gen.specs.Seen.{coordinates_of}
use Rattle.family_gen.proofs.scattering.support.Given as goal

abbrev pub invariant-loop-turn : goal.invariant-loop-turn
invariant-loop-turn l = record {
  points : l.made ++ scattered l.generator.last l.side l.n 1 (l.m - l._turn) (map coordinates_of l.made) ≡ scattered l.fn.generator.last l.side l.n 1 l.m [];
  last : number l.generator.last ((l.m - l._turn) * (l.n + 1)) ≡ number l.fn.generator.last (l.m * (l.n + 1));
  count : length l.made ≡ l._turn;
}
