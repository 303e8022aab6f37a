use Rattle.std.proofs.Common.{◌≡◌}
use Rattle.family_gen.specs.Generator.{number}
use Rattle.family_gen.specs.Scatter.{drawn}
use Rattle.family_gen.proofs.scattering.drawn.Given as goal

abbrev pub invariant-loop-place : goal.invariant-loop-place
invariant-loop-place l = record {
  coords : l.made.items ≡ drawn l.fn.generator.last l.side 1 l._place;
  last : l.generator.last ≡ number l.fn.generator.last l._place;
}
