use Rattle.std.proofs.Common.{◌≡◌, Ok}
use Rattle.poly_text.specs.Bounds.{raised}
use Rattle.poly_text.proofs.terms.raised.Given as goal

abbrev pub invariant-loop-turn : goal.invariant-loop-turn
invariant-loop-turn l = raised l.n l.base l._turn ≡ Ok l.power
