-- The signs at the two points of a pair.
use Rattle.std.specs.Prelude.{◌≡◌, ◌⊎◌}
use Rattle.cayley.specs.declared.found.Sign.{Sign}
use Rattle.cayley.specs.declared.found.Sign.TheVariants.{Minus}

-- one of the two is Minus
abbrev pub HasMinus : Sign × Sign → Type 0
HasMinus signs = (signs.0 ≡ Minus) ⊎ (signs.1 ≡ Minus)
