-- What the code's containers of terms mean.
use Rattle.std.specs.Prelude.{◌≡◌, ℤ, List, Bool, MatchBool, Ok, Err}
use Rattle.std.specs.Global.{Vec}
use Rattle.poly_text.specs.declared.causes.Cause.TheVariants.{Bound}
use Rattle.poly_text.specs.Maps.{Monomial}
use Rattle.poly_text.specs.Bounds.{Verdict}

-- a stored term
abbrev pub plain : Vec ℤ × ℤ → Monomial
plain t = (t.0.items, t.1)

-- where the answer is yes, the verdict is the new value, and else that a bound was broken
abbrev pub Does : Bool → Verdict (List Monomial) → List Monomial → Type 0
Does done v f = MatchBool done (v ≡ Ok f) (v ≡ Err Bound)
