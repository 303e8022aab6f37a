use Rattle.std.proofs.Common.{FitsSigned, to_z-of_z, subst₂, ◌≡◌}
use Rattle.std.specs.Int.{w128}
use Rattle.std.specs.Ordering.{MatchOrdering}
use Rattle.std.proofs.lemmas.Int.{fits_signed_from_abs}
use Rattle.wide_int.specs.Fractions.{Fraction, IsBelow}
use Rattle.wide_int.proofs.Lowest.{order_is}
use Rattle.wide_int.proofs.fraction.Frac.cmp.Goals as goal

pub returns : goal.returns
returns c =
    let fn : FitsSigned w128 c.self.inside.num = fits_signed_from_abs w128 _ c.self.invariant.2 in
    let fd : FitsSigned w128 c.self.inside.den = fits_signed_from_abs w128 _ c.self.invariant.3 in
    let gn : FitsSigned w128 c.other.inside.num = fits_signed_from_abs w128 _ c.other.invariant.2 in
    let gd : FitsSigned w128 c.other.inside.den = fits_signed_from_abs w128 _ c.other.invariant.3 in
    let f : Fraction = record { num = c.self.inside.num; den = c.self.inside.den } in
    let g : Fraction = record { num = c.other.inside.num; den = c.other.inside.den } in
    subst₂ (λ (p : Fraction) (q : Fraction). MatchOrdering c.compare.result (IsBelow p q) (p ≡ q) (IsBelow q p)) c.self.view_is c.other.view_is (order_is c.compare.result f g c.self.invariant c.other.invariant (simp to_z-of_z at c.compare.ensures))
