use Rattle.std.proofs.Common.{FitsSigned, to_z-of_z, subst₂, ◌≡◌}
use Rattle.std.specs.Int.{w128}
use Rattle.std.specs.Ordering.{MatchOrdering}
use Rattle.std.proofs.lemmas.Int.{fits_signed_from_abs}
use Rattle.lex_height.specs.Values.{Value, IsBelow}
use Rattle.lex_height.proofs.Forms.{order_is}
use Rattle.lex_height.proofs.lex.Lex.cmp.Goals as goal

pub returns : goal.returns
returns c =
    let fp : FitsSigned w128 c.self.inside.den = fits_signed_from_abs w128 _ c.self.invariant.0.3 in
    let fq : FitsSigned w128 c.other.inside.den = fits_signed_from_abs w128 _ c.other.invariant.0.3 in
    let v : Value = record { parts = c.self.inside.parts; den = c.self.inside.den } in
    let w : Value = record { parts = c.other.inside.parts; den = c.other.inside.den } in
    subst₂ (λ (p : Value) (q : Value). MatchOrdering c.compare_parts.result (IsBelow p q) (p ≡ q) (IsBelow q p)) c.self.view_is c.other.view_is (order_is c.compare_parts.result v w c.self.invariant c.other.invariant (rw (c.as_slice.ensures.parts, c.as_slice-2.ensures.parts) at (simp to_z-of_z at c.compare_parts.ensures)))
