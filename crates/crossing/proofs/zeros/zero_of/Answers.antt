use Rattle.std.proofs.Common.{rules, subst, IfSome, FitsSigned, to_z, of_z, to_z-of_z}
use Rattle.std.specs.Int.{w128}
use Rattle.lex_height.specs.Values as lex
use Rattle.crossing.proofs.Parts.{zero_accepted, zero_value}
use Rattle.crossing.proofs.zeros.zero_of.Goals as goal

pub unwrap-requires : goal.unwrap-requires
unwrap-requires c =
    let fs : FitsSigned w128 c.steepness.result = search rules in
    let s = rw (c.as_slice.ensures.parts, c.zero_parts.ensures, c.steepness.ensures.value) at (simp to_z-of_z at c.new.ensures.some) in
    s.1 (zero_accepted c.args.way c.args.line.now c.requires.fits c.requires.goes (rw c.steepness.ensures.value at c.steepness.ensures.fits))

pub returns-clause-zero : goal.returns-clause-zero
returns-clause-zero c =
    let fs : FitsSigned w128 c.steepness.result = search rules in
    let v = subst (λ o. IfSome o (λ (u : lex.Value). lex.HasValue u c.as_slice.result.now (to_z w128 (of_z w128 c.steepness.result)))) c.unwrap.ensures c.new.ensures.value in
    let low = subst (λ o. IfSome o lex.IsLowest) c.unwrap.ensures c.new.ensures.lowest in
    zero_value c.args.way c.args.line.now c.unwrap.result c.requires.fits low (rw (c.as_slice.ensures.parts, c.zero_parts.ensures, c.steepness.ensures.value) at (simp to_z-of_z at v))
