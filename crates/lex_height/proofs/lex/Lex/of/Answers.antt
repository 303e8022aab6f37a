use Rattle.std.proofs.Common.{rules, FitsSigned, to_z-of_z, subst, sym, ap, ◌∙◌, ◌≡◌, List, [], ◌∷◌, ◌++◌}
use Rattle.std.specs.Int.{w128}
use Rattle.std.proofs.Math.IntN.{ℤ}
use Rattle.wide_int.proofs.Signed.{is_zero, not_zero}
use Rattle.lex_height.specs.Values.{IsLowest}
use Rattle.lex_height.specs.declared.part.LexPart.{LexPart}
use Rattle.lex_height.proofs.Fractions.{of_some, of_none}
use Rattle.lex_height.proofs.lex.Lex.of.Goals as goal
use Rattle.lex_height.proofs.lex.Lex.of.Goals.{then-num-ne0, else-num-ne0}

pub invariant_of-result : goal.invariant_of-result
invariant_of-result c =
    let fd : FitsSigned w128 c.den.result = search rules in
    let fn : FitsSigned w128 c.num.result = search rules in
    let low : IsLowest (record { parts = c.if-num-ne0.parts; den = c.args.time.now.den }) =
    elim c.if-num-ne0.branch [
      | then-num-ne0 w ↦
          let fm : FitsSigned w128 w.num-then-num-ne0.result = search rules in
          let e : c.if-num-ne0.parts ≡ record { rank = 0; num = c.args.time.now.num } ∷ [] =
          w.parts-is ∙ (simp to_z-of_z at w.push.ensures) ∙ ap (λ l. l ++ record { rank = 0; num = w.num-then-num-ne0.result } ∷ []) c.new-parts.ensures ∙ ap (λ (z : ℤ). record { rank = 0; num = z } ∷ []) w.num-then-num-ne0.ensures.value in
          subst (λ (ps : List LexPart). IsLowest (record { parts = ps; den = c.args.time.now.den })) (sym e) (of_some c.args.time.now c.num.ensures.lowest (λ z. not_zero c.num.result w.if-num-ne0.true (c.num.ensures.value ∙ z)))
      | else-num-ne0 w ↦
          subst (λ (ps : List LexPart). IsLowest (record { parts = ps; den = c.args.time.now.den })) (sym (w.parts-is ∙ c.new-parts.ensures)) (of_none c.args.time.now c.num.ensures.lowest (sym c.num.ensures.value ∙ is_zero c.num.result fn w.if-num-ne0.false))
    ] in
    simp to_z-of_z (subst (λ (z : ℤ). IsLowest (record { parts = c.if-num-ne0.parts; den = z })) (sym c.den.ensures.value) low)

pub returns-clause-lowest : goal.returns-clause-lowest
returns-clause-lowest c = invariant_of-result c
