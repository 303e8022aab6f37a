use Rattle.std.proofs.Common.{◌∙◌, [], ◌∷◌, ap, arith}
use Rattle.flip_rule.proofs.Pairs.{cell_first, flip_first}
use Rattle.flip_rule.proofs.flips.with_flip.Goals as goal

pub returns-then-gone-position : goal.returns-then-gone-position
returns-then-gone-position c = ap (λ x. x ∷ c.args.flip ∷ []) c.copy.ensures ∙ cell_first c.args.gone c.args.position c.args.cell.now c.args.flip c.if-gone-position.true

pub returns-else-gone-position : goal.returns-else-gone-position
returns-else-gone-position c =
    ap (λ x. c.args.flip ∷ x ∷ []) c.copy-else-gone-position.ensures
    ∙ flip_first c.args.gone c.args.position c.args.cell.now c.args.flip (let n = c.if-gone-position.false in omega (arith, n))
