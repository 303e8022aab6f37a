use Rattle.std.proofs.Common.{◌∙◌, ◌-◌, ◌<◌, ◌≤◌, length, slice_index_or, arith, ap, sym, subst}
use Rattle.cayley.specs.Cells.{Cell}
use Rattle.flip_rule.proofs.Pairs.{pair_is, pair_rises}
use Rattle.flip_rule.proofs.flips.pair_of.Goals as goal

pub returns-clause-same : goal.returns-clause-same
returns-clause-same c = ap (λ l. slice_index_or l (c.args.support - 1) (0, 0)) c.pairs.ensures.same ∙ pair_is c.args.cell.now (c.args.support - 1)

pub returns-clause-rises : goal.returns-clause-rises
returns-clause-rises c =
    let a = c.requires.0 in
    let b = c.requires.1 in
    let h : c.args.support - 1 < length c.args.cell.now = omega (arith, a, b) in
    subst (λ (l : Cell). (1 ≤ (slice_index_or l (c.args.support - 1) (0, 0)).0) × ((slice_index_or l (c.args.support - 1) (0, 0)).0 < (slice_index_or l (c.args.support - 1) (0, 0)).1))
    (sym c.pairs.ensures.same) (pair_rises c.args.cell.now (c.args.support - 1) c.pairs.ensures.valid.2 h)
