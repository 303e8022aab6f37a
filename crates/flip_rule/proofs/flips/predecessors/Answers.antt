use Rattle.std.proofs.Common.{◌∙◌, ◌-◌, ℕ, List, [], ◌∷◌, arith, ap, sym}
use Rattle.cayley.specs.Cells.{Cell, IsListOf}
use Rattle.flip_rule.specs.Few.{cells_of}
use Rattle.flip_rule.specs.Rules.{IsPredecessor}
use Rattle.flip_rule.proofs.Rules.{with_first, with_second, cell_alone}
use Rattle.flip_rule.proofs.Walls.{predecessors_there, crosses_there}
use Rattle.flip_rule.proofs.flips.predecessors.Goals as goal

pub returns-in-Plus-default : goal.returns-in-Plus-default
returns-in-Plus-default c =
    let a = c.requires.support.0 in
    let b = c.requires.support.1 in
    let j = c.args.support - 1 in
    let cells : List Cell = cells_of c.with_flip.result in
    let h : IsListOf (IsPredecessor c.args.cell.now j c.args.position c.args.signs.now) cells =
    with_first c.args.cell.now j c.args.position c.args.signs.now c.without_first.ensures.all_rise (omega (arith, a, b)) c.requires.new
    cells c.pair_of-first.result.0 c.without_first.result c.with_flip.ensures (ap (λ (x : ℕ × ℕ). x.0) c.pair_of-first.ensures.same) c.without_first.ensures.same
    (sym c.a.ensures.same ∙ c.in-Plus-default.is-0) c.a.ensures.minus in
    record {
      rule = h;
      flips = λ p t w. predecessors_there p c.args.cell.now j c.args.position c.args.signs.now t w cells h;
      crosses = λ p t w. crosses_there p c.args.cell.now j c.args.position c.args.signs.now t w cells h;
    }

pub returns-in_default-Plus : goal.returns-in_default-Plus
returns-in_default-Plus c =
    let a = c.requires.support.0 in
    let b = c.requires.support.1 in
    let j = c.args.support - 1 in
    let cells : List Cell = cells_of c.with_flip-in_default-Plus.result in
    let h : IsListOf (IsPredecessor c.args.cell.now j c.args.position c.args.signs.now) cells =
    with_second c.args.cell.now j c.args.position c.args.signs.now c.without_second.ensures.all_rise (omega (arith, a, b)) c.requires.new
    cells c.pair_of-first.result.1 c.without_second.result c.with_flip-in_default-Plus.ensures (ap (λ (x : ℕ × ℕ). x.1) c.pair_of-first.ensures.same) c.without_second.ensures.same
    (sym c.b.ensures.same ∙ c.in_default-Plus.is-1) c.a.ensures.minus in
    record {
      rule = h;
      flips = λ p t w. predecessors_there p c.args.cell.now j c.args.position c.args.signs.now t w cells h;
      crosses = λ p t w. crosses_there p c.args.cell.now j c.args.position c.args.signs.now t w cells h;
    }

pub returns-in_default : goal.returns-in_default
returns-in_default c =
    let a = c.requires.support.0 in
    let b = c.requires.support.1 in
    let j = c.args.support - 1 in
    let cells : List Cell = c.copy.result ∷ [] in
    let h : IsListOf (IsPredecessor c.args.cell.now j c.args.position c.args.signs.now) cells =
    cell_alone c.args.cell.now j c.args.position c.args.signs.now c.pair_of-first.ensures.all_rise (omega (arith, a, b)) c.requires.new
    c.copy.result c.copy.ensures
    (λ e. c.in_default.not-Plus-0 (c.a.ensures.same ∙ e)) (λ e. c.in_default.not-Plus-1 (c.b.ensures.same ∙ e)) c.a.ensures.minus in
    record {
      rule = h;
      flips = λ p t w. predecessors_there p c.args.cell.now j c.args.position c.args.signs.now t w cells h;
      crosses = λ p t w. crosses_there p c.args.cell.now j c.args.position c.args.signs.now t w cells h;
    }
