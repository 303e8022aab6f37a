use Rattle.std.proofs.Common.{◌≡◌, ◌≢◌, ◌∙◌, ◌-◌, [], ◌∷◌, arith, sym}
use Rattle.cayley.specs.declared.found.Sign.TheVariants.{Minus}
use Rattle.cayley.specs.Cells.{Cell, IsListOf}
use Rattle.flip_rule.specs.Rules.{IsSuccessor}
use Rattle.flip_rule.proofs.Rules.{both, first_alone, second_alone}
use Rattle.flip_rule.proofs.Walls.{successors_there}
use Rattle.flip_rule.proofs.flips.successors.Goals as goal

pub returns-in-Minus-b : goal.returns-in-Minus-b
returns-in-Minus-b c =
    let a = c.requires.support.0 in
    let b = c.requires.support.1 in
    let j = c.args.support - 1 in
    let e : c.args.signs.now.0 ≡ Minus = sym c.a.ensures.same ∙ c.in-Minus.is in
    let f : c.args.signs.now.1 ≡ Minus = sym c.b.ensures.same ∙ c.in-Minus-b.is in
    let h : IsListOf (IsSuccessor c.args.cell.now j c.args.position c.args.signs.now) (c.without_second-least.result ∷ c.without_first-other.result ∷ []) =
    both c.args.cell.now j c.args.position c.args.signs.now c.without_first-other.ensures.all_rise (omega (arith, a, b)) c.requires.new
    c.without_second-least.result c.without_first-other.result c.without_second-least.ensures.same c.without_first-other.ensures.same e f in
    record { rule = h; flips = λ p t w. successors_there p c.args.cell.now j c.args.position c.args.signs.now t w (c.without_second-least.result ∷ c.without_first-other.result ∷ []) h }

pub returns-in_default-b : goal.returns-in_default-b
returns-in_default-b c =
    let a = c.requires.support.0 in
    let b = c.requires.support.1 in
    let j = c.args.support - 1 in
    let x : Cell = c.without_first.result in
    let e : c.args.signs.now.0 ≡ Minus = sym c.a.ensures.same ∙ c.in-Minus.is in
    let f : c.args.signs.now.1 ≢ Minus = λ e. c.in_default-b.not-Minus (c.b.ensures.same ∙ e) in
    let h : IsListOf (IsSuccessor c.args.cell.now j c.args.position c.args.signs.now) (x ∷ []) =
    first_alone c.args.cell.now j c.args.position c.args.signs.now c.without_first.ensures.all_rise (omega (arith, a, b)) c.requires.new
    x c.without_first.ensures.same e f in
    record { rule = h; flips = λ p t w. successors_there p c.args.cell.now j c.args.position c.args.signs.now t w (x ∷ []) h }

pub returns-in_default : goal.returns-in_default
returns-in_default c =
    let a = c.requires.support.0 in
    let b = c.requires.support.1 in
    let j = c.args.support - 1 in
    let x : Cell = c.without_second.result in
    let e : c.args.signs.now.0 ≢ Minus = λ e. c.in_default.not-Minus (c.a.ensures.same ∙ e) in
    let h : IsListOf (IsSuccessor c.args.cell.now j c.args.position c.args.signs.now) (x ∷ []) =
    second_alone c.args.cell.now j c.args.position c.args.signs.now c.without_second.ensures.all_rise (omega (arith, a, b)) c.requires.new
    x c.without_second.ensures.same e c.a.ensures.minus in
    record { rule = h; flips = λ p t w. successors_there p c.args.cell.now j c.args.position c.args.signs.now t w (x ∷ []) h }
