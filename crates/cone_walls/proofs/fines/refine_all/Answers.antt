use Rattle.std.proofs.Common.{rules, ◌≡◌, ◌∷◌, [], ◌∙◌, length, sym, ap, subst, arith}
use Rattle.std.specs.Vec.Iter.{into_iter_items}
use Rattle.std.proofs.lemmas.List.{nil_from_length}
use Rattle.std.proofs.lemmas.Result.{err_from_is_err_and}
use Rattle.cone_walls.specs.Parts.{AreRefined}
use Rattle.cone_walls.proofs.Fining.{rest_further, rest_fit, more_refined, all_refined, unfit_line}
use Rattle.cone_walls.proofs.fines.refine_all.Goals as goal

pub loop-line-init : goal.loop-line-init
loop-line-init c =
    let e : into_iter_items c.into_iter-line-iterator.result ≡ c.args.lines.items = search rules in
    record {
      made = ([], subst (λ made. AreRefined c.args.problem.now c.args.cell.now c.args.inverse.now [] made) (sym c.in_ok-made.ensures.items) tt, tt, e);
      count = search rules;
    }

pub refined-requires-clause-point : goal.refined-requires-clause-point
refined-requires-clause-point c =
    let i = c.loop-line.invariant.made in
    rest_further c.args.problem.now c.args.cell.now i.0 (into_iter_items c.loop-line.line-iterator) c.args.lines.items c.in-Some.line _ i.3 c.in-Some.ensures.steps.0 c.requires.points

pub refined-requires-clause-fit : goal.refined-requires-clause-fit
refined-requires-clause-fit c =
    let i = c.loop-line.invariant.made in
    rest_fit i.0 (into_iter_items c.loop-line.line-iterator) c.args.lines.items c.in-Some.line _ i.3 c.in-Some.ensures.steps.0 c.requires.fit

pub loop-line-preserved : goal.loop-line-preserved
loop-line-preserved c =
    let i = c.loop-line.invariant in
    let all = into_iter_items c.loop-line.line-iterator in
    let split : all ≡ c.in-Some.line ∷ into_iter_items c.next.new.self = c.in-Some.ensures.steps.0 in
    let r = c.in_ok-line.ensures in
    record {
      made = more_refined c.args.problem.now c.args.cell.now c.args.inverse.now i.made.0 c.loop-line.made.items c.push.new.self.items all (into_iter_items c.next.new.self) c.args.lines.items c.in-Some.line c.in_ok-line.line i.made.1 i.made.2 i.made.3 split r.0 r.1 c.in_ok-push.ensures.items;
      count = omega (arith, c.in-Some.ensures.steps.1, ap length split, i.count);
    }

pub returns-in_err-line : goal.returns-in_err-line
returns-in_err-line c =
    let i = c.loop-line.invariant.made in
    let e = err_from_is_err_and c.from_residual-in_err-line.result c.from_residual-in_err-line.ensures.1 in
    rw (e.1, e.2) (unfit_line c.args.problem.now c.args.cell.now c.args.inverse.now i.0 (into_iter_items c.loop-line.line-iterator) c.args.lines.items c.in-Some.line _ i.3 c.in-Some.ensures.steps.0 c.in_err-line.field-0.0 c.in_err-line.ensures)

pub returns : goal.returns
returns c =
    let i = c.loop-line.invariant in
    let all = into_iter_items c.loop-line.line-iterator in
    let none = nil_from_length all (sym i.count ∙ c.in-None.ensures.steps.0) in
    all_refined c.args.problem.now c.args.cell.now c.args.inverse.now i.made.0 c.loop-line.made.items all c.args.lines.items none i.made.1 i.made.2 i.made.3
