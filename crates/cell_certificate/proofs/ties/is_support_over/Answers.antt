use Rattle.std.proofs.Common.{rules, ◌≡◌, [], get_or, ◌-◌, ◌+◌, ◌∙◌, ◌≤◌, length, arith, sym}
use Rattle.wide_int.proofs.Turns.{next_all}
use Rattle.cell_certificate.specs.Ties.{FitsTieAt, IsOverAt}
use Rattle.cell_certificate.proofs.PointOver.{every_tie, every_over}
use Rattle.cell_certificate.proofs.Spots.{fault_of_more}
use Rattle.cell_certificate.proofs.Turns.{next_test}
use Rattle.cell_certificate.proofs.ties.is_support_over.Goals.{then-own, else-own}
use Rattle.cell_certificate.proofs.ties.is_support_over.Goals as goal

pub loop-k-preserved : goal.loop-k-preserved
loop-k-preserved c =
    let p = c.args.problem.now in
    let x = c.args.listed.now in
    let i = c.loop-k.invariant in
    let h = c.in-Ok.ensures in
    record {
      fits = next_all (FitsTieAt p x.cell x.normal.v x.normal.den c.args.inverse.now (c.args.support - 1)) c.loop-k.k i.fits h.0;
      over = next_test (IsOverAt p x.cell (c.args.support - 1)) c.loop-k.k _ _ _ i.over h.1
          (elim c.if-own.branch [ then-own w ↦ (λ t. (w.if-own.true, sym w.over-is ∙ t), λ t. w.over-is ∙ t.1) | else-own w ↦ search (rules, w.over-is, w.if-own.false) ]);
    }

pub returns-in-Err : goal.returns-in-Err
returns-in-Err c =
    let p = c.args.problem.now in
    let x = c.args.listed.now in
    fault_of_more _ _ c.in-Err.fault (λ f. f (c.loop-k.k + 1)) c.in-Err.ensures

pub returns : goal.returns
returns c =
    let p = c.args.problem.now in
    let x = c.args.listed.now in
    let e : c.count-k-end.result ≡ length (get_or p.supports (c.args.support - 1) []) = c.count-k-end.ensures in
    let l : length (get_or p.supports (c.args.support - 1) []) ≤ c.loop-k.k = omega (arith, e, c.loop-k-test.false) in
    (every_tie p x c.args.support c.args.inverse.now c.loop-k.k l c.loop-k.invariant.fits, every_over p x c.args.support c.loop-k.k l _ c.loop-k.invariant.over)
