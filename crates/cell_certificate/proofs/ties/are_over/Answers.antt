use Rattle.std.proofs.Common.{rules, ◌≡◌, ◌-◌, ◌+◌, ◌∙◌, ◌≤◌, ℕ, arith, sym}
use Rattle.wide_int.proofs.Turns.{next_below}
use Rattle.cell_certificate.specs.Ties.{FitsTieAt, IsOverAt}
use Rattle.cell_certificate.proofs.PointOver.{all_ties, all_over}
use Rattle.cell_certificate.proofs.Spots.{fault_of_more}
use Rattle.cell_certificate.proofs.Turns.{next_test_below}
use Rattle.cell_certificate.proofs.ties.are_over.Goals.{then-own, else-own}
use Rattle.cell_certificate.proofs.ties.are_over.Goals as goal

pub loop-k-preserved : goal.loop-k-preserved
loop-k-preserved c =
    let p = c.args.problem.now in
    let x = c.args.listed.now in
    let i = c.loop-k.invariant in
    let d : c.loop-k.k + 1 - 1 ≡ c.loop-k.k = omega arith in
    let h = rw d at c.in-Ok.ensures in
    record {
      fits = next_below (λ j. (n : ℕ) → FitsTieAt p x.cell x.normal.v x.normal.den c.args.inverse.now j n) c.loop-k.k i.fits h.0;
      over = next_test_below (λ j. (n : ℕ) → IsOverAt p x.cell j n) c.loop-k.k _ _ _ i.over h.1
          (elim c.if-own.branch [ then-own w ↦ (λ t. (w.if-own.true, sym w.over-is ∙ t), λ t. w.over-is ∙ t.1) | else-own w ↦ search (rules, w.over-is, w.if-own.false) ]);
    }

pub returns : goal.returns
returns c =
    let p = c.args.problem.now in
    let x = c.args.listed.now in
    let well = c.dim-k-end.ensures.valid.shape.problem in
    let l : p.dimension ≤ c.loop-k.k = omega (arith, c.loop-k-test.false, c.dim-k-end.ensures.value) in
    (all_ties p well x c.requires.level c.args.inverse.now c.loop-k.k l c.loop-k.invariant.fits, all_over p well x c.requires.level c.loop-k.k l _ c.loop-k.invariant.over)

pub returns-in-Err : goal.returns-in-Err
returns-in-Err c = fault_of_more _ _ c.in-Err.fault (λ f. f (c.loop-k.k + 1 - 1)) c.in-Err.ensures
