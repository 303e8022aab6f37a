use Rattle.std.proofs.Common.{◌∙◌, ℕ, ◌+◌, List, map, arith, subst, ap}
use Rattle.std.proofs.lemmas.Result.{err_from_is_err_and}
use Rattle.std.proofs.lemmas.List.{length-map}
use Rattle.cayley.specs.Files.{FilePoint}
use Rattle.cayley.specs.Shapes.{IsFaulty, IsOutside, IsSupportFault, file_support}
use Rattle.cayley.specs.Stored.{file_point}
use Rattle.cayley.proofs.Refusals.FileFaults.{more_sound, first_fault, support_here, sound_past}
use Rattle.cayley.proofs.shapes.check_points.Goals as goal

pub returns-in_err-check_support : goal.returns-in_err-check_support
returns-in_err-check_support c =
    let p = err_from_is_err_and c.from_residual.result c.from_residual.ensures.1 in
    let points = map (λ s. map file_point s.items) c.args.supports.now in
    let here = ap (map file_point) c.deref.ensures.value
    ∙ support_here (λ s. map file_point s.items) c.args.supports.now c.loop-k.k c.index-supports-k.result c.index-supports-k.is c.loop-k-test.true in
    rw (p.1, p.2) (first_fault (λ j q. IsFaulty (file_support points j) q) (λ j q. IsOutside (file_support points j) q) c.loop-k.k c.loop-k.invariant
    c.in_err-check_support.field-0.0
    (subst (λ (s : List FilePoint). IsSupportFault (c.loop-k.k + 1) (IsFaulty s) (IsOutside s) c.in_err-check_support.field-0.0) here c.in_err-check_support.ensures))

pub loop-k-preserved : goal.loop-k-preserved
loop-k-preserved c =
    let points = map (λ s. map file_point s.items) c.args.supports.now in
    let here = ap (map file_point) c.deref.ensures.value
    ∙ support_here (λ s. map file_point s.items) c.args.supports.now c.loop-k.k c.index-supports-k.result c.index-supports-k.is c.loop-k-test.true in
    more_sound (λ j q. IsFaulty (file_support points j) q) (λ j q. IsOutside (file_support points j) q) c.loop-k.k c.loop-k.invariant
    (subst (λ (s : List FilePoint). (q : ℕ) → ¬ (IsFaulty s q)) here c.in_ok-check_support.ensures)

pub returns : goal.returns
returns c = sound_past (map (λ s. map file_point s.items) c.args.supports.now) c.loop-k.k
    (let l = c.loop-k-test.false in omega (arith, length-map c.args.supports.now (λ s. map file_point s.items))) c.loop-k.invariant
