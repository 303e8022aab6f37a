use Rattle.std.proofs.Common.{rules, ◌≡◌, ◌+◌, suc, subst, arith, refl, IsTrue}
use Rattle.wide_int.proofs.Turns.{next_below}
use Rattle.cayley.specs.Valid.{file_count_at, support_at}
use Rattle.start_system.specs.Corners.{HasPathCorners}
use Rattle.start_system.proofs.Judging.Corners.{no_true}
use Rattle.start_system.proofs.Judging.StartedProblems.{all_started, started_all}
use Rattle.start_system.proofs.checks.is_started.Goals as goal

pub returns-then-not-has_path_corners : goal.returns-then-not-has_path_corners
returns-then-not-has_path_corners c =
    let p = c.args.problem.now in
    let n : ¬ (IsTrue c.has_path_corners.result) = search rules in
    let k = c.loop-place.place in
    let o : suc k ≡ k + 1 = omega arith in
    let e = c.dim-place-end.ensures.value in
    let l = c.loop-place-test.true in (
      λ t. absurd (no_true t),
      λ h. absurd (n (c.has_path_corners.ensures.1
          (subst (λ i. HasPathCorners p.dimension i (file_count_at p i) (support_at p i)) o (started_all p c.dim-place-end.ensures.valid h k (omega (arith, e, l)))))),
    )

pub loop-place-preserved : goal.loop-place-preserved
loop-place-preserved c =
    let p = c.args.problem.now in
    let y : IsTrue c.has_path_corners.result = search rules in
    let k = c.loop-place.place in
    let o : k + 1 ≡ suc k = omega arith in
    next_below (λ j. HasPathCorners p.dimension (suc j) (file_count_at p (suc j)) (support_at p (suc j))) k c.loop-place.invariant
    (subst (λ i. HasPathCorners p.dimension i (file_count_at p i) (support_at p i)) o (c.has_path_corners.ensures.0 y))

pub returns : goal.returns
returns c =
    let p = c.args.problem.now in
    let e = c.dim-place-end.ensures.value in
    let n = c.loop-place-test.false in
    (λ t. all_started p c.dim-place-end.ensures.valid (λ j l. c.loop-place.invariant j (omega (arith, e, n, l))), λ h. refl)
