use Rattle.std.proofs.Common.{◌-◌, ◌≤◌, ◌≡◌, sym, ap, subst, ◌∙◌, length, arith, List, ℤ}
use Rattle.int_vectors.specs.Vectors.{Each}
use Rattle.cayley.specs.Problems.{Point, point_at}
use Rattle.cayley.specs.Valid.{IsCornerCoordinate}
use Rattle.cayley.specs.Dependencies.{nth_support}
use Rattle.inner_normal.proofs.Reading.{support_read, near_at}
use Rattle.log_check.proofs.products.coordinates_at.Goals as goal

pub point-requires-clause-last : goal.point-requires-clause-last
point-requires-clause-last c = subst (λ (s : List Point). c.args.position ≤ length s) (sym (support_read c.args.problem.now.supports (c.args.support - 1))) c.requires.position.1

same_of : (c : goal.After-as_slice) → c.as_slice.result.now ≡ (point_at (nth_support c.args.problem.now.supports (c.args.support - 1)) c.args.position).coordinates
same_of c =
    c.as_slice.ensures.value ∙ ap (λ (x : Point). x.coordinates) c.point.ensures.value
    ∙ ap (λ (s : List Point). (point_at s c.args.position).coordinates) (support_read c.args.problem.now.supports (c.args.support - 1))

pub returns-clause-same : goal.returns-clause-same
returns-clause-same c = same_of c

pub returns-clause-long : goal.returns-clause-long
returns-clause-long c =
    ap length (same_of c) ∙ (near_at c.args.problem.now c.point.ensures.valid (c.args.support - 1) c.args.position (let a = c.requires.support.0 in let b = c.requires.support.1 in omega (arith, a, b)) c.requires.position.0 c.requires.position.1).0

pub returns-clause-near : goal.returns-clause-near
returns-clause-near c =
    subst (λ (xs : List ℤ). Each xs IsCornerCoordinate) (sym (same_of c))
    (near_at c.args.problem.now c.point.ensures.valid (c.args.support - 1) c.args.position (let a = c.requires.support.0 in let b = c.requires.support.1 in omega (arith, a, b)) c.requires.position.0 c.requires.position.1).1
