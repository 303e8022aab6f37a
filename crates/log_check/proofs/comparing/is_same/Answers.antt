use Rattle.std.proofs.Common.{rules, ◌≡◌}
use Rattle.log_check.proofs.SameNormals.{same_normals}
use Rattle.log_check.proofs.comparing.is_same.Goals as goal

pub returns-then-x-y : goal.returns-then-x-y
returns-then-x-y c =
    let x = c.args.x.now in
    let y = c.args.y.now in
    let d : x.den ≡ y.den = search rules in
    same_normals x y c.as_slice.result.now c.as_slice-then-x-y.result.now c.cmp.result c.is_eq.result d c.as_slice.ensures.value c.as_slice-then-x-y.ensures.value c.cmp.ensures c.is_eq.ensures
