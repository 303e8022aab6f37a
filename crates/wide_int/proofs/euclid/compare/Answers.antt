use Rattle.std.proofs.Common.{◌<◌, ◌^◌, ◌*ℤ◌, ℤ, unsigned_abs, refl, arith, FitsSigned, to_z-of_z}
use Rattle.std.specs.Int.{w128}
use Rattle.std.proofs.lemmas.Cmp.{int_ranked}
use Rattle.std.proofs.lemmas.Int.{fits_signed_mul}
use Rattle.wide_int.proofs.euclid.compare.Goals as goal

short_product : (x y : ℤ) → unsigned_abs x < 2 ^ 63 → unsigned_abs y < 2 ^ 63 → FitsSigned w128 (x *ℤ y)
short_product x y h k = fits_signed_mul w128 x y (2 ^ 63) (2 ^ 63) (omega (arith, h)) (omega (arith, k)) (omega arith)

pub overflow_mul-a : goal.overflow_mul-a
overflow_mul-a c =
    let fa : FitsSigned w128 c.args.a = c.ranges.a in
    let fd : FitsSigned w128 c.args.d = c.ranges.d in
    simp to_z-of_z (short_product c.args.a c.args.d (simp to_z-of_z at (c.if-is_short.ensures refl)) (simp to_z-of_z at (c.if-is_short-4.ensures refl)))

pub overflow_mul-c : goal.overflow_mul-c
overflow_mul-c c =
    let fb : FitsSigned w128 c.args.b = c.ranges.b in
    let fc : FitsSigned w128 c.args.c = c.ranges.c in
    simp to_z-of_z (short_product c.args.c c.args.b (simp to_z-of_z at (c.if-is_short-3.ensures refl)) (simp to_z-of_z at (c.if-is_short-2.ensures refl)))

pub returns-then-is_short-4 : goal.returns-then-is_short-4
returns-then-is_short-4 c =
    let fa : FitsSigned w128 c.args.a = c.ranges.a in
    let fb : FitsSigned w128 c.args.b = c.ranges.b in
    let fc : FitsSigned w128 c.args.c = c.ranges.c in
    let fd : FitsSigned w128 c.args.d = c.ranges.d in
    let left : FitsSigned w128 (c.args.a *ℤ c.args.d) = short_product c.args.a c.args.d (simp to_z-of_z at (c.if-is_short.ensures refl)) (simp to_z-of_z at (c.if-is_short-4.ensures refl)) in
    let right : FitsSigned w128 (c.args.c *ℤ c.args.b) = short_product c.args.c c.args.b (simp to_z-of_z at (c.if-is_short-3.ensures refl)) (simp to_z-of_z at (c.if-is_short-2.ensures refl)) in
    int_ranked _ _ c.cmp.result (simp to_z-of_z at c.cmp.ensures)
