use Rattle.std.proofs.Common.{rules, ◌≡◌, ◌∙◌, ◌+◌, ◌-◌, suc, ap, length, sym, subst, arith, IsTrue, refl, FitsSigned}
use Rattle.std.proofs.Math.Facts.{to_z-of_z}
use Rattle.std.specs.Int.{w128}
use Rattle.wide_int.proofs.Turns.{next_below}
use Rattle.int_vectors.specs.Vectors.{Each}
use Rattle.cayley.specs.Problems.{Point, with_rank, point_at}
use Rattle.cayley.specs.Stored.{point}
use Rattle.cayley.specs.Valid.{IsCoordinate, support_at, file_count_at}
use Rattle.start_system.specs.Corners.{points_at, direction_corner_at, IsFirstOf, IsDirectionOf}
use Rattle.start_system.proofs.Judging.Supports.{support_of, with_corners_there, moving_at}
use Rattle.start_system.proofs.Judging.Corners.{to_direction, from_directions, first_of, no_true}
use Rattle.start_system.proofs.Making.Least.{least_small}
use Rattle.start_system.proofs.checks.has_path_corners.Goals as goal

pub overflow_add-first : goal.overflow_add-first
overflow_add-first c =
    let p = c.args.problem.now in
    let i = c.args.i in
    let v = c.requires.valid in
    let lo = c.requires.least in
    let hi = c.requires.greatest in
    let h = support_of p v i lo hi in
    let s = support_at p i in
    let f = file_count_at p i in
    let points = points_at p i in
    let e = c.file_count-first.ensures in
    let few = h.few in
    omega (arith, e, few)

pub returns-then-count-first : goal.returns-then-count-first
returns-then-count-first c =
    let p = c.args.problem.now in
    let i = c.args.i in
    let v = c.requires.valid in
    let lo = c.requires.least in
    let hi = c.requires.greatest in
    let h = support_of p v i lo hi in
    let s = support_at p i in
    let f = file_count_at p i in
    let points = points_at p i in
    let e = c.file_count-first.ensures in
    let u = c.count.ensures in
    let q = c.if-count-first.true in
    (λ t. absurd (no_true t), λ w. let a = (first_of p.dimension i f s lo hi w).0 in absurd (omega (arith, e, u, q, a)))

pub is_first-requires-clause-length : goal.is_first-requires-clause-length
is_first-requires-clause-length c =
    let p = c.args.problem.now in
    let i = c.args.i in
    let v = c.requires.valid in
    let lo = c.requires.least in
    let hi = c.requires.greatest in
    let h = support_of p v i lo hi in
    let s = support_at p i in
    let f = file_count_at p i in
    let points = points_at p i in
    let e = c.file_count-first.ensures in
    let u = c.count.ensures in
    let q = c.if-count-first.false in
    let o : c.file_count-first.result + 1 ≡ suc f = omega (arith, e) in
    let corner : point c.point-corner.result.now ≡ with_rank 0 (point_at s (suc f)) = c.point-corner.ensures.value ∙ ap (λ j. with_rank 0 (point_at s j)) o in
    let long = with_corners_there p i h (omega (arith, e, u, q)) in
    ap (λ (x : Point). length x.coordinates) corner ∙ h.long (suc f) (omega arith) (omega (arith, long))

pub returns-then-not-is_first : goal.returns-then-not-is_first
returns-then-not-is_first c =
    let p = c.args.problem.now in
    let i = c.args.i in
    let v = c.requires.valid in
    let lo = c.requires.least in
    let hi = c.requires.greatest in
    let h = support_of p v i lo hi in
    let s = support_at p i in
    let f = file_count_at p i in
    let points = points_at p i in
    let e = c.file_count-first.ensures in
    let u = c.count.ensures in
    let q = c.if-count-first.false in
    let o : c.file_count-first.result + 1 ≡ suc f = omega (arith, e) in
    let corner : point c.point-corner.result.now ≡ with_rank 0 (point_at s (suc f)) = c.point-corner.ensures.value ∙ ap (λ j. with_rank 0 (point_at s j)) o in
    let long = with_corners_there p i h (omega (arith, e, u, q)) in
    let t : ¬ (IsTrue c.is_first.result) = search rules in
    (λ t. absurd (no_true t), λ w. absurd (t (c.is_first.ensures.1 (subst (IsFirstOf points) (sym corner) (first_of p.dimension i f s lo hi w).1))))

pub reach-d-requires-clause-length : goal.reach-d-requires-clause-length
reach-d-requires-clause-length c =
    let p = c.args.problem.now in
    let i = c.args.i in
    let v = c.requires.valid in
    let lo = c.requires.least in
    let hi = c.requires.greatest in
    let h = support_of p v i lo hi in
    let s = support_at p i in
    let f = file_count_at p i in
    let points = points_at p i in
    let e = c.file_count-first.ensures in
    let u = c.count.ensures in
    let q = c.if-count-first.false in
    let o : c.file_count-first.result + 1 ≡ suc f = omega (arith, e) in
    let corner : point c.point-corner.result.now ≡ with_rank 0 (point_at s (suc f)) = c.point-corner.ensures.value ∙ ap (λ j. with_rank 0 (point_at s j)) o in
    let long = with_corners_there p i h (omega (arith, e, u, q)) in
    ap (λ (x : Point). length x.coordinates) corner ∙ h.long (suc f) (omega arith) (omega (arith, long))

pub reach-d-requires-clause-small : goal.reach-d-requires-clause-small
reach-d-requires-clause-small c =
    let p = c.args.problem.now in
    let i = c.args.i in
    let v = c.requires.valid in
    let lo = c.requires.least in
    let hi = c.requires.greatest in
    let h = support_of p v i lo hi in
    let s = support_at p i in
    let f = file_count_at p i in
    let points = points_at p i in
    let e = c.file_count-first.ensures in
    let t : IsTrue c.is_first.result = search rules in
    let w = c.is_first.ensures.0 t in
    subst (λ m. Each m IsCoordinate) (sym w.0) (least_small p.dimension points h.points.1)

pub overflow_add-first-in-loop-k : goal.overflow_add-first-in-loop-k
overflow_add-first-in-loop-k c =
    let p = c.args.problem.now in
    let i = c.args.i in
    let v = c.requires.valid in
    let lo = c.requires.least in
    let hi = c.requires.greatest in
    let h = support_of p v i lo hi in
    let s = support_at p i in
    let f = file_count_at p i in
    let points = points_at p i in
    let e = c.file_count-first.ensures in
    let dn = c.dim-k-end.ensures.value in
    let kn = c.loop-k-test.true in
    let few = h.few in
    let d = v.shape.dimension.1 in
    omega (arith, e, few, d, dn, kn)

pub overflow_add-first-in-loop-k-2 : goal.overflow_add-first-in-loop-k-2
overflow_add-first-in-loop-k-2 c =
    let p = c.args.problem.now in
    let i = c.args.i in
    let v = c.requires.valid in
    let lo = c.requires.least in
    let hi = c.requires.greatest in
    let h = support_of p v i lo hi in
    let s = support_at p i in
    let f = file_count_at p i in
    let points = points_at p i in
    let e = c.file_count-first.ensures in
    let dn = c.dim-k-end.ensures.value in
    let kn = c.loop-k-test.true in
    let few = h.few in
    let d = v.shape.dimension.1 in
    omega (arith, e, few, d, dn, kn)

pub point-other-requires-clause-last : goal.point-other-requires-clause-last
point-other-requires-clause-last c =
    let p = c.args.problem.now in
    let i = c.args.i in
    let v = c.requires.valid in
    let lo = c.requires.least in
    let hi = c.requires.greatest in
    let h = support_of p v i lo hi in
    let s = support_at p i in
    let f = file_count_at p i in
    let points = points_at p i in
    let e = c.file_count-first.ensures in
    let u = c.count.ensures in
    let q = c.if-count-first.false in
    let o : c.file_count-first.result + 1 ≡ suc f = omega (arith, e) in
    let corner : point c.point-corner.result.now ≡ with_rank 0 (point_at s (suc f)) = c.point-corner.ensures.value ∙ ap (λ j. with_rank 0 (point_at s j)) o in
    let long = with_corners_there p i h (omega (arith, e, u, q)) in
    let dn = c.dim-k-end.ensures.value in
    let kn = c.loop-k-test.true in
    omega (arith, e, long, dn, kn)

pub is_direction-requires-clause-lengths : goal.is_direction-requires-clause-lengths
is_direction-requires-clause-lengths c =
    let p = c.args.problem.now in
    let i = c.args.i in
    let v = c.requires.valid in
    let lo = c.requires.least in
    let hi = c.requires.greatest in
    let h = support_of p v i lo hi in
    let s = support_at p i in
    let f = file_count_at p i in
    let points = points_at p i in
    let e = c.file_count-first.ensures in
    let u = c.count.ensures in
    let q = c.if-count-first.false in
    let o : c.file_count-first.result + 1 ≡ suc f = omega (arith, e) in
    let corner : point c.point-corner.result.now ≡ with_rank 0 (point_at s (suc f)) = c.point-corner.ensures.value ∙ ap (λ j. with_rank 0 (point_at s j)) o in
    let long = with_corners_there p i h (omega (arith, e, u, q)) in
    let dn = c.dim-k-end.ensures.value in
    let kn = c.loop-k-test.true in
    ap (λ (x : Point). length x.coordinates) c.point-other.ensures.value ∙ h.long _ (omega arith) (omega (arith, e, long, dn, kn))
    ∙ sym (ap (λ (x : Point). length x.coordinates) corner ∙ h.long (suc f) (omega arith) (omega (arith, long)))

pub is_direction-requires-clause-place : goal.is_direction-requires-clause-place
is_direction-requires-clause-place c =
    let p = c.args.problem.now in
    let i = c.args.i in
    let v = c.requires.valid in
    let lo = c.requires.least in
    let hi = c.requires.greatest in
    let h = support_of p v i lo hi in
    let s = support_at p i in
    let f = file_count_at p i in
    let points = points_at p i in
    let e = c.file_count-first.ensures in
    let u = c.count.ensures in
    let q = c.if-count-first.false in
    let o : c.file_count-first.result + 1 ≡ suc f = omega (arith, e) in
    let corner : point c.point-corner.result.now ≡ with_rank 0 (point_at s (suc f)) = c.point-corner.ensures.value ∙ ap (λ j. with_rank 0 (point_at s j)) o in
    let long = with_corners_there p i h (omega (arith, e, u, q)) in
    let dn = c.dim-k-end.ensures.value in
    let kn = c.loop-k-test.true in
    let l = ap (λ (x : Point). length x.coordinates) corner ∙ h.long (suc f) (omega arith) (omega (arith, long)) in
    omega (arith, l, dn, kn)

pub is_direction-requires-clause-small : goal.is_direction-requires-clause-small
is_direction-requires-clause-small c =
    let p = c.args.problem.now in
    let i = c.args.i in
    let v = c.requires.valid in
    let lo = c.requires.least in
    let hi = c.requires.greatest in
    let h = support_of p v i lo hi in
    let s = support_at p i in
    let f = file_count_at p i in
    let points = points_at p i in
    let e = c.file_count-first.ensures in
    let t : IsTrue c.is_first.result = search rules in
    let w = c.is_first.ensures.0 t in
    subst (λ m. Each m IsCoordinate) (sym w.0) (least_small p.dimension points h.points.1)

pub returns-then-not-is_direction : goal.returns-then-not-is_direction
returns-then-not-is_direction c =
    let p = c.args.problem.now in
    let i = c.args.i in
    let v = c.requires.valid in
    let lo = c.requires.least in
    let hi = c.requires.greatest in
    let h = support_of p v i lo hi in
    let s = support_at p i in
    let f = file_count_at p i in
    let points = points_at p i in
    let e = c.file_count-first.ensures in
    let t : IsTrue c.is_first.result = search rules in
    let w = c.is_first.ensures.0 t in
    let dn = c.dim-k-end.ensures.value in
    let kn = c.loop-k-test.true in
    let fit : FitsSigned w128 c.reach-d.result = search rules in
    let is = simp to_z-of_z at c.is_direction.ensures in
    let n : ¬ (IsTrue c.is_direction.result) = search rules in
    let r : c.file_count-first.result + 1 + c.loop-k.k + 1 ≡ suc (f + suc c.loop-k.k) = omega (arith, e) in
    let other : point c.point-other.result.now ≡ with_rank 0 (direction_corner_at p i c.loop-k.k) = c.point-other.ensures.value ∙ ap (λ j. with_rank 0 (point_at s j)) r in (
      λ t. absurd (no_true t),
      λ z. absurd (n (is.1 (subst (IsDirectionOf c.point-corner.result.now.coords c.reach-d.result (i - 1) c.loop-k.k) (sym other)
          (to_direction p.dimension i f s c.point-corner.result.now.coords c.reach-d.result lo hi w.0 c.reach-d.ensures.value z c.loop-k.k (omega (arith, dn, kn)))))),
    )

pub loop-k-preserved : goal.loop-k-preserved
loop-k-preserved c =
    let p = c.args.problem.now in
    let i = c.args.i in
    let v = c.requires.valid in
    let lo = c.requires.least in
    let hi = c.requires.greatest in
    let h = support_of p v i lo hi in
    let s = support_at p i in
    let f = file_count_at p i in
    let points = points_at p i in
    let e = c.file_count-first.ensures in
    let dn = c.dim-k-end.ensures.value in
    let kn = c.loop-k-test.true in
    let fit : FitsSigned w128 c.reach-d.result = search rules in
    let is = simp to_z-of_z at c.is_direction.ensures in
    let y : IsTrue c.is_direction.result = search rules in
    let r : c.file_count-first.result + 1 + c.loop-k.k + 1 ≡ suc (f + suc c.loop-k.k) = omega (arith, e) in
    let other : point c.point-other.result.now ≡ with_rank 0 (direction_corner_at p i c.loop-k.k) = c.point-other.ensures.value ∙ ap (λ j. with_rank 0 (point_at s j)) r in
    λ j l. simp to_z-of_z (next_below (λ j. IsDirectionOf c.point-corner.result.now.coords c.reach-d.result (i - 1) j (direction_corner_at p i j)) c.loop-k.k
    (λ j l. let inv = simp to_z-of_z at (c.loop-k.invariant j l) in inv)
    (subst (IsDirectionOf c.point-corner.result.now.coords c.reach-d.result (i - 1) c.loop-k.k) other (is.0 y)) j l)

pub returns : goal.returns
returns c =
    let p = c.args.problem.now in
    let i = c.args.i in
    let v = c.requires.valid in
    let lo = c.requires.least in
    let hi = c.requires.greatest in
    let h = support_of p v i lo hi in
    let s = support_at p i in
    let f = file_count_at p i in
    let points = points_at p i in
    let e = c.file_count-first.ensures in
    let u = c.count.ensures in
    let q = c.if-count-first.false in
    let o : c.file_count-first.result + 1 ≡ suc f = omega (arith, e) in
    let corner : point c.point-corner.result.now ≡ with_rank 0 (point_at s (suc f)) = c.point-corner.ensures.value ∙ ap (λ j. with_rank 0 (point_at s j)) o in
    let long = with_corners_there p i h (omega (arith, e, u, q)) in
    let t : IsTrue c.is_first.result = search rules in
    let w = c.is_first.ensures.0 t in
    let dn = c.dim-k-end.ensures.value in
    let kn = c.loop-k-test.false in
    let fit : FitsSigned w128 c.reach-d.result = search rules in (
      λ t. from_directions p.dimension i f s c.point-corner.result.now.coords c.reach-d.result lo hi w.0 c.reach-d.ensures.value long (moving_at p v i lo hi) (subst (IsFirstOf points) corner w)
          (λ k l. let inv = simp to_z-of_z at (c.loop-k.invariant k (omega (arith, dn, kn, l))) in inv),
      λ z. refl,
    )
