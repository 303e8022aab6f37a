use Rattle.std.proofs.Common.{rules, ◌≡◌, ◌-ℤ◌, FitsSigned, to_z-of_z, ap₂, ◌∙◌, arith, sym}
use Rattle.std.specs.Int.{w64}
use Rattle.std.specs.Prelude.{IsTrue}
use Rattle.std.proofs.lemmas.Int.{ints}
use Rattle.cayley.specs.Problems.{Point, point_at}
use Rattle.cone_walls.specs.Listed.{line_of}
use Rattle.cone_walls.specs.Numbers.{beta}
use Rattle.cayley.specs.Stored.{point}
use Rattle.cayley.specs.Valid.{support_at}
use Rattle.cone_walls.proofs.Drifts.{growth_is, narrow_drift}
use Rattle.cone_walls.proofs.NarrowPoints.{narrow_between}
use Rattle.cone_walls.proofs.PassingLines.{own_front, idle_front, next_front}
use Rattle.cone_walls.proofs.passing.passed.Goals as goal

pub returns-then-is_own-clause-front : goal.returns-then-is_own-clause-front
returns-then-is_own-clause-front c =
    let t : IsTrue c.is_own.result = search rules in
    λ lines h. own_front c.args.normal.now c.args.i (support_at c.args.problem.now c.args.i) c.args.pair.0 c.args.pair.1 c.args.position lines c.args.front.now (c.is_own.ensures.0 t) h

pub drift_of-other-requires : goal.drift_of-other-requires
drift_of-other-requires c =
    let r = c.requires in
    narrow_drift c.args.problem.now c.point-c.ensures.valid c.args.normal.now r.p_long r.q_long r.room c.args.i r.least r.greatest c.args.position r.position (point c.point-c.result.now) c.point-c.ensures.value

pub growth-beta-requires-clause-narrow : goal.growth-beta-requires-clause-narrow
growth-beta-requires-clause-narrow c =
    let r = c.requires in
    narrow_between c.args.problem.now c.point-c.ensures.valid c.args.normal.now r.p_long r.q_long r.room c.args.i r.least r.greatest c.args.pair.0 c.args.position r.pair r.position (point c.args.a.now) (point c.point-c.result.now) r.first c.point-c.ensures.value

pub fallen-requires-clause-fall : goal.fallen-requires-clause-fall
fallen-requires-clause-fall c =
    let fd : FitsSigned w64 c.args.drift = c.ranges.drift in
    let fo : FitsSigned w64 c.drift_of-other.result = search rules in
    let fb : FitsSigned w64 c.growth-beta.result = search rules in
    let t = simp to_z-of_z at c.if-other-drift.false in
    let e = c.growth-beta.ensures ∙ sym (growth_is c.args.normal.now (point c.args.a.now) (point c.point-c.result.now)) ∙ ap₂ ◌-ℤ◌ (sym c.drift_of-other.ensures) (sym c.requires.drift) in
    simp to_z-of_z (omega (arith, ints, t, e))

pub fallen-requires-clause-narrow : goal.fallen-requires-clause-narrow
fallen-requires-clause-narrow c =
    let r = c.requires in
    narrow_between c.args.problem.now c.point-c.ensures.valid c.args.normal.now r.p_long r.q_long r.room c.args.i r.least r.greatest c.args.pair.0 c.args.position r.pair r.position (point c.args.a.now) (point c.point-c.result.now) r.first c.point-c.ensures.value

pub returns-then-other-drift-clause-front : goal.returns-then-other-drift-clause-front
returns-then-other-drift-clause-front c =
    let m = c.args.normal.now in
    let s = support_at c.args.problem.now c.args.i in
    let fd : FitsSigned w64 c.args.drift = c.ranges.drift in
    let fo : FitsSigned w64 c.drift_of-other.result = search rules in
    let n : ¬ (IsTrue c.is_own.result) = search rules in
    let t = simp to_z-of_z at c.if-other-drift.true in
    let e : c.drift_of-other.result -ℤ c.args.drift ≡ beta m (point_at s c.args.pair.0) (point_at s c.args.position) =
    ap₂ ◌-ℤ◌ c.drift_of-other.ensures c.requires.drift ∙ growth_is m (point c.args.a.now) (point c.point-c.result.now)
    ∙ ap₂ (λ (x y : Point). beta m x y) c.requires.first c.point-c.ensures.value in
    λ lines h. idle_front m c.args.i s c.args.pair.0 c.args.pair.1 c.args.position lines c.args.front.now (λ o. n (c.is_own.ensures.1 o)) (λ q. omega (arith, ints, t, e, q)) h

pub returns-clause-front : goal.returns-clause-front
returns-clause-front c =
    let m = c.args.normal.now in
    let s = support_at c.args.problem.now c.args.i in
    let n : ¬ (IsTrue c.is_own.result) = search rules in
    let e : line_of m c.args.i (point c.args.a.now) c.args.position (point c.point-c.result.now) ≡ line_of m c.args.i (point_at s c.args.pair.0) c.args.position (point_at s c.args.position) =
    ap₂ (λ (x y : Point). line_of m c.args.i x c.args.position y) c.requires.first c.point-c.ensures.value in
    λ lines h. next_front m c.args.i s c.args.pair.0 c.args.pair.1 c.args.position lines c.fallen.new.front (λ o. n (c.is_own.ensures.1 o))
    (line_of m c.args.i (point c.args.a.now) c.args.position (point c.point-c.result.now)) e (c.fallen.ensures.front lines h)
